-- What is left of a user's instruction that took a fast path, or was refused on it. Assumes nothing.
use Rattle.std.specs.Prelude.{ℕ, ◌≡◌, List, Err, Ok, Result}
use Rattle.page.specs.declared.Refusal.{Refusal}
use Rattle.decode.specs.Forms.{operation_of}
use Rattle.machine.specs.declared.Core.{Core}
use Rattle.machine.specs.declared.Instruction.{Instruction}
use Rattle.machine.specs.declared.Class.TheVariants.{User}
use Rattle.machine.specs.State.{Processor, joined, updated}
use Rattle.isa.specs.Mil1750.{class_of}
use Rattle.block_registers.specs.Operation.{verdict, Finished}
use Rattle.fast_accumulate.specs.declared.Ending.{Ending}

-- the core with IC, SW and PI of an ending
abbrev pub ended_core : Core → Ending → Core
ended_core c e = updated c e.ic e.sw e.pi

-- the operation is a user's; where all accesses are open, the processor with the ending's IC, SW and PI and the registers `after`, and the memory w, are those
-- after it; else the refusal is the first, and the registers and the memory are as they were
pub record Ended (p : Processor) (m g : List ℕ) (n : Instruction) (r : Result Ending Refusal) (after w : List ℕ) : Type 0 where
  pub by-user : class_of (operation_of n.form) ≡ User
  pub when-done : (e : Ending) → r ≡ Ok e → Finished p m g n (joined (ended_core p.core e) after) w
  pub when-refused : (b : Refusal) → r ≡ Err b → (verdict p m g n ≡ Err b) × (after ≡ p.regs) × (w ≡ m)
