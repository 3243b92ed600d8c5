-- Which operations are on blocks, what a user's operation leaves, and what an attempt at one tells. Assumes nothing.
use Rattle.std.specs.Prelude.{◌≡◌, ℕ, Bool, true, false, Option, Some, None, List, [], ◌∷◌, length, Ok, Result}
use Rattle.page.specs.declared.Refusal.{Refusal}
use Rattle.choice.specs.Select.{select}
use Rattle.machine.specs.declared.Core.{Core}
use Rattle.machine.specs.declared.Instruction.{Instruction}
use Rattle.machine.specs.Machine.{Effect}
use Rattle.machine.specs.State.{Processor, joined, key_of, group_of}
use Rattle.machine.specs.Step.{affected, stored}
use Rattle.machine.specs.Instructions.{both}
use Rattle.page.specs.declared.Access.TheVariants.{Read, Write}
use Rattle.page.specs.Spans.{checked, words_of}
use Rattle.isa.specs.Accesses.{reads_of, writes_of}
use Rattle.isa.specs.Mil1750.{context_of}
use Rattle.isa.specs.Execute.{executed}

-- LM POPM MOV STM PSHM XWR
unfoldable pub is_block : ℕ → Bool
is_block operation = select operation ((40, true) ∷ (44, true) ∷ (47, true) ∷ (50, true) ∷ (54, true) ∷ (90, true) ∷ []) false

-- the verdict on all accesses of the instruction n, from the processor p, in the memory m through the page registers g
abbrev pub verdict : Processor → List ℕ → List ℕ → Instruction → Result (Unit {0}) Refusal
verdict p m g n =
    both (checked (key_of p.core.sw) (group_of p.core.sw) g (length m) (reads_of p.regs n) Read)
    (checked (key_of p.core.sw) (group_of p.core.sw) g (length m) (writes_of p.regs n) Write)

-- the words that it reads
abbrev pub operand_words : Processor → List ℕ → List ℕ → Instruction → List ℕ
operand_words p m g n = words_of (key_of p.core.sw) (group_of p.core.sw) g (length m) (reads_of p.regs n) m

-- the processor q and the memory w are those after the effect e of the instruction n, from the processor p, the memory m and the page registers g
pub record Worked (p : Processor) (m g : List ℕ) (n : Instruction) (e : Effect) (q : Processor) (w : List ℕ) : Type 0 where
  pub processor-is : q ≡ affected p e
  pub memory-is : w ≡ stored p.core m g e (writes_of p.regs n)

-- all accesses of the instruction n are open, and it has worked
pub record Finished (p : Processor) (m g : List ℕ) (n : Instruction) (q : Processor) (w : List ℕ) : Type 0 where
  pub admitted : verdict p m g n ≡ Ok tt
  pub worked : Worked p m g n (executed (context_of p) n (operand_words p m g n)) q w

-- an attempt is finished, with the core that it gives, or has left the registers and the memory as they were
abbrev pub Attempted : Processor → List ℕ → List ℕ → Instruction → Option Core → List ℕ → List ℕ → Type 0
Attempted p m g n (Some core) regs w = Finished p m g n (joined core regs) w
Attempted p m g n None regs w = (regs ≡ p.regs) × (w ≡ m)
