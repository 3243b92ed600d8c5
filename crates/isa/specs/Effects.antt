-- What a user's operation sees of the state, and the shapes of what it does. What a shape does not name it keeps. Assumes nothing.
use Rattle.std.specs.Prelude.{ℕ, Bool, cond, List, [], ◌∷◌}
use Rattle.std.specs.Int.Bits.{bit_or}
use Rattle.decode.specs.Forms.{mode_of}
use Rattle.machine.specs.declared.Instruction.{Instruction}
use Rattle.machine.specs.State.{cs_of}
use Rattle.machine.specs.Machine.{Effect, next_of}
use Rattle.word.specs.Pair.{high_word, low_word}
use Rattle.word.specs.Status.{status}
use Rattle.isa.specs.Fields.{field_b, with_registers}
use Rattle.isa.specs.Addressing.{is_register}

-- registers, SW and PI
pub record Context : Type 0 where
  pub regs : List ℕ
  pub sw : ℕ
  pub pi : ℕ

-- PI bit 4, fixed point overflow
unfoldable pub fixed_overflow : Bool → ℕ
fixed_overflow o = cond o 0x0800 0

-- PI bits 3 and 6, floating point overflow and underflow
unfoldable pub float_faults : Bool → Bool → ℕ
float_faults o u = cond o 0x1000 (cond u 0x0200 0)

-- three words to store, of which the instruction's span takes the first ones; 0 stands where there is none
abbrev pub three : ℕ → ℕ → ℕ → List ℕ
three x y z = x ∷ y ∷ z ∷ []

-- registers from k on get values; on to the address a; CS is set; PI bits are added; words are stored
unfoldable pub effect : Context → ℕ → List ℕ → ℕ → ℕ → ℕ → List ℕ → Effect
effect v k vs a cs bits ws = record { regs = with_registers v.regs k vs; ic = a; cs = cs; pi = bit_or v.pi bits; words = ws }

-- registers from k on get values, CS is set, PI bits are added
unfoldable pub into_registers : Context → Instruction → ℕ → List ℕ → ℕ → ℕ → Effect
into_registers v n k vs cs bits = effect v k vs (next_of n) cs bits (three 0 0 0)

-- register k gets a word, and CS its status
unfoldable pub single : Context → Instruction → ℕ → ℕ → Effect
single v n k x = into_registers v n k (x ∷ []) (status 16 x) 0

-- registers k and k + 1 get a double word, and CS its status
unfoldable pub double : Context → Instruction → ℕ → ℕ → Effect
double v n k x = into_registers v n k (high_word x ∷ low_word x ∷ []) (status 32 x) 0

-- register k gets a word
unfoldable pub loaded : Context → Instruction → ℕ → ℕ → Effect
loaded v n k x = into_registers v n k (x ∷ []) (cs_of v.sw) 0

-- CS is set
unfoldable pub tested : Context → Instruction → ℕ → Effect
tested v n cs = into_registers v n 0 [] cs 0

-- up to three words are stored
unfoldable pub stored : Context → Instruction → ℕ → ℕ → ℕ → Effect
stored v n x y z = effect v 0 [] (next_of n) (cs_of v.sw) 0 (three x y z)

-- a word is stored, CS is set, PI bits are added
unfoldable pub modified : Context → Instruction → ℕ → ℕ → ℕ → Effect
modified v n x cs bits = effect v 0 [] (next_of n) cs bits (three x 0 0)

-- a word replaces the operand, in register RB or in memory
unfoldable pub replaced : Context → Instruction → ℕ → Effect
replaced v n x = cond (is_register (mode_of n.form)) (loaded v n (field_b n.first) x) (stored v n x 0 0)

-- on to the derived address where the condition holds, else to the next instruction
unfoldable pub jumped : Context → Instruction → Bool → Effect
jumped v n taken = effect v 0 [] (cond taken n.address (next_of n)) (cs_of v.sw) 0 (three 0 0 0)

-- nothing: on to the next instruction
unfoldable pub nothing : Context → Instruction → Effect
nothing v n = effect v 0 [] (next_of n) (cs_of v.sw) 0 (three 0 0 0)
