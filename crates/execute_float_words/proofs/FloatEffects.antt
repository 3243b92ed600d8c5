-- The effects of floating point operations, from the operands as the code has them. Assumes nothing.
use Prim.Native.Nat.{ℕ, ◌+◌}
use mathlib.Core.Bool.{Bool}
use mathlib.Core.List.{[], ◌∷◌}
use mathlib.Core.Path.{◌≡◌, refl}
use lib.IntN.{ℤ}
use Rattle.twos_complement.specs.Whole.{signed}
use Rattle.word.specs.Pair.{pair, high_word, low_word}
use Rattle.word.specs.Status.{status}
use Rattle.float.specs.declared.Float.{Float}
use Rattle.float.specs.Float.{Result, given}
use Rattle.float_convert.specs.Convert.{compared_of, too_large, fixed_of}
use Rattle.machine.specs.declared.Instruction.{Instruction}
use Rattle.isa.specs.Fields.{field_a, register}
use Rattle.isa.specs.Addressing.{accumulator}
use Rattle.isa.specs.Words.{register_pair}
use Rattle.isa.specs.Effects.{Context, fixed_overflow, into_registers, tested}
use Rattle.isa.specs.Floats.{float24, float40, both24, both40, combined24, combined40, changed24, to_integer, to_double_integer}
use Rattle.execute_float_words.specs.Operands.{Operands, operands24, operands40}

-- the accumulator and the operand combined
pub combined24-is : (f : ℤ → ℕ → ℤ → ℕ → Result) (v : Context) (n : Instruction) (x y k : ℕ) (p : Operands) (g : Float) → k ≡ accumulator n → p ≡ operands24 v.regs n x y → g ≡ given 24 (f (signed 24 p.a) p.ea (signed 24 p.b) p.eb) → float24 v n k g ≡ combined24 f v n x y
unfolding combined24 both24 operands24
combined24-is f v n x y k p g ek ep eg = rw (eg, ep, ek) refl

pub combined40-is : (f : ℤ → ℕ → ℤ → ℕ → Result) (v : Context) (n : Instruction) (x y z k : ℕ) (p : Operands) (g : Float) → k ≡ field_a n.first → p ≡ operands40 v.regs n x y z → g ≡ given 40 (f (signed 40 p.a) p.ea (signed 40 p.b) p.eb) → float40 v n k g ≡ combined40 f v n x y z
unfolding combined40 both40 operands40
combined40-is f v n x y z k p g ek ep eg = rw (eg, ep, ek) refl

-- the operand alone
pub changed24-is : (f : ℤ → ℕ → Result) (v : Context) (n : Instruction) (x y k : ℕ) (p : Operands) (g : Float) → k ≡ field_a n.first → p ≡ operands24 v.regs n x y → g ≡ given 24 (f (signed 24 p.b) p.eb) → float24 v n k g ≡ changed24 f v n x y
unfolding changed24 operands24
changed24-is f v n x y k p g ek ep eg = rw (eg, ep, ek) refl

-- compared
pub compared24-is : (v : Context) (n : Instruction) (x y c : ℕ) (p : Operands) → p ≡ operands24 v.regs n x y → c ≡ compared_of (signed 24 p.a) p.ea (signed 24 p.b) p.eb → tested v n c ≡ tested v n (both24 compared_of v n x y)
unfolding both24 operands24
compared24-is v n x y c p ep ec = rw (ec, ep) refl

pub compared40-is : (v : Context) (n : Instruction) (x y z c : ℕ) (p : Operands) → p ≡ operands40 v.regs n x y z → c ≡ compared_of (signed 40 p.a) p.ea (signed 40 p.b) p.eb → tested v n c ≡ tested v n (both40 compared_of v n x y z)
unfolding both40 operands40
compared40-is v n x y z c p ep ec = rw (ec, ep) refl

-- as an integer
pub integer-is : (v : Context) (n : Instruction) (x y a g i s b : ℕ) (o : Bool) (p : Operands) → a ≡ field_a n.first → p ≡ operands24 v.regs n x y → g ≡ register v.regs a → i ≡ fixed_of 16 24 (signed 24 p.b) p.eb g → o ≡ too_large 16 p.eb → s ≡ status 16 i → b ≡ fixed_overflow o → into_registers v n a (i ∷ []) s b ≡ to_integer v n x y
unfolding to_integer operands24
integer-is v n x y a g i s b o p ea ep eg ei eo es eb = rw (eb, es, eo, ei, eg, ep, ea) refl

pub double-integer-is : (v : Context) (n : Instruction) (x y z a g g' j i s b h l : ℕ) (o : Bool) (p : Operands) → a ≡ field_a n.first → p ≡ operands40 v.regs n x y z → g ≡ register v.regs a → g' ≡ register v.regs (a + 1) → j ≡ pair g g' → i ≡ fixed_of 32 40 (signed 40 p.b) p.eb j → o ≡ too_large 32 p.eb → s ≡ status 32 i → b ≡ fixed_overflow o → h ≡ high_word i → l ≡ low_word i → into_registers v n a (h ∷ l ∷ []) s b ≡ to_double_integer v n x y z
unfolding to_double_integer operands40 register_pair
double-integer-is v n x y z a g g' j i s b h l o p ea ep eg eg' ej ei eo es eb eh el = rw (el, eh, eb, es, eo, ei, ej, eg', eg, ep, ea) refl
