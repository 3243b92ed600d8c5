-- The two calls on mnemonic lines, by what the calls that they make answer. Assumes nothing.
use Prim.Native.Nat.{ℕ}
use mathlib.Core.Path.{◌≡◌, refl, ap}
use mathlib.Core.List.{List, [], ◌∷◌}
use native.Mathlib.Omega.{arith}
use Rattle.std.proofs.Common.{Option, None, Some}
use Rattle.line.specs.Lines.{printed, print_number, Shows}
use Rattle.capi.specs.LineCalls.{LinePrinted}

-- a line that was printed has a length, and one that was not has none
length_in : Option ℕ → ℕ
length_in (Some n) = n
length_in None = 0

pub print-done : (text was is : List ℕ) (long n : ℕ) → Shows text was is (Some n) → LinePrinted text was is long n 0
unfolding printed print_number length_in
print-done [] was is long n s = absurd (let z : 0 ≡ 14 = ap print_number s.answer in let y : ⊥ = omega arith in y)
print-done (b ∷ t) was is long n s = record { answer-is = refl; bytes-is = s.bytes; length-is = ap length_in s.answer }

pub print-refused : (text was is : List ℕ) (long : ℕ) → Shows text was is None → LinePrinted text was is long long 14
unfolding printed print_number
print-refused [] was is long s = record { answer-is = refl; bytes-is = s.bytes; length-is = refl }
print-refused (b ∷ t) was is long s = absurd (let z : 14 ≡ 0 = ap print_number s.answer in let y : ⊥ = omega arith in y)
