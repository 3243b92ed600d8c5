-- Shifts by a number of places, at every width: what the code's shifts make in a wider word, of m bits. Assumes nothing.
use mathlib.Core.Path.{◌≡◌, sym, ap, ◌∙◌, subst}
use mathlib.Core.Bool.{true, false, not}
use Prim.Native.Nat.{ℕ, ◌+◌, ◌-◌, ◌*◌, ◌/◌, ◌%◌, ◌^◌, ◌≤◌, ◌<◌}
use native.Mathlib.Nat.{mod-add-mod, mod-eq_of_lt}
use native.Mathlib.Omega.{arith}
use lib.Bits.{bit_or, or_shifted}
use lib.IntN.{pos, ◌*ℤ◌}
use lib.Dec.{ltb, leb}
use lib.Pow.{pow_pos, shl_exact, shr_le, shr_lt}
use Rattle.twos_complement.specs.Whole.{holds, with_sign, shift_left, shift_right, rotate, sign_changes}
use Rattle.twos_complement.proofs.Laws.{signed_low}
use Rattle.twos_complement.proofs.Signs.{mul-sign, long-pos, long-neg, parts-high}
use Rattle.twos_complement.proofs.Shifts.{left, circle}

-- to the left
pub left-wide : (m w n a : ℕ) → w ≤ m → a * 2 ^ n % 2 ^ m % 2 ^ w ≡ shift_left w n a
left-wide m w n a g = subst (λ (x : ℕ). a * 2 ^ n % 2 ^ x % 2 ^ w ≡ shift_left w n a) (let e : m - w + w ≡ m = omega arith in e) (left (m - w) w n a)

-- the same from a number v that is given
pub left-wide-by : {v : ℕ} (m w n a : ℕ) → w ≤ m → v ≡ a * 2 ^ n % 2 ^ m → v % 2 ^ w ≡ shift_left w n a
left-wide-by m w n a g e = rw e (left-wide m w n a g)

-- to the right
pub right-wide : (w n a : ℕ) → a < 2 ^ w → a / 2 ^ n % 2 ^ w ≡ shift_right w n a
unfolding shift_right
right-wide w n a l = let s = shr_le a n in mod-eq_of_lt (omega arith)

-- the two ends of a rotation, put together by OR
pub around : (m w n a : ℕ) → w + w ≤ m → n ≤ w → a < 2 ^ w → bit_or (a * 2 ^ n % 2 ^ m) (a / 2 ^ (w - n)) % 2 ^ w ≡ rotate w n a
around m w n a g h l =
    let b = a / 2 ^ (w - n) in
    let e = shl_exact w n m l (omega arith) in
    let f = shl_exact w n (w + w) l (omega arith) in
    let s : a / 2 ^ (w - n) < 2 ^ n = shr_lt n (w - n) (subst (λ (x : ℕ). a < 2 ^ x) (let t : w ≡ n + (w - n) = omega arith in t) l) in
    ap (λ (x : ℕ). bit_or x b % 2 ^ w) e ∙ ap (λ (x : ℕ). x % 2 ^ w) (or_shifted a n b s) ∙ sym (mod-add-mod (a * 2 ^ n) (2 ^ w) b)
    ∙ ap (λ (x : ℕ). (x % 2 ^ w + b) % 2 ^ w) (sym f) ∙ circle w w n a h l

-- the sign changes: by the magnitude of the word, moved left
pub low-changes : (w n a : ℕ) → a < 2 ^ (w - 1) → leb (2 ^ (w - 1)) (a * 2 ^ n) ≡ sign_changes w n a
unfolding sign_changes with_sign
low-changes w n a l = sym (ap (λ z. not (holds w (z *ℤ pos (2 ^ n)))) (signed_low w a l) ∙ long-pos w (a * 2 ^ n))

pub high-changes : (w n a : ℕ) → 1 ≤ w → 2 ^ (w - 1) ≤ a → a < 2 ^ w → ltb (2 ^ (w - 1)) ((2 ^ w - a) * 2 ^ n) ≡ sign_changes w n a
unfolding sign_changes with_sign
high-changes w n a p l u =
    sym (ap (λ z. not (holds w (z *ℤ pos (2 ^ n)))) (parts-high w a p l u).number
    ∙ ap (λ z. not (holds w z)) (mul-sign true false (2 ^ w - a) (2 ^ n)) ∙ long-neg w ((2 ^ w - a) * 2 ^ n))

-- the same in the wider word
pub low-shifted : (m w n a : ℕ) → w + w ≤ m → n ≤ w → a < 2 ^ (w - 1) → a < 2 ^ w → leb (2 ^ (w - 1)) (a * 2 ^ n % 2 ^ m) ≡ sign_changes w n a
low-shifted m w n a g h l u = ap (leb (2 ^ (w - 1))) (shl_exact w n m u (omega arith)) ∙ low-changes w n a l

pub high-shifted : (m w n a : ℕ) → 1 ≤ w → w + w ≤ m → n ≤ w → 2 ^ (w - 1) ≤ a → a < 2 ^ w → ltb (2 ^ (w - 1)) ((2 ^ w - a) * 2 ^ n % 2 ^ m) ≡ sign_changes w n a
high-shifted m w n a p g h l u =
    let o = pow_pos (w - 1) in
    ap (ltb (2 ^ (w - 1))) (shl_exact w n m (let t : 2 ^ w - a < 2 ^ w = omega arith in t) (omega arith)) ∙ high-changes w n a p l u

-- the same from a test whose sign bit h and magnitude d are given
pub high-shifted-by : {h d : ℕ} (m w n a : ℕ) → 1 ≤ w → w + w ≤ m → n ≤ w → 2 ^ (w - 1) ≤ a → a < 2 ^ w → h ≡ 2 ^ (w - 1) → d ≡ 2 ^ w - a →
    ltb h (d * 2 ^ n % 2 ^ m) ≡ sign_changes w n a
high-shifted-by m w n a p g r l u eh ed = rw (eh, ed) (high-shifted m w n a p g r l u)
