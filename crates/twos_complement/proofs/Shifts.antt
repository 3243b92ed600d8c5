-- Shifts at every width, as code takes them in a word of v + w bits. Assumes nothing.
use mathlib.Core.Path.{◌≡◌, sym, ap, ◌∙◌, subst}
use Prim.Native.Nat.{ℕ, suc, ◌+◌, ◌-◌, ◌*◌, ◌/◌, ◌%◌, ◌^◌, ◌≤◌, ◌<◌}
use native.Mathlib.Nat.{mod-eq_of_lt, mod-lt, div-add-mod'}
use native.Mathlib.Omega.{arith}
use lib.Signed.{shr_z}
use lib.Pow.{pow_pos, pow-add, mod-mod-pow, shr_le, shr_lt}
use lib.Arith.{digits_lt, digits_mod}
use Rattle.twos_complement.specs.Whole.{wrap, shift_left, shift_right, shift_arith, rotate}
use Rattle.twos_complement.proofs.Laws.{half, signed_low, signed_high}

-- left
pub left : (v w n a : ℕ) → a * 2 ^ n % 2 ^ (v + w) % 2 ^ w ≡ shift_left w n a
unfolding shift_left
left v w n a = mod-mod-pow (a * 2 ^ n) v w

-- right with copies of the sign: the plain shift from zero on, below zero that of the complement
pub arith-low : (w n a : ℕ) → 1 ≤ w → a < 2 ^ (w - 1) → shift_right w n a ≡ shift_arith w n a
unfolding shift_right shift_arith wrap
arith-low w n a p l =
    let hw = half w p in
    let s = shr_le a n in
    sym (ap (λ z. wrap w (shr_z z (2 ^ n))) (signed_low w a l) ∙ mod-eq_of_lt (omega arith))

pub arith-high : (w n a : ℕ) → 2 ^ (w - 1) ≤ a → a < 2 ^ w → (2 ^ w - 1) - shift_right w n ((2 ^ w - 1) - a) ≡ shift_arith w n a
unfolding shift_right shift_arith wrap
arith-high w n a l u =
    let k = 2 ^ w - suc a in
    let e : (2 ^ w - 1) - a ≡ k = omega arith in
    let s = shr_le k n in
    let m : k / 2 ^ n % 2 ^ w ≡ k / 2 ^ n = mod-eq_of_lt (omega arith) in
    ap (λ (x : ℕ). (2 ^ w - 1) - x / 2 ^ n) e ∙ (let t : (2 ^ w - 1) - k / 2 ^ n ≡ 2 ^ w - suc (k / 2 ^ n) = omega arith in t)
    ∙ sym (ap (λ z. wrap w (shr_z z (2 ^ n))) (signed_high w a l) ∙ ap (λ (x : ℕ). 2 ^ w - suc x) m)

-- a number shifted left within a word keeps its low bits
pub shl-mod : (k n a : ℕ) → a * 2 ^ n % 2 ^ (k + n) ≡ a % 2 ^ k * 2 ^ n
shl-mod k n a =
    let d = div-add-mod' a (2 ^ k) in
    let m = mod-lt a (pow_pos k) in
    ap (λ (x : ℕ). x % 2 ^ (k + n)) (shape a (a / 2 ^ k) (a % 2 ^ k) (2 ^ k) (2 ^ n) d ∙ ap (λ (x : ℕ). a / 2 ^ k * x + a % 2 ^ k * 2 ^ n) (sym (pow-add 2 k n)))
    ∙ digits_mod (a / 2 ^ k) (subst (λ (x : ℕ). a % 2 ^ k * 2 ^ n < x) (sym (pow-add 2 k n)) (let q = digits_lt {r = 0} m (pow_pos n) in omega arith))
  where
    shape : (a q r K N : ℕ) → q * K + r ≡ a → a * N ≡ q * (K * N) + r * N
    shape a q r K N e = ap (λ (x : ℕ). x * N) (sym e) ∙ (let t : (q * K + r) * N ≡ q * (K * N) + r * N = omega arith in t)

-- left in a circle
pub circle : (v w n a : ℕ) → n ≤ w → a < 2 ^ w → (a * 2 ^ n % 2 ^ (v + w) % 2 ^ w + a / 2 ^ (w - n)) % 2 ^ w ≡ rotate w n a
unfolding rotate
circle v w n a h l =
    let k = w - n in
    let e : w - n + n ≡ w = omega arith in
    let e2 : n + (w - n) ≡ w = omega arith in
    let a1 : a * 2 ^ n % 2 ^ w ≡ a % 2 ^ k * 2 ^ n = subst (λ (x : ℕ). a * 2 ^ n % 2 ^ x ≡ a % 2 ^ k * 2 ^ n) e (shl-mod k n a) in
    let b : a / 2 ^ k < 2 ^ n = shr_lt n k (subst (λ (x : ℕ). a < 2 ^ x) (sym e2) l) in
    let c : a % 2 ^ k * 2 ^ n + a / 2 ^ k < 2 ^ w = subst (λ (x : ℕ). a % 2 ^ k * 2 ^ n + a / 2 ^ k < x) (sym (pow-add 2 k n) ∙ ap (λ (x : ℕ). 2 ^ x) e) (digits_lt (mod-lt a (pow_pos k)) b) in
    ap (λ (x : ℕ). (x + a / 2 ^ k) % 2 ^ w) (mod-mod-pow (a * 2 ^ n) v w ∙ a1) ∙ mod-eq_of_lt c
