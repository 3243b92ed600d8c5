-- Laws of `signed`, `wrap` and `holds` at every width. Assumes nothing.
use mathlib.Core.Path.{◌≡◌, sym, ap, ◌∙◌, subst}
use mathlib.Core.Bool.{Bool, true, false, cond}
use mathlib.Core.Logic.{⊎_elim}
use Prim.Native.Nat.{ℕ, suc, ◌+◌, ◌-◌, ◌*◌, ◌/◌, ◌%◌, ◌^◌, ◌≤◌, ◌<◌}
use native.Mathlib.Nat.{mul-le-mul_right, add-mul-mod_self_right, mod-eq_of_lt, mod-lt, div-add-mod', add-mod_right}
use native.Mathlib.Omega.{arith}
use lib.IntN.{ℤ, pos, negsuc, sub_ℕ, ◌+ℤ◌, ◌-ℤ◌}
use lib.Signed.{mag}
use lib.Pow.{pow_pos, pow-add, mod-mod-pow}
use lib.Arith.{digits_mod}
use borrow.Author.Tests.{lt-ltb, le-ltb}
use Rattle.twos_complement.specs.Whole.{signed, wrap, holds}
use Rattle.twos_complement.proofs.Diff.{order, view, diff-pos, diff-neg, diff-eq, diff-add, diff-sub, diff-mag, diff-mag-low, diff-mag-high}

-- 2^w is twice 2^(w-1)
pub half : (w : ℕ) → 1 ≤ w → 2 ^ w ≡ 2 ^ (w - 1) + 2 ^ (w - 1)
half w p = ap (λ (n : ℕ). 2 ^ n) (let e : w ≡ (w - 1) + 1 = omega arith in e) ∙ pow-add 2 (w - 1) 1 ∙ (let e : 2 ^ (w - 1) * 2 ≡ 2 ^ (w - 1) + 2 ^ (w - 1) = omega arith in e)

-- the number that w bits stand for, by their sign
pub signed_low : (w n : ℕ) → n < 2 ^ (w - 1) → signed w n ≡ pos n
unfolding signed
signed_low w n l = ap (λ (t : Bool). cond t (pos n) (negsuc (2 ^ w - suc n))) (lt-ltb n (2 ^ (w - 1)) l)

pub signed_high : (w n : ℕ) → 2 ^ (w - 1) ≤ n → signed w n ≡ negsuc (2 ^ w - suc n)
unfolding signed
signed_high w n l = ap (λ (t : Bool). cond t (pos n) (negsuc (2 ^ w - suc n))) (le-ltb n (2 ^ (w - 1)) l)

-- w bits and the number they stand for differ by a multiple of 2^w
pub signed-diff : (w n : ℕ) → n < 2 ^ w → (k : ℕ) × (signed w n ≡ sub_ℕ n (k * 2 ^ w))
signed-diff w n l =
    ⊎_elim (λ h. (0, signed_low w n h ∙ sym (diff-pos n n (0 * 2 ^ w) (omega arith))))
    (λ h. (1, signed_high w n h ∙ sym (diff-neg (2 ^ w - suc n) n (1 * 2 ^ w) (omega arith))))
    (order n (2 ^ (w - 1)))

-- p is a multiple of M less n + 1: its remainder
pub below : (M p k n : ℕ) → 0 < M → k * M ≡ p + suc n → M - suc (n % M) ≡ p % M
below M p k n pp e =
    let m = mod-lt n pp in
    let d = div-add-mod' n M in
    let q : n / M < k = ⊎_elim (λ h. h) (λ h. absurd (let x = mul-le-mul_right M h in omega arith)) (order (n / M) k) in
    let j : k - suc (n / M) + suc (n / M) ≡ k = omega arith in
    sym (ap (λ (x : ℕ). x % M) (shape (n / M) (k - suc (n / M)) (n % M) m d (ap (λ (x : ℕ). x * M) j ∙ e)) ∙ digits_mod (k - suc (n / M)) (omega arith))
  where
    shape : (q j r : ℕ) → r < M → q * M + r ≡ n → (j + suc q) * M ≡ p + suc n → p ≡ j * M + (M - suc r)
    shape q j r a b c = omega arith

-- the low bits of a difference by a multiple of 2^w
pub wrap-diff : (w p k : ℕ) → wrap w (sub_ℕ p (k * 2 ^ w)) ≡ p % 2 ^ w
unfolding wrap
wrap-diff w p k =
    view (λ z. wrap w z ≡ p % 2 ^ w) p (k * 2 ^ w)
    (λ n e. sym (add-mul-mod_self_right n k (2 ^ w)) ∙ ap (λ (x : ℕ). x % 2 ^ w) (sym e))
    (λ n e. below (2 ^ w) p k n (pow_pos w) e)

-- the sum and the difference at w bits are those of the bits, modulo 2^w
pub wrap-add : (w a b : ℕ) → a < 2 ^ w → b < 2 ^ w → wrap w (signed w a +ℤ signed w b) ≡ (a + b) % 2 ^ w
wrap-add w a b la lb =
    let x = signed-diff w a la in
    let y = signed-diff w b lb in
    ap (wrap w)
    (ap (λ z. z +ℤ signed w b) x.1 ∙ ap (λ z. sub_ℕ a (x.0 * 2 ^ w) +ℤ z) y.1 ∙ diff-add a (x.0 * 2 ^ w) b (y.0 * 2 ^ w)
    ∙ diff-eq (a + b) (x.0 * 2 ^ w + y.0 * 2 ^ w) (a + b) ((x.0 + y.0) * 2 ^ w) (omega arith))
    ∙ wrap-diff w (a + b) (x.0 + y.0)

pub wrap-sub : (w a b : ℕ) → a < 2 ^ w → b < 2 ^ w → wrap w (signed w a -ℤ signed w b) ≡ (a + (2 ^ w - b)) % 2 ^ w
wrap-sub w a b la lb =
    let x = signed-diff w a la in
    let y = signed-diff w b lb in
    ap (wrap w)
    (ap (λ z. z -ℤ signed w b) x.1 ∙ ap (λ z. sub_ℕ a (x.0 * 2 ^ w) -ℤ z) y.1 ∙ diff-sub a (x.0 * 2 ^ w) b (y.0 * 2 ^ w)
    ∙ diff-eq (a + y.0 * 2 ^ w) (x.0 * 2 ^ w + b) (a + (2 ^ w - b) + y.0 * 2 ^ w) ((x.0 + 1) * 2 ^ w) (omega arith))
    ∙ wrap-diff w (a + (2 ^ w - b) + y.0 * 2 ^ w) (x.0 + 1)
    ∙ add-mul-mod_self_right (a + (2 ^ w - b)) y.0 (2 ^ w)

-- the excess form: the bits with the top one turned over, less 2^(w-1)
pub excess : (w n : ℕ) → 1 ≤ w → n < 2 ^ w → signed w n ≡ sub_ℕ ((n + 2 ^ (w - 1)) % 2 ^ w) (2 ^ (w - 1))
excess w n p l =
    let hw = half w p in
    ⊎_elim
    (λ h. signed_low w n h ∙ sym (diff-pos n ((n + 2 ^ (w - 1)) % 2 ^ w) (2 ^ (w - 1)) (mod-eq_of_lt (omega arith))))
    (λ h. signed_high w n h ∙ sym (diff-neg (2 ^ w - suc n) ((n + 2 ^ (w - 1)) % 2 ^ w) (2 ^ (w - 1))
    (let e : (n + 2 ^ (w - 1)) % 2 ^ w ≡ n - 2 ^ (w - 1) = ap (λ (x : ℕ). x % 2 ^ w) (let f : n + 2 ^ (w - 1) ≡ (n - 2 ^ (w - 1)) + 2 ^ w = omega arith in f) ∙ add-mod_right (n - 2 ^ (w - 1)) (2 ^ w) ∙ mod-eq_of_lt (omega arith) in omega arith)))
    (order n (2 ^ (w - 1)))

-- the range of a difference
pub holds-yes : (w a b : ℕ) → b ≤ a + 2 ^ (w - 1) → a < b + 2 ^ (w - 1) → holds w (sub_ℕ a b) ≡ true
unfolding holds
holds-yes w a b l u = lt-ltb (mag (sub_ℕ a b)) (2 ^ (w - 1)) (diff-mag a b (2 ^ (w - 1)) l u)

pub holds-low : (w a b : ℕ) → a + 2 ^ (w - 1) < b → holds w (sub_ℕ a b) ≡ false
unfolding holds
holds-low w a b l = le-ltb (mag (sub_ℕ a b)) (2 ^ (w - 1)) (diff-mag-low a b (2 ^ (w - 1)) l)

pub holds-high : (w a b : ℕ) → b + 2 ^ (w - 1) ≤ a → holds w (sub_ℕ a b) ≡ false
unfolding holds
holds-high w a b l = le-ltb (mag (sub_ℕ a b)) (2 ^ (w - 1)) (diff-mag-high a b (2 ^ (w - 1)) l)

-- the low bits of the low bits
pub wrap-wrap : (v w : ℕ) (z : ℤ) → wrap (v + w) z % 2 ^ w ≡ wrap w z
unfolding wrap
wrap-wrap v w (pos n) = mod-mod-pow n v w
wrap-wrap v w (negsuc n) =
    let m = mod-lt n (pow_pos (v + w)) in
    let e = pow-add 2 v w in
    sym (ap (λ (x : ℕ). 2 ^ w - suc x) (sym (mod-mod-pow n v w)) ∙ below (2 ^ w) (2 ^ (v + w) - suc (n % 2 ^ (v + w))) (2 ^ v) (n % 2 ^ (v + w)) (pow_pos w) (omega arith))

-- w bits hold what they stand for, and give back a number that they hold
pub signed-mag : (w n : ℕ) → 1 ≤ w → n < 2 ^ w → mag (signed w n) < 2 ^ (w - 1)
signed-mag w n p l =
    let hw = half w p in
    ⊎_elim (λ h. subst (λ z. mag z < 2 ^ (w - 1)) (sym (signed_low w n h)) h) (λ h. subst (λ z. mag z < 2 ^ (w - 1)) (sym (signed_high w n h)) (let t : 2 ^ w - suc n < 2 ^ (w - 1) = omega arith in t)) (order n (2 ^ (w - 1)))

pub signed-wrap : (w : ℕ) (z : ℤ) → 1 ≤ w → mag z < 2 ^ (w - 1) → signed w (wrap w z) ≡ z
unfolding wrap
signed-wrap w (pos n) p l =
    let hw = half w p in
    let e : n % 2 ^ w ≡ n = mod-eq_of_lt (omega arith) in
    ap (signed w) e ∙ signed_low w n l
signed-wrap w (negsuc n) p l =
    let hw = half w p in
    let e : n % 2 ^ w ≡ n = mod-eq_of_lt (omega arith) in
    ap (λ (x : ℕ). signed w (2 ^ w - suc x)) e ∙ signed_high w (2 ^ w - suc n) (omega arith) ∙ ap negsuc (omega arith)

-- the low bits are w bits, and those of what w bits stand for are these
pub wrap-lt : (w : ℕ) (z : ℤ) → wrap w z < 2 ^ w
unfolding wrap
wrap-lt w (pos n) = mod-lt n (pow_pos w)
wrap-lt w (negsuc n) = let p = pow_pos w in omega arith

pub wrap-signed : (w n : ℕ) → n < 2 ^ w → wrap w (signed w n) ≡ n
wrap-signed w n l = let x = signed-diff w n l in ap (wrap w) x.1 ∙ wrap-diff w n x.0 ∙ mod-eq_of_lt l
