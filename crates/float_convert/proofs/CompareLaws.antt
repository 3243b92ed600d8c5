-- Comparison by exact value at any width, from mantissas shifted to the larger exponent and the bits that they lose. Assumes nothing.
use mathlib.Core.Path.{◌≡◌, refl, sym, ap, ◌∙◌, subst}
use mathlib.Core.Bool.{true, false}
use mathlib.Core.Logic.{⊎_elim}
use Prim.Native.Nat.{ℕ, suc, ◌+◌, ◌-◌, ◌*◌, ◌/◌, ◌%◌, ◌^◌, ◌≤◌, ◌<◌}
use native.Mathlib.Nat.{mod-lt, div-add-mod', mul-le-mul_right, mul-lt-mul_of_pos_right}
use native.Mathlib.Omega.{arith}
use lib.IntN.{ℤ, pos, negsuc, sub_ℕ, ◌*ℤ◌}
use lib.Signed.{shr_z, lt_z}
use lib.Pow.{pow_pos, pow-add}
use borrow.Author.Tests.{lt-ltb, le-ltb}
use Rattle.twos_complement.specs.Whole.{signed, wrap}
use Rattle.twos_complement.proofs.Diff.{order, view, diff-pos, diff-neg, diff-eq, diff-mul, pos-diff}
use Rattle.twos_complement.proofs.Laws.{wrap-lt}
use Rattle.float.specs.Float.{Excess}
use Rattle.float_convert.specs.Convert.{compared, compared_of}

-- ---- order of two differences with one subtrahend

lt_yes : (a b c : ℕ) → a < b → lt_z (sub_ℕ a c) (sub_ℕ b c) ≡ true
lt_yes a b c l =
    view (λ z. lt_z z (sub_ℕ b c) ≡ true) a c
    (λ n e. view (λ z. lt_z (pos n) z ≡ true) b c (λ m f. lt-ltb n m (omega arith)) (λ m f. absurd (let x : ⊥ = omega arith in x)))
    (λ n e. view (λ z. lt_z (negsuc n) z ≡ true) b c (λ m f. refl) (λ m f. lt-ltb m n (omega arith)))

lt_no : (a b c : ℕ) → b ≤ a → lt_z (sub_ℕ a c) (sub_ℕ b c) ≡ false
lt_no a b c l =
    view (λ z. lt_z z (sub_ℕ b c) ≡ false) a c
    (λ n e. view (λ z. lt_z (pos n) z ≡ false) b c (λ m f. le-ltb n m (omega arith)) (λ m f. refl))
    (λ n e. view (λ z. lt_z (negsuc n) z ≡ false) b c (λ m f. absurd (let x : ⊥ = omega arith in x)) (λ m f. le-ltb m n (omega arith)))

pub below : (a b c : ℕ) → a < b → 1 ≡ compared (sub_ℕ a c) (sub_ℕ b c)
unfolding compared
below a b c l = rw (lt_yes a b c l) refl

pub above : (a b c : ℕ) → b < a → 4 ≡ compared (sub_ℕ a c) (sub_ℕ b c)
unfolding compared
above a b c l = rw (lt_no a b c (omega arith), lt_yes b a c l) refl

pub equal : (a b c : ℕ) → a ≡ b → 2 ≡ compared (sub_ℕ a c) (sub_ℕ b c)
unfolding compared
equal a b c l = rw (lt_no a b c (omega arith), lt_no b a c (omega arith)) refl

-- ---- a number is its shifted part, times the power, and the bits lost

floored : (k y h : ℕ) (z : ℤ) → shr_z z (2 ^ k) ≡ sub_ℕ y h → z ≡ sub_ℕ (y * 2 ^ k + wrap k z) (h * 2 ^ k)
unfolding wrap
floored k y h (pos b) =
    view (λ q. pos (b / 2 ^ k) ≡ q → pos b ≡ sub_ℕ (y * 2 ^ k + b % 2 ^ k) (h * 2 ^ k)) y h
    (λ n e f. let q : b / 2 ^ k ≡ n = cc in let d = div-add-mod' b (2 ^ k) in sym (diff-pos b (y * 2 ^ k + b % 2 ^ k) (h * 2 ^ k) (rw (e, sym q) (omega arith))))
    (λ n e f. absurd (let x : ◌≡◌ {A = ℕ} 0 1 = cc in omega arith))
floored k y h (negsuc b) =
    view (λ q. negsuc (b / 2 ^ k) ≡ q → negsuc b ≡ sub_ℕ (y * 2 ^ k + (2 ^ k - suc (b % 2 ^ k))) (h * 2 ^ k)) y h
    (λ n e f. absurd (let x : ◌≡◌ {A = ℕ} 0 1 = cc in omega arith))
    (λ n e f. let q : b / 2 ^ k ≡ n = cc in let d = div-add-mod' b (2 ^ k) in let l = mod-lt b (pow_pos k) in
    sym (diff-neg b (y * 2 ^ k + (2 ^ k - suc (b % 2 ^ k))) (h * 2 ^ k) (rw (e, sym q) (omega arith))))

-- and so is its product with a power
scaled : (z : ℤ) (x r h N A : ℕ) → z ≡ sub_ℕ (x * N + r) (h * N) → z *ℤ pos A ≡ sub_ℕ (x * (N * A) + r * A) (h * (N * A))
scaled z x r h N A e =
    ap (λ y. y *ℤ pos A) e ∙ ap (λ y. sub_ℕ (x * N + r) (h * N) *ℤ y) (pos-diff A) ∙ diff-mul (x * N + r) (h * N) A 0
    ∙ diff-eq ((x * N + r) * A + h * N * 0) ((x * N + r) * 0 + h * N * A) (x * (N * A) + r * A) (h * (N * A)) (omega arith)

lost-none : (k : ℕ) (z : ℤ) → k ≡ 0 → wrap k z ≡ 0
lost-none k z e = let l : wrap k z < 2 ^ k = wrap-lt k z in let t : 2 ^ k ≡ 1 = ap (λ (j : ℕ). 2 ^ j) e in omega arith

-- ---- the five answers: x and y are the two mantissas in excess form, shifted to the larger exponent

module _ (w a ea b eb n k x y : ℕ) (en : n ≡ eb - ea) (ek : k ≡ ea - eb)
    (hx : Excess w x (shr_z (signed w a) (2 ^ n))) (hy : Excess w y (shr_z (signed w b) (2 ^ k))) where
  M : ℕ
  M = 2 ^ n * 2 ^ ea

  -- the bits lost, at their place
  ra : ℕ
  ra = wrap n (signed w a) * 2 ^ ea

  sb : ℕ
  sb = wrap k (signed w b) * 2 ^ eb

  one_power : 2 ^ k * 2 ^ eb ≡ M
  unfolding M
  one_power = sym (pow-add 2 k eb) ∙ ap (λ (j : ℕ). 2 ^ j) (let t : k + eb ≡ n + ea = omega arith in t) ∙ pow-add 2 n ea

  both : compared (sub_ℕ (x * M + ra) (2 ^ (w - 1) * M)) (sub_ℕ (y * M + sb) (2 ^ (w - 1) * M)) ≡ compared_of (signed w a) ea (signed w b) eb
  unfolding compared_of M ra sb
  both =
      rw (
        scaled (signed w a) x (wrap n (signed w a)) (2 ^ (w - 1)) (2 ^ n) (2 ^ ea) (floored n x (2 ^ (w - 1)) (signed w a) hx.number),
        scaled (signed w b) y (wrap k (signed w b)) (2 ^ (w - 1)) (2 ^ k) (2 ^ eb) (floored k y (2 ^ (w - 1)) (signed w b) hy.number),
        one_power,
      ) refl

  small-a : ra < M
  unfolding M ra
  small-a = mul-lt-mul_of_pos_right (wrap-lt n (signed w a)) (pow_pos ea)

  small_b : sb < M
  unfolding sb
  small_b = subst (λ (j : ℕ). sb < j) one_power (mul-lt-mul_of_pos_right (wrap-lt k (signed w b)) (pow_pos eb))

  pub is_below : x < y → 1 ≡ compared_of (signed w a) ea (signed w b) eb
  is_below l = let s = small-a in let q = mul-le-mul_right M l in below (x * M + ra) (y * M + sb) (2 ^ (w - 1) * M) (omega arith) ∙ both

  pub is-above : y < x → 4 ≡ compared_of (signed w a) ea (signed w b) eb
  is-above l = let s = small_b in let q = mul-le-mul_right M l in above (x * M + ra) (y * M + sb) (2 ^ (w - 1) * M) (omega arith) ∙ both

  module _ (e : x ≡ y) where
    same_place : x * M ≡ y * M
    same_place = ap (λ (j : ℕ). j * M) e

    -- only one side is shifted
    pub lost-a : 0 < wrap n (signed w a) → 4 ≡ compared_of (signed w a) ea (signed w b) eb
    unfolding ra sb
    lost-a g =
        let z : wrap k (signed w b) ≡ 0 = ⊎_elim (λ l. lost-none k (signed w b) (omega arith)) (λ l. absurd (let t = lost-none n (signed w a) (omega arith) in omega arith)) (order 0 n) in
        let q : sb ≡ 0 * 2 ^ eb = ap (λ (j : ℕ). j * 2 ^ eb) z in
        let r = mul-lt-mul_of_pos_right g (pow_pos ea) in
        let s = same_place in
        above (x * M + ra) (y * M + sb) (2 ^ (w - 1) * M) (omega arith) ∙ both

    module _ (z : wrap n (signed w a) ≡ 0) where
      none-a : ra ≡ 0 * 2 ^ ea
      unfolding ra
      none-a = ap (λ (j : ℕ). j * 2 ^ ea) z

      pub lost-b : 0 < wrap k (signed w b) → 1 ≡ compared_of (signed w a) ea (signed w b) eb
      unfolding sb
      lost-b g = let q = none-a in let r = mul-lt-mul_of_pos_right g (pow_pos eb) in let s = same_place in below (x * M + ra) (y * M + sb) (2 ^ (w - 1) * M) (omega arith) ∙ both

      pub is-equal : wrap k (signed w b) ≡ 0 → 2 ≡ compared_of (signed w a) ea (signed w b) eb
      unfolding sb
      is-equal g = let q = none-a in let r : sb ≡ 0 * 2 ^ eb = ap (λ (j : ℕ). j * 2 ^ eb) g in let s = same_place in equal (x * M + ra) (y * M + sb) (2 ^ (w - 1) * M) (omega arith) ∙ both
