-- Floating point multiply with a mantissa of any width w, as the code goes. Assumes nothing.
use mathlib.Core.Path.{◌≡◌, refl, sym, ap, ap₂, ◌∙◌, subst}
use mathlib.Core.Bool.{Bool, true, false, not, cond}
use mathlib.Core.Logic.{⊎_elim}
use Prim.Native.Nat.{ℕ, ◌+◌, ◌-◌, ◌*◌, ◌/◌, ◌%◌, ◌^◌, ◌≤◌, ◌<◌}
use native.Mathlib.Nat.{div-add-mod', mul-pos, mul-le-mul, zero-mul, le-div_iff_mul-le, eq-zero-or-pos}
use native.Mathlib.Omega.{arith}
use lib.IntN.{ℤ, pos, nat_abs, ◌*ℤ◌}
use lib.Signed.{non_neg}
use lib.Dec.{ltb, lit<}
use lib.Pow.{pow_pos, pow-add}
use borrow.Author.Tests.{lt-ltb, le-ltb}
use Rattle.twos_complement.specs.Whole.{with_sign}
use Rattle.twos_complement.proofs.Signs.{mul-sign}
use Rattle.float.specs.Float.{overflowed, float_zero}
use Rattle.float_exact.specs.Exact.{truncated, signs_differ, overflow_of}
use Rattle.float_exact.specs.Steps.{one_if, Led, signed_by, ranged}
use Rattle.float_exact.proofs.Ratios.{less-digit}
use Rattle.float_exact.proofs.StepLaws.{led-pos}
use Rattle.float_exact.proofs.ExactLaws.{times, by-magnitude, differ-is, over_by, differ-none, truncated-zero, Value, value-by, exact-float}
use Rattle.float_exact.proofs.NarrowLaws.{upper_of, upper-zero, upper-over, upper-cond, truncated-upper, magnitude-wider, signs-wider}
use Rattle.float_mul.specs.Multiply.{product_of}

-- the product of a and b by two digits of a in the base P
pub long-product : (P a b v : ℕ) → v ≤ 1 → 0 < P → 0 < a * b → a / P * b + (a % P * b + P - v) / P - 1 ≡ (a * b - v) / P
long-product P a b v l p q =
    let e : a / P * b * P + a % P * b ≡ a * b = shape (a / P) (a % P) (div-add-mod' a P) in
    less-digit (a / P * b) P (a % P * b) v l p (subst (λ (x : ℕ). 0 < x) (sym e) q) ∙ ap (λ (x : ℕ). (x - v) / P) e
  where
    shape : (h r : ℕ) → h * P + r ≡ a → h * b * P + r * b ≡ a * b
    shape h r e = (let t : h * b * P + r * b ≡ (h * P + r) * b = omega arith in t) ∙ ap (λ (x : ℕ). x * b) e

-- the product of two numbers of 40 bits has more than 38 left
pub product-long : (a b v : ℕ) → v ≤ 1 → 2 ^ 39 ≤ a → 2 ^ 39 ≤ b → 2 ^ 38 ≤ (a * b - v) / 2 ^ 20
product-long a b v l x y = (le-div_iff_mul-le {k = 2 ^ 20} {x = 2 ^ 38} {y = a * b - v} (lit< tt)).1 (omega (arith, mul-le-mul {n₁ = 2 ^ 39} {m₁ = 2 ^ 39} x y))

-- the exact product by sign and magnitude
product-sign : (z y : ℤ) (k : ℕ) → z *ℤ y *ℤ pos k ≡ with_sign (signs_differ z y) (nat_abs z * nat_abs y * k)
product-sign z y k =
    ap (λ x. x *ℤ pos k) (ap₂ (λ u v. u *ℤ v) (by-magnitude z) (by-magnitude y) ∙ mul-sign (not (non_neg z)) (not (non_neg y)) (nat_abs z) (nat_abs y) ∙ ap (λ (b : Bool). with_sign b (nat_abs z * nat_abs y)) (differ-is z y))
    ∙ times (signs_differ z y) (nat_abs z * nat_abs y) k

product_value : {neg : Bool} (w n : ℕ) (z y : ℤ) → signs_differ z y ≡ neg → 0 < nat_abs z * nat_abs y → Value (z *ℤ y *ℤ pos (2 ^ n)) (pos (2 ^ (w + 127))) neg (nat_abs z * nat_abs y * 2 ^ n) (2 ^ (w + 127))
unfolding with_sign
product_value w n z y e p =
    value-by (signs_differ z y) false (nat_abs z * nat_abs y * 2 ^ n) (2 ^ (w + 127)) (product-sign z y (2 ^ n)) refl (differ-none (signs_differ z y) ∙ e) (mul-pos p (pow_pos n)) (pow_pos (w + 127))

value-zero : (w n : ℕ) (z y : ℤ) → nat_abs z * nat_abs y ≡ 0 → truncated w (z *ℤ y *ℤ pos (2 ^ n)) (pos (2 ^ (w + 127))) ≡ float_zero false
value-zero w n z y e =
    ap (λ x. truncated w x (pos (2 ^ (w + 127)))) (product-sign z y (2 ^ n))
    ∙ truncated-zero w (signs_differ z y) (nat_abs z * nat_abs y * 2 ^ n) (pos (2 ^ (w + 127))) (ap (λ (x : ℕ). x * 2 ^ n) e ∙ zero-mul (2 ^ n))

-- ---- the ways through the code

module _ (w : ℕ) (z y : ℤ) (ea eb : ℕ) where
  pub product-over : {neg : Bool} → neg ≡ signs_differ z y → 383 < ea + eb → overflowed w (with_sign neg 1) ≡ product_of w z ea y eb
  unfolding product_of
  product-over e g = rw (lt-ltb 383 (ea + eb) g) (over_by w z y e)

  module _ (g : ea + eb ≤ 383) where
    pub product-under : ea + eb < 128 → float_zero true ≡ product_of w z ea y eb
    unfolding product_of
    product-under l = rw (le-ltb 383 (ea + eb) g, lt-ltb (ea + eb) 128 l) refl

    module _ (l : 128 ≤ ea + eb) where
      inside : truncated w (z *ℤ y *ℤ pos (2 ^ (ea + eb))) (pos (2 ^ (w + 127))) ≡ product_of w z ea y eb
      unfolding product_of
      inside = rw (le-ltb 383 (ea + eb) g, le-ltb (ea + eb) 128 l) refl

      pub product-zero : nat_abs z * nat_abs y ≡ 0 → float_zero false ≡ product_of w z ea y eb
      product-zero e = sym (value-zero w (ea + eb) z y e) ∙ inside

      -- q is the product of the two magnitudes moved to the top, less its last h bits, and k of its bits do not count
      pub product-done : {i x j x' : ℕ} {neg : Bool} (q c h k : ℕ) → Led w (nat_abs z) i x → Led w (nat_abs y) j x' → neg ≡ signs_differ z y → q ≡ (x * x' - one_if neg) / 2 ^ h →
          c + h ≡ w + 127 → 2 ≤ w → 2 ^ (w - 2) ≤ q / 2 ^ k → q / 2 ^ k < 2 ^ (w - 1) → ranged w (signed_by neg (q / 2 ^ k)) (ea + eb + k) (i + j + c) ≡ product_of w z ea y eb
      product-done {i} {x} {j} {x'} q c h k X Y hs hq e t lo hi =
          sym (exact-float w (x * x') (2 ^ h) q (ea + eb) (i + j + c) k (product_value w (ea + eb) z y (sym hs) (mul-pos (led-pos X).0 (led-pos Y).0))
          hq (rw (X.moved, Y.moved, pow-add 2 (i + j) c, pow-add 2 i j, ← e, pow-add 2 c h) (shape (nat_abs z) (nat_abs y) (2 ^ (ea + eb)) (2 ^ h) (2 ^ i) (2 ^ j) (2 ^ c)))
          (mul-pos (led-pos X).1 (led-pos Y).1) (pow_pos h) t lo hi)
          ∙ inside
        where
          shape : (A B E H I K C : ℕ) → A * B * E * H * (I * K * C) ≡ A * I * (B * K) * (C * H) * E
          shape A B E H I K C = omega arith

-- ---- the product at w bits is the upper part of that at w + v

module _ (w v : ℕ) (o : 2 ≤ w) (z y : ℤ) where
  abbrev z' : ℤ
  z' = z *ℤ pos (2 ^ v)

  abbrev y' : ℤ
  y' = y *ℤ pos (2 ^ v)

  sizes : nat_abs z' * nat_abs y' ≡ nat_abs z * nat_abs y * (2 ^ v * 2 ^ v)
  sizes = ap₂ (λ (a b : ℕ). a * b) (magnitude-wider v z) (magnitude-wider v y) ∙ shape (nat_abs z) (nat_abs y) (2 ^ v)
    where
      shape : (A B K : ℕ) → A * K * (B * K) ≡ A * B * (K * K)
      shape A B K = omega arith

  powers : 2 ^ (w + v + 127) ≡ 2 ^ (w + 127) * 2 ^ v
  powers = ap (λ (x : ℕ). 2 ^ x) (let t : w + v + 127 ≡ w + 127 + v = omega arith in t) ∙ pow-add 2 (w + 127) v

  inside-upper : (n : ℕ) → upper_of v (truncated (w + v) (z' *ℤ y' *ℤ pos (2 ^ n)) (pos (2 ^ (w + v + 127)))) ≡ truncated w (z *ℤ y *ℤ pos (2 ^ n)) (pos (2 ^ (w + 127)))
  inside-upper n =
      ⊎_elim (λ e. ap (upper_of v) (value-zero (w + v) n z' y' (sizes ∙ ap (λ (x : ℕ). x * (2 ^ v * 2 ^ v)) e ∙ zero-mul (2 ^ v * 2 ^ v))) ∙ upper-zero v false ∙ sym (value-zero w n z y e))
      (λ p. truncated-upper w v o (product_value w n z y refl p) (product_value (w + v) n z' y' (signs-wider v z y) (rw sizes (mul-pos p (mul-pos (pow_pos v) (pow_pos v)))))
      (rw (sizes, powers) (shape (nat_abs z * nat_abs y) (2 ^ n) (2 ^ (w + 127)) (2 ^ v))))
      (eq-zero-or-pos (nat_abs z * nat_abs y))
    where
      shape : (P E M K : ℕ) → P * E * (M * K * K) ≡ P * (K * K) * E * M
      shape P E M K = omega arith

  pub product-upper : (ea eb : ℕ) → upper_of v (product_of (w + v) z' ea y' eb) ≡ product_of w z ea y eb
  unfolding product_of overflow_of
  product-upper ea eb =
      upper-cond v (ltb 383 (ea + eb)) _ _
      ∙ ap₂ (cond (ltb 383 (ea + eb))) (upper-over w v _ _ (omega arith) (ap (λ (b : Bool). non_neg (with_sign b 1)) (signs-wider v z y)))
      (upper-cond v (ltb (ea + eb) 128) _ _ ∙ ap₂ (cond (ltb (ea + eb) 128)) (upper-zero v true) (inside-upper (ea + eb)))
