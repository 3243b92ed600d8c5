-- Floating point divide with a mantissa of any width w, as the code goes. Assumes nothing.
use mathlib.Core.Path.{◌≡◌, refl, sym, ap, ap₂, ◌∙◌, subst}
use mathlib.Core.Bool.{Bool, true, false, not, cond, ◌||◌}
use mathlib.Core.Logic.{⊎_elim}
use Prim.Native.Nat.{ℕ, ◌+◌, ◌-◌, ◌*◌, ◌/◌, ◌%◌, ◌^◌, ◌≤◌, ◌<◌}
use native.Mathlib.Nat.{div-add-mod', mul-pos, mul-le-mul_right, mul-lt-mul_of_pos_right, zero-mul, le-div_iff_mul-le, eq-zero-or-pos}
use native.Mathlib.Omega.{arith}
use lib.IntN.{ℤ, pos, nat_abs, ◌*ℤ◌}
use lib.Signed.{non_neg}
use lib.Dec.{ltb, leb}
use lib.Pow.{pow_pos, pow-add}
use borrow.Author.Tests.{lt-ltb, le-ltb, lt-leb, le-leb, eq-eqb, ne_eqb}
use Rattle.twos_complement.specs.Whole.{with_sign}
use Rattle.twos_complement.proofs.Diff.{order}
use Rattle.float.specs.Float.{is_zero, overflowed, float_zero}
use Rattle.float_exact.specs.Exact.{truncated, signs_differ, overflow_of}
use Rattle.float_exact.specs.Steps.{one_if, Led, signed_by, ranged}
use Rattle.float_exact.proofs.Ratios.{less-digit}
use Rattle.float_exact.proofs.StepLaws.{led-pos}
use Rattle.float_exact.proofs.ExactLaws.{times, by-magnitude, differ-is, over_by, truncated-zero, Value, value-by, exact-float}
use Rattle.float_exact.proofs.NarrowLaws.{upper_of, upper-zero, upper-over, upper-cond, truncated-upper, magnitude-wider, signs-wider}
use Rattle.float_div.specs.Divide.{quotient_of}

-- a * P * P divided by b in two steps, in the base P
pub long-quotient : (P a b v : ℕ) → v ≤ 1 → 0 < b → 0 < a * (P * P) → a * P / b * P + (a * P % b * P + b - v) / b - 1 ≡ (a * (P * P) - v) / b
long-quotient P a b v l p q =
    let e : a * P / b * P * b + a * P % b * P ≡ a * (P * P) = shape (a * P / b) (a * P % b) (div-add-mod' (a * P) b) in
    less-digit (a * P / b * P) b (a * P % b * P) v l p (subst (λ (x : ℕ). 0 < x) (sym e) q) ∙ ap (λ (x : ℕ). (x - v) / b) e
  where
    shape : (h r : ℕ) → h * b + r ≡ a * P → h * P * b + r * P ≡ a * (P * P)
    shape h r e = (let t : h * P * b + r * P ≡ (h * b + r) * P = omega arith in t) ∙ ap (λ (x : ℕ). x * P) e ∙ (let t : a * P * P ≡ a * (P * P) = omega arith in t)

-- the quotient of two numbers of 40 bits has more than 38
pub quotient-long : (a b v : ℕ) → v ≤ 1 → 2 ^ 39 ≤ a → 2 ^ 39 ≤ b → b < 2 ^ 40 → 2 ^ 38 ≤ (a * 2 ^ 40 - v) / b
quotient-long a b v l x y u = (le-div_iff_mul-le {k = b} {x = 2 ^ 38} {y = a * 2 ^ 40 - v} (omega arith)).1 (omega arith)

-- ---- the exact quotient by sign and magnitude

module _ (w : ℕ) (z y : ℤ) (ea eb : ℕ) where
  abbrev num : ℤ
  num = z *ℤ pos (2 ^ (ea + w + 127))

  abbrev den : ℤ
  den = y *ℤ pos (2 ^ eb)

  signs : (x : ℤ) (k : ℕ) → x *ℤ pos k ≡ with_sign (not (non_neg x)) (nat_abs x * k)
  signs x k = ap (λ u. u *ℤ pos k) (by-magnitude x) ∙ times (not (non_neg x)) (nat_abs x) k

  quotient-value : {neg : Bool} → signs_differ z y ≡ neg → 0 < nat_abs z → 0 < nat_abs y → Value num den neg (nat_abs z * 2 ^ (ea + w + 127)) (nat_abs y * 2 ^ eb)
  quotient-value e p q =
      value-by (not (non_neg z)) (not (non_neg y)) (nat_abs z * 2 ^ (ea + w + 127)) (nat_abs y * 2 ^ eb) (signs z (2 ^ (ea + w + 127))) (signs y (2 ^ eb)) (differ-is z y ∙ e) (mul-pos p (pow_pos (ea + w + 127))) (mul-pos q (pow_pos eb))

  value-zero : nat_abs z ≡ 0 → truncated w num den ≡ float_zero false
  value-zero e =
      ap (λ x. truncated w x den) (signs z (2 ^ (ea + w + 127)))
      ∙ truncated-zero w (not (non_neg z)) (nat_abs z * 2 ^ (ea + w + 127)) den (ap (λ (x : ℕ). x * 2 ^ (ea + w + 127)) e ∙ zero-mul (2 ^ (ea + w + 127)))

-- ---- the ways through the code

module _ {neg : Bool} (w : ℕ) (z y : ℤ) (ea eb : ℕ) (s : neg ≡ signs_differ z y) where
  pub quotient-by-zero : nat_abs y ≡ 0 → overflowed w (with_sign neg 1) ≡ quotient_of w z ea y eb
  unfolding quotient_of is_zero
  quotient-by-zero e = rw (eq-eqb (nat_abs y) 0 e) (over_by w z y s)

  module _ (p : 0 < nat_abs y) where
    some : is_zero y ≡ false
    unfolding is_zero
    some = ne_eqb (nat_abs y) 0 (λ e. omega arith)

    pub quotient-over : eb + 127 < ea → overflowed w (with_sign neg 1) ≡ quotient_of w z ea y eb
    unfolding quotient_of
    quotient-over g = rw (some, lt-ltb (eb + 127) ea g) (over_by w z y s)

    module _ (g : ea ≤ eb + 127) where
      pub quotient-under : ea + 128 < eb → float_zero true ≡ quotient_of w z ea y eb
      unfolding quotient_of
      quotient-under l = rw (some, le-ltb (eb + 127) ea g, lt-ltb (ea + 128) eb l) refl

      module _ (l : eb ≤ ea + 128) where
        pub quotient-right : eb + 127 < ea + one_if (leb (nat_abs y) (nat_abs z)) → overflowed w (with_sign neg 1) ≡ quotient_of w z ea y eb
        unfolding quotient_of
        quotient-right h = rw (some, le-ltb (eb + 127) ea g, le-ltb (ea + 128) eb l, lt-ltb (eb + 127) _ h) (over_by w z y s)

        module _ (m : ea + one_if (leb (nat_abs y) (nat_abs z)) ≤ eb + 127) where
          inside : truncated w (z *ℤ pos (2 ^ (ea + w + 127))) (y *ℤ pos (2 ^ eb)) ≡ quotient_of w z ea y eb
          unfolding quotient_of
          inside = rw (some, le-ltb (eb + 127) ea g, le-ltb (ea + 128) eb l, le-ltb (eb + 127) _ m) refl

          pub quotient-of-zero : nat_abs z ≡ 0 → float_zero false ≡ quotient_of w z ea y eb
          quotient-of-zero e = sym (value-zero w z y ea eb e) ∙ inside

          -- q is the quotient of the two magnitudes moved to the top, and k of its bits do not count
          pub quotient-done : {i x j x' : ℕ} (q k : ℕ) → Led w (nat_abs z) i x → Led w (nat_abs y) j x' → q ≡ (x * 2 ^ w - one_if neg) / x' →
              2 ≤ w → 2 ^ (w - 2) ≤ q / 2 ^ k → q / 2 ^ k < 2 ^ (w - 1) → ranged w (signed_by neg (q / 2 ^ k)) (ea + j + 127 + k) (eb + i) ≡ quotient_of w z ea y eb
          quotient-done {i} {x} {j} {x'} q k X Y hq t lo hi =
              sym (exact-float w (x * 2 ^ w) x' q (ea + j + 127) (eb + i) k (quotient-value w z y ea eb (sym s) (led-pos X).0 (led-pos Y).0) hq
              (rw (X.moved, Y.moved, pow-add 2 eb i, pow-add 2 (ea + w) 127, pow-add 2 ea w, pow-add 2 (ea + j) 127, pow-add 2 ea j) (shape (nat_abs z) (nat_abs y) (2 ^ ea) (2 ^ w) (2 ^ 127) (2 ^ i) (2 ^ j) (2 ^ eb)))
              (mul-pos (led-pos X).1 (pow_pos w)) (led-pos Y).1 t lo hi)
              ∙ inside
            where
              shape : (A B E W C I K F : ℕ) → A * (E * W * C) * (B * K) * (F * I) ≡ A * I * W * (B * F) * (E * K * C)
              shape A B E W C I K F = omega arith

-- ---- the quotient at w bits is the upper part of that at w + v

module _ (w v : ℕ) (o : 2 ≤ w) (z y : ℤ) (ea eb : ℕ) where
  abbrev z' : ℤ
  z' = z *ℤ pos (2 ^ v)

  abbrev y' : ℤ
  y' = y *ℤ pos (2 ^ v)

  over-upper : upper_of v (overflow_of (w + v) z' y') ≡ overflow_of w z y
  unfolding overflow_of
  over-upper = upper-over w v _ _ (omega arith) (ap (λ (b : Bool). non_neg (with_sign b 1)) (signs-wider v z y))

  wider-pos : (x : ℤ) → 0 < nat_abs x → 0 < nat_abs (x *ℤ pos (2 ^ v))
  wider-pos x p = rw (magnitude-wider v x) (mul-pos p (pow_pos v))

  powers : 2 ^ (ea + (w + v) + 127) ≡ 2 ^ (ea + w + 127) * 2 ^ v
  powers = ap (λ (x : ℕ). 2 ^ x) (let t : ea + (w + v) + 127 ≡ ea + w + 127 + v = omega arith in t) ∙ pow-add 2 (ea + w + 127) v

  module _ (q : 0 < nat_abs y) where
    inside-upper : upper_of v (truncated (w + v) (z' *ℤ pos (2 ^ (ea + (w + v) + 127))) (y' *ℤ pos (2 ^ eb))) ≡ truncated w (z *ℤ pos (2 ^ (ea + w + 127))) (y *ℤ pos (2 ^ eb))
    inside-upper =
        ⊎_elim (λ e. ap (upper_of v) (value-zero (w + v) z' y' ea eb (magnitude-wider v z ∙ ap (λ (x : ℕ). x * 2 ^ v) e ∙ zero-mul (2 ^ v))) ∙ upper-zero v false ∙ sym (value-zero w z y ea eb e))
        (λ p. truncated-upper w v o (quotient-value w z y ea eb refl p q) (quotient-value (w + v) z' y' ea eb (signs-wider v z y) (wider-pos z p) (wider-pos y q))
        (rw (magnitude-wider v z, magnitude-wider v y, powers) (shape (nat_abs z) (nat_abs y) (2 ^ (ea + w + 127)) (2 ^ eb) (2 ^ v))))
        (eq-zero-or-pos (nat_abs z))
      where
        shape : (A B E F K : ℕ) → A * E * (B * K * F * K) ≡ A * K * (E * K) * (B * F)
        shape A B E F K = omega arith

    zero_same : is_zero y' ≡ is_zero y
    unfolding is_zero
    zero_same = ne_eqb (nat_abs y') 0 (λ e. let p = wider-pos y q in omega arith) ∙ sym (ne_eqb (nat_abs y) 0 (λ e. omega arith))

    magnitude-same : leb (nat_abs y') (nat_abs z') ≡ leb (nat_abs y) (nat_abs z)
    magnitude-same =
        ap₂ leb (magnitude-wider v y) (magnitude-wider v z)
        ∙ ⊎_elim (λ h. lt-leb _ _ (mul-lt-mul_of_pos_right h (pow_pos v)) ∙ sym (lt-leb _ _ h)) (λ h. le-leb _ _ (mul-le-mul_right (2 ^ v) h) ∙ sym (le-leb _ _ h)) (order (nat_abs z) (nat_abs y))

    some_upper : upper_of v (quotient_of (w + v) z' ea y' eb) ≡ quotient_of w z ea y eb
    unfolding quotient_of
    some_upper =
        rw (zero_same, magnitude-same)
        (upper-cond v (is_zero y || ltb (eb + 127) ea) _ _ ∙ ap₂ (cond (is_zero y || ltb (eb + 127) ea)) over-upper
        (upper-cond v (ltb (ea + 128) eb) _ _ ∙ ap₂ (cond (ltb (ea + 128) eb)) (upper-zero v true)
        (upper-cond v (ltb (eb + 127) (ea + one_if (leb (nat_abs y) (nat_abs z)))) _ _ ∙ ap₂ (cond (ltb (eb + 127) (ea + one_if (leb (nat_abs y) (nat_abs z))))) over-upper inside-upper)))

  pub quotient-upper : upper_of v (quotient_of (w + v) z' ea y' eb) ≡ quotient_of w z ea y eb
  unfolding overflow_of
  quotient-upper =
      ⊎_elim (λ e. ap (upper_of v) (sym (quotient-by-zero (w + v) z' y' ea eb refl (magnitude-wider v y ∙ ap (λ (x : ℕ). x * 2 ^ v) e ∙ zero-mul (2 ^ v)))) ∙ over-upper ∙ quotient-by-zero w z y ea eb refl e)
      some_upper
      (eq-zero-or-pos (nat_abs y))
