-- The overflow lines of divide, as section 5 prints them, say what the definitions say, at every width. Assumes nothing.
use mathlib.Core.Path.{◌≡◌, refl, sym, ap, ◌∙◌}
use mathlib.Core.Bool.{Bool, true, false, not, ◌&&◌, ◌||◌}
use mathlib.Core.Logic.{◌⊎◌, inl, inr, ⊎_elim}
use Prim.Native.Nat.{ℕ, ◌-◌, ◌/◌, ◌^◌, ◌≤◌, ◌<◌}
use native.Mathlib.Nat.{mul-le-mul_left, div-le_self, div-one, div-lt_iff_lt-mul}
use native.Mathlib.Omega.{arith}
use lib.IntN.{nat_abs}
use lib.Dec.{leb, eqb, leb-zero}
use lib.Pow.{pow_pos}
use borrow.Author.Tests.{le-ltb, le-leb, eq-eqb, ne_eqb}
use Rattle.twos_complement.specs.Whole.{signed, holds, with_sign, Parts}
use Rattle.twos_complement.proofs.Diff.{order}
use Rattle.twos_complement.proofs.Laws.{half, signed_low}
use Rattle.twos_complement.proofs.Signs.{differ, long-pos, long-neg, parts_low, parts-high}
use Rattle.fixed_add.specs.declared.Outcome.{Outcome}
use Rattle.fixed_add.specs.Fixed.{outcome_of}
use Rattle.fixed_muldiv.specs.Divide.{divided, long_divided, quotient}
use Rattle.fixed_muldiv.proofs.PartsLaws.{split, held}
use Rattle.fixed_muldiv.proofs.QuotientLaws.{quotient-zero, quotient_is}

-- two numbers are equal or not
alike : (i j : ℕ) → (i ≡ j) ⊎ (i ≡ j → ⊥)
alike i j = ⊎_elim (λ l. inr (λ e. omega arith)) (λ l. ⊎_elim (λ u. inr (λ e. omega arith)) (λ u. inl (omega arith)) (order j i)) (order i j)

-- 5.76, 5.78: the divisor is zero, or the dividend is the lowest number and the divisor -1
module _ (w a b : ℕ) (p : 1 ≤ w) (la : a < 2 ^ w) (lb : b < 2 ^ w) where
  abbrev lowest : ℕ
  lowest = 2 ^ (w - 1)

  by_zero : b ≡ 0 → (divided w a b).overflow ≡ true
  unfolding quotient
  by_zero e = split w a p la (λ s m x. ap (λ (q : Outcome ℕ). q.overflow) (sym (quotient-zero x.parts (parts_low w b (let g = pow_pos (w - 1) in omega arith)) e)))

  by-other : {s t : Bool} {m k : ℕ} (o u v : Bool) → Parts w a s m → Parts w b t k → 0 < b → 0 < k → not (holds w (with_sign (differ s t) (m / k))) ≡ o →
      eqb a lowest ≡ u → eqb b (2 ^ w - 1) ≡ v → o ≡ (u && v) → (divided w a b).overflow ≡ (eqb b 0 || (eqb a lowest && eqb b (2 ^ w - 1)))
  unfolding quotient outcome_of
  by-other o u v x y n g eo eu ev e =
      ap (λ (q : Outcome ℕ). q.overflow) (sym (quotient_is x y (λ z. omega arith))) ∙ eo ∙ e ∙ sym (rw (ne_eqb b 0 (λ z. omega arith), eu, ev) refl)

  -- the lowest dividend
  module _ (n : 0 < b) (e : a ≡ lowest) where
    x : Parts w a true (2 ^ w - a)
    x = parts-high w a p (omega arith) la

    by-positive : b < lowest → (divided w a b).overflow ≡ (eqb b 0 || (eqb a lowest && eqb b (2 ^ w - 1)))
    by-positive l =
        let h = half w p in
        let q = (2 ^ w - a) / b in
        let r = div-le_self (2 ^ w - a) b in
        by-other false true false x (parts_low w b l) n n (long-neg w q ∙ le-ltb lowest q (omega arith)) (eq-eqb a lowest e) (ne_eqb b (2 ^ w - 1) (λ z. omega arith)) refl

    by-negative : lowest ≤ b → (divided w a b).overflow ≡ (eqb b 0 || (eqb a lowest && eqb b (2 ^ w - 1)))
    by-negative l =
        let h = half w p in
        let k = 2 ^ w - b in
        let y = parts-high w b p l lb in
        let g : 0 < k = omega arith in
        let f = pow_pos (w - 1) in
        ⊎_elim
        (λ u.
        let r = mul-le-mul_left lowest (let i : 2 ≤ k = omega arith in i) in
        let q = (div-lt_iff_lt-mul {x = 2 ^ w - a} {y = lowest} g).1 (omega arith) in
        by-other false true false x y n g (held w ((2 ^ w - a) / k) false q) (eq-eqb a lowest e) (ne_eqb b (2 ^ w - 1) (λ z. omega arith)) refl)
        (λ u.
        let q : (2 ^ w - a) / k ≡ lowest = ap (λ (i : ℕ). (2 ^ w - a) / i) (let i : k ≡ 1 = omega arith in i) ∙ div-one (2 ^ w - a) ∙ (let i : 2 ^ w - a ≡ lowest = omega arith in i) in
        by-other true true true x y n g (long-pos w ((2 ^ w - a) / k) ∙ le-leb lowest ((2 ^ w - a) / k) (omega arith)) (eq-eqb a lowest e) (eq-eqb b (2 ^ w - 1) (omega arith)) refl)
        (order b (2 ^ w - 1))

  pub divided-overflow : (divided w a b).overflow ≡ (eqb b 0 || (eqb a lowest && eqb b (2 ^ w - 1)))
  divided-overflow =
      ⊎_elim
      (λ n. ⊎_elim
      (λ e. ⊎_elim (λ l. by-positive n e l) (λ l. by-negative n e l) (order b lowest))
      (λ e. split w a p la (λ s m x. split w b p lb (λ t k y.
      let r = div-le_self m k in
      let l = x.other e in
      by-other false false _ x.parts y.parts n (y.some n) (held w (m / k) (differ s t) (omega arith)) (ne_eqb a lowest e) refl refl)))
      (alike a lowest))
      (λ n. let z : b ≡ 0 = omega arith in by_zero z ∙ sym (rw (eq-eqb b 0 z) refl))
      (order 0 b)

-- 5.77: the divisor is zero, or the magnitude of the upper half of the dividend reaches that of the divisor
pub long-divided-overflow : (w n d : ℕ) → (long_divided w n d).overflow ≡ (eqb d 0 || leb (nat_abs (signed w d)) (nat_abs (signed w (n / 2 ^ w))))
unfolding long_divided
long-divided-overflow w n d =
    let i = nat_abs (signed w (n / 2 ^ w)) in
    ⊎_elim (λ e. ap (λ z. leb (nat_abs z) i) (ap (signed w) e ∙ signed_low w 0 (pow_pos (w - 1))) ∙ leb-zero i ∙ sym (rw (eq-eqb d 0 e) refl))
    (λ e. sym (rw (ne_eqb d 0 e) refl))
    (alike d 0)
