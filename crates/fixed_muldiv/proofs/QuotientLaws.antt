-- Quotients and remainders at every width, from signs and magnitudes. Assumes nothing.
use mathlib.Core.Path.{◌≡◌, refl, sym, ap, ap₂, ◌∙◌}
use mathlib.Core.Bool.{Bool, true, false}
use Prim.Native.Nat.{ℕ, zero, suc, ◌+◌, ◌-◌, ◌/◌, ◌%◌, ◌^◌, ◌<◌}
use native.Mathlib.Nat.{div-le_self, le_trans, lt_of_le_of_lt}
use lib.IntN.{ℤ}
use lib.Signed.{quot_z, rem_z}
use lib.Dec.{T, ltb, leb, lit<}
use borrow.Author.Tests.{eq-eqb, ne_eqb}
use Rattle.twos_complement.specs.Whole.{with_sign, Parts}
use Rattle.twos_complement.proofs.Signs.{nat_abs-sign, differ, quot-sign, rem-sign}
use Rattle.word.specs.Status.{with_carry}
use Rattle.fixed_add.specs.declared.Outcome.{Outcome}
use Rattle.fixed_add.specs.Fixed.{outcome_of}
use Rattle.fixed_muldiv.specs.declared.Quotient.{Quotient}
use Rattle.fixed_muldiv.specs.Divide.{division, divided, long_divided, quotient}

-- the quotient of signs and magnitudes: of a zero divisor, and of any other, where q and r are the outcomes of the quotient and of the remainder
pub division-zero : (w : ℕ) (n : ℤ) (t : Bool) (k : ℕ) → k ≡ 0 → record { quotient = 0; remainder = 0; cs = 2; overflow = true } ≡ division w n (with_sign t k)
unfolding division
division-zero w n t k e = rw (nat_abs-sign t k, eq-eqb k 0 e)

quot-of : (s t : Bool) (m k : ℕ) → (k ≡ 0 → ⊥) → quot_z (with_sign s m) (with_sign t k) ≡ with_sign (differ s t) (m / k)
quot-of s t m zero p = absurd (p refl)
quot-of s t m (suc k) p = quot-sign s t m k

rem_of : (s t : Bool) (m k : ℕ) → (k ≡ 0 → ⊥) → rem_z (with_sign s m) (with_sign t k) ≡ with_sign s (m % k)
rem_of s t m zero p = absurd (p refl)
rem_of s t m (suc k) p = rem-sign s t m k

pub division-is : (w : ℕ) (s t : Bool) (m k : ℕ) {q r : Outcome ℕ} → (k ≡ 0 → ⊥) →
    q ≡ outcome_of w false (with_sign (differ s t) (m / k)) → r ≡ outcome_of w false (with_sign s (m % k)) →
    record { quotient = q.value; remainder = r.value; cs = q.cs; overflow = q.overflow } ≡ division w (with_sign s m) (with_sign t k)
unfolding division outcome_of with_carry
division-is w s t m k p eq er = rw (eq, er, nat_abs-sign t k, ne_eqb k 0 p, quot-of s t m k p, rem_of s t m k p)

-- the same where the sign u of the remainder is given
pub division-by : (w : ℕ) (s t : Bool) (m k : ℕ) {u : Bool} {q r : Outcome ℕ} → (k ≡ 0 → ⊥) →
    q ≡ outcome_of w false (with_sign (differ s t) (m / k)) → r ≡ outcome_of w false (with_sign u (m % k)) → u ≡ s →
    record { quotient = q.value; remainder = r.value; cs = q.cs; overflow = q.overflow } ≡ division w (with_sign s m) (with_sign t k)
division-by w s t m k p eq er e = division-is w s t m k p eq (rw e at er)

-- the quotient of two numbers, from their parts
pub quotient-lt : (w B : ℕ) → T (ltb (2 ^ (w - 1)) B) → {a m : ℕ} {s : Bool} (k : ℕ) → Parts w a s m → m / k < B
quotient-lt w B l {m = m} k x = lt_of_le_of_lt (le_trans (div-le_self m k) x.small) (lit< l)

module _ {w a b m k : ℕ} {s t : Bool} (x : Parts w a s m) (y : Parts w b t k) where
  pub divided-is : division w (with_sign s m) (with_sign t k) ≡ divided w a b
  unfolding divided
  divided-is = sym (ap₂ (division w) x.number y.number)

  kept : Quotient ℕ → Outcome ℕ
  kept q = record { value = q.quotient; cs = q.cs; overflow = q.overflow }

  pub quotient-zero : k ≡ 0 → record { value = 0; cs = 2; overflow = true } ≡ quotient w a b
  unfolding quotient kept
  quotient-zero e = ap kept (division-zero w (with_sign s m) t k e ∙ divided-is)

  pub quotient_is : (k ≡ 0 → ⊥) → outcome_of w false (with_sign (differ s t) (m / k)) ≡ quotient w a b
  unfolding quotient kept
  quotient_is p = ap kept (division-is w s t m k p refl refl ∙ divided-is)

pub long-divided-is : {w n d i m k : ℕ} {s t u : Bool} {q : Quotient ℕ} → Parts (w + w) n s m → Parts w d t k → Parts w (n / 2 ^ w) u i →
    q ≡ division w (with_sign s m) (with_sign t k) → record { quotient = q.quotient; remainder = q.remainder; cs = q.cs; overflow = leb k i } ≡ long_divided w n d
unfolding long_divided
long-divided-is x y h e = rw (e, ← x.number, ← y.number, y.size, h.size)
