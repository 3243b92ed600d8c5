-- What `truncated` gives: a mantissa that is normalised, that w bits hold, and that is the exact value's at its exponent, rounded toward minus infinity. Assumes nothing.
use mathlib.Core.Path.{◌≡◌, refl, sym, ap, ◌∙◌, subst}
use mathlib.Core.Bool.{Bool, true, false}
use Prim.Native.Nat.{ℕ, zero, suc, ◌+◌, ◌-◌, ◌*◌, ◌/◌, ◌^◌, ◌≤◌, ◌<◌}
use native.Mathlib.Nat.{div-div-eq-div-mul, mul_assoc, pow-suc}
use native.Mathlib.Omega.{arith}
use lib.IntN.{ℤ}
use lib.Signed.{mag}
use borrow.Author.Tests.{lt-ltb, leb-false}
use Rattle.twos_complement.specs.Whole.{holds}
use Rattle.twos_complement.specs.Normal.{normal}
use Rattle.twos_complement.proofs.Laws.{half}
use Rattle.float.specs.Float.{Result, overflowed, float_zero}
use Rattle.float_exact.specs.Exact.{mantissa_at, highest, truncated}
use Rattle.float_exact.specs.Steps.{one_if}
use Rattle.float_exact.proofs.ExactLaws.{Value, mag-by}

-- a result that neither overflowed nor underflowed
pub record Proper (w : ℕ) (num den : ℤ) (r : Result) : Type 0 where
  pub normalised : normal w r.mantissa ≡ true
  pub held : holds w r.mantissa ≡ true
  pub floor : r.mantissa ≡ mantissa_at num den r.exponent
  pub exponent : r.exponent < 256

module _ {num den : ℤ} {neg : Bool} {N D : ℕ} (w : ℕ) (o : 2 ≤ w) (v : Value num den neg N D) where
  -- one place further to the left
  next : (e : ℕ) → mag (mantissa_at num den (suc e)) ≡ mag (mantissa_at num den e) / 2
  next e =
      rw (v.is e, v.is (suc e), mag-by neg ((N - one_if neg) / (D * 2 ^ e)), mag-by neg ((N - one_if neg) / (D * 2 ^ suc e)), pow-suc 2 e)
      (ap (λ (x : ℕ). (N - one_if neg) / x) (sym (mul_assoc D (2 ^ e) 2)) ∙ sym (div-div-eq-div-mul (N - one_if neg) (D * 2 ^ e) 2))

  fits : (e : ℕ) → normal w (mantissa_at num den (suc e)) ≡ false → holds w (mantissa_at num den e) ≡ true
  unfolding normal holds
  fits e h =
      let l : mag (mantissa_at num den e) / 2 < 2 ^ (w - 2) = subst (λ (x : ℕ). x < 2 ^ (w - 2)) (next e) (leb-false _ _ h) in
      let p : 2 ^ (w - 1) ≡ 2 ^ (w - 1 - 1) + 2 ^ (w - 1 - 1) = half (w - 1) (omega arith) in
      let q : 2 ^ (w - 1 - 1) ≡ 2 ^ (w - 2) = ap (λ (x : ℕ). 2 ^ x) (omega arith) in
      lt-ltb (mag (mantissa_at num den e)) (2 ^ (w - 1)) (omega arith)

  proper-below : (b : ℕ) → b ≤ 256 → normal w (mantissa_at num den b) ≡ false → (highest w num den b).underflow ≡ false → Proper w num den (highest w num den b)
  unfolding highest float_zero
  proper-below zero l n u = absurd (let x : ◌≡◌ {A = ℕ} 0 1 = cc in omega arith)
  proper-below (suc b) l n u = at (normal w (mantissa_at num den b)) refl (proper-below b (omega arith))
    where
      at : (t : Bool) → normal w (mantissa_at num den b) ≡ t → (normal w (mantissa_at num den b) ≡ false → (highest w num den b).underflow ≡ false → Proper w num den (highest w num den b)) → Proper w num den (highest w num den (suc b))
      at true y lower = rw y (record { normalised = y; held = fits b n; floor = refl; exponent = omega arith })
      at false y lower = rw y (lower y (rw y at u))

  pub truncated-proper : (truncated w num den).overflow ≡ false → (truncated w num den).underflow ≡ false → Proper w num den (truncated w num den)
  unfolding truncated overflowed
  truncated-proper h u = at (normal w (mantissa_at num den 256)) refl
    where
      at : (t : Bool) → normal w (mantissa_at num den 256) ≡ t → Proper w num den (truncated w num den)
      at true y = absurd (let z = rw (v.some, y) at h in let x : ◌≡◌ {A = ℕ} 0 1 = cc in omega arith)
      at false y = rw (v.some, y) (proper-below 256 (omega arith) y (rw (v.some, y) at u))
