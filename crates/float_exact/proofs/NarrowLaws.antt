-- Results with a mantissa of w bits are the upper bits of those with w + v, of operands that v zeros follow. Assumes nothing.
use mathlib.Core.Path.{◌≡◌, refl, sym, ap, ap₂, ◌∙◌, subst}
use mathlib.Core.Bool.{Bool, true, false, cond}
use mathlib.Core.Logic.{⊎_elim}
use Prim.Native.Nat.{ℕ, zero, suc, ◌+◌, ◌-◌, ◌*◌, ◌/◌, ◌%◌, ◌^◌, ◌≤◌, ◌<◌, zero-le, suc-le-suc}
use native.Mathlib.Nat.{mod-lt, div-add-mod', div-div-eq-div-mul, mul-pos, mul-le-mul_right, mul-lt-mul_of_pos_right, zero-div, le-div_iff_mul-le, div-lt_iff_lt-mul}
use native.Mathlib.Omega.{arith}
use lib.IntN.{ℤ, pos, negsuc, neg_ℤ, nat_abs, ◌*ℤ◌}
use lib.Signed.{mag, non_neg, shr_z}
use lib.Dec.{leb}
use lib.Pow.{pow_pos, pow-add, shr_lt, field}
use lib.Arith.{digits_div, mul_pred}
use borrow.Author.Tests.{le-leb, lt-leb}
use Rattle.twos_complement.specs.Whole.{signed, wrap, with_sign}
use Rattle.twos_complement.specs.Normal.{normal}
use Rattle.twos_complement.proofs.Diff.{order}
use Rattle.twos_complement.proofs.Laws.{signed_low, signed_high}
use Rattle.twos_complement.proofs.Signs.{nat_abs-sign}
use Rattle.float.specs.Float.{Result, overflowed, float_zero, given}
use Rattle.float.specs.declared.Float.{Float}
use Rattle.float_exact.specs.Exact.{mantissa_at, highest, truncated, signs_differ}
use Rattle.float_exact.specs.Steps.{one_if, signed_by, upper}
use Rattle.float_exact.proofs.Ratios.{same-ratio}
use Rattle.float_exact.proofs.ExactLaws.{one_if-le, Value}

-- the result without the last v bits of its mantissa
unfoldable pub upper_of : ℕ → Result → Result
upper_of v r = record { mantissa = shr_z r.mantissa (2 ^ v); exponent = r.exponent; overflow = r.overflow; underflow = r.underflow }

-- ---- the bits

upper-bits : (w v : ℕ) (z : ℤ) → wrap (w + v) z / 2 ^ v ≡ wrap w (shr_z z (2 ^ v))
unfolding wrap
upper-bits w v (pos n) = field n w v
upper-bits w v (negsuc n) =
    let N = n % 2 ^ (w + v) in
    let q = shr_lt {n = n % 2 ^ (w + v)} w v (mod-lt n (pow_pos (w + v))) in
    let r = mod-lt (n % 2 ^ (w + v)) (pow_pos v) in
    ap (λ (x : ℕ). x / 2 ^ v) (shape (2 ^ w - suc (n % 2 ^ (w + v) / 2 ^ v)) (2 ^ w) (2 ^ v) (n % 2 ^ (w + v)) (n % 2 ^ (w + v) / 2 ^ v) (n % 2 ^ (w + v) % 2 ^ v) (2 ^ (w + v)) (pow-add 2 w v) (div-add-mod' (n % 2 ^ (w + v)) (2 ^ v)) (omega arith) r)
    ∙ digits_div (2 ^ w - suc (n % 2 ^ (w + v) / 2 ^ v)) (let p = pow_pos v in omega arith) ∙ ap (λ (x : ℕ). 2 ^ w - suc x) (field n w v)
  where
    shape : (d M K N q r X : ℕ) → X ≡ M * K → q * K + r ≡ N → d + suc q ≡ M → r < K → X - suc N ≡ d * K + (K - suc r)
    shape d M K N q r X e f g h = let t : (d + suc q) * K ≡ M * K = ap (λ (x : ℕ). x * K) g in omega arith

given-upper : (w v : ℕ) (r : Result) → upper v (given (w + v) r) ≡ given w (upper_of v r)
unfolding upper given upper_of
given-upper w v r = rw (upper-bits w v r.mantissa) refl

-- ---- zero, the largest numbers, and choices

pub upper-zero : (v : ℕ) (u : Bool) → upper_of v (float_zero u) ≡ float_zero u
unfolding upper_of float_zero
upper-zero v u = rw (zero-div (2 ^ v)) refl

pub upper-over : (w v : ℕ) (z y : ℤ) → 1 ≤ w → non_neg y ≡ non_neg z → upper_of v (overflowed (w + v) y) ≡ overflowed w z
unfolding upper_of overflowed
upper-over w v z y o e =
    let s : 2 ^ (w + v - 1) ≡ 2 ^ (w - 1) * 2 ^ v = ap (λ (x : ℕ). 2 ^ x) (let t : w + v - 1 ≡ w - 1 + v = omega arith in t) ∙ pow-add 2 (w - 1) v in
    rw (e, s, largest (non_neg z) (2 ^ (w - 1)) (2 ^ v) (pow_pos (w - 1)) (pow_pos v)) refl
  where
    top : (M K : ℕ) → 0 < M → 0 < K → (M * K - 1) / K ≡ M - 1
    top M K p q = ap (λ (x : ℕ). x / K) (mul_pred p q) ∙ digits_div (M - 1) (omega arith)

    largest : (b : Bool) (M K : ℕ) → 0 < M → 0 < K → shr_z (cond b (pos (M * K - 1)) (neg_ℤ (pos (M * K)))) K ≡ cond b (pos (M - 1)) (neg_ℤ (pos M))
    largest true M K p q = ap pos (top M K p q)
    largest false zero K p q = absurd (let x : ⊥ = omega arith in x)
    largest false (suc M) K p q =
        ap (λ (x : ℕ). shr_z (neg_ℤ (pos x)) K) (let t : suc M * K ≡ suc (suc M * K - 1) = omega (arith, mul-pos p q) in t) ∙ ap negsuc (top (suc M) K p q ∙ (let t : suc M - 1 ≡ M = omega arith in t))

pub upper-cond : (v : ℕ) (b : Bool) (x y : Result) → upper_of v (cond b x y) ≡ cond b (upper_of v x) (upper_of v y)
upper-cond v true x y = refl
upper-cond v false x y = refl

-- ---- an exact value

normal-upper : (w v : ℕ) (z : ℤ) → 2 ≤ w → normal (w + v) z ≡ normal w (shr_z z (2 ^ v))
unfolding normal
normal-upper w v z o =
    let e : 2 ^ (w + v - 2) ≡ 2 ^ (w - 2) * 2 ^ v = ap (λ (x : ℕ). 2 ^ x) (let t : w + v - 2 ≡ w - 2 + v = omega arith in t) ∙ pow-add 2 (w - 2) v in
    ap (λ (x : ℕ). leb x (mag z)) e
    ∙ ⊎_elim (λ h. lt-leb _ _ h ∙ sym (lt-leb _ _ ((div-lt_iff_lt-mul {k = 2 ^ v} {x = mag z} {y = 2 ^ (w - 2)} (pow_pos v)).1 h)))
    (λ h. le-leb _ _ h ∙ sym (le-leb _ _ ((le-div_iff_mul-le {k = 2 ^ v} {x = 2 ^ (w - 2)} {y = mag z} (pow_pos v)).1 h))) (order (mag z) (2 ^ (w - 2) * 2 ^ v))
    ∙ ap (leb (2 ^ (w - 2))) (sym (mag_shr z))
  where
    mag_shr : (z : ℤ) → mag (shr_z z (2 ^ v)) ≡ mag z / 2 ^ v
    mag_shr (pos n) = refl
    mag_shr (negsuc n) = refl

shr-by : (b : Bool) (m k : ℕ) → shr_z (signed_by b m) k ≡ signed_by b (m / k)
unfolding signed_by
shr-by true m k = refl
shr-by false m k = refl

module _ {num den num' den' : ℤ} {neg : Bool} {N D N' D' : ℕ} (w v : ℕ) (o : 2 ≤ w) (x : Value num den neg N D) (x' : Value num' den' neg N' D') (same : N * (D' * 2 ^ v) ≡ N' * D) where
  mantissa-upper : (e : ℕ) → shr_z (mantissa_at num' den' e) (2 ^ v) ≡ mantissa_at num den e
  mantissa-upper e =
      rw (x.is e, x'.is e) (shr-by neg ((N' - one_if neg) / (D' * 2 ^ e)) (2 ^ v) ∙ ap (signed_by neg) (div-div-eq-div-mul (N' - one_if neg) (D' * 2 ^ e) (2 ^ v)
      ∙ same-ratio N' (D' * 2 ^ e * 2 ^ v) N (D * 2 ^ e) (one_if neg) (one_if-le neg) x'.top (mul-pos (mul-pos x'.bottom (pow_pos e)) (pow_pos v)) x.top (mul-pos x.bottom (pow_pos e)) (shape (2 ^ e) (2 ^ v) same)))
    where
      shape : (E K : ℕ) → N * (D' * K) ≡ N' * D → N' * (D * E) ≡ N * (D' * E * K)
      shape E K h = (let t : N' * (D * E) ≡ N' * D * E = omega arith in t) ∙ ap (λ (z : ℕ). z * E) (sym h) ∙ (let t : N * (D' * K) * E ≡ N * (D' * E * K) = omega arith in t)

  normal-same : (e : ℕ) → normal (w + v) (mantissa_at num' den' e) ≡ normal w (mantissa_at num den e)
  normal-same e = normal-upper w v (mantissa_at num' den' e) o ∙ ap (normal w) (mantissa-upper e)

  highest-upper : (b : ℕ) → upper_of v (highest (w + v) num' den' b) ≡ highest w num den b
  unfolding highest upper_of
  highest-upper zero = upper-zero v true
  highest-upper (suc e) =
      upper-cond v (normal (w + v) (mantissa_at num' den' e)) _ _
      ∙ rw (normal-same e, mantissa-upper e, highest-upper e) refl

  pub truncated-upper : upper_of v (truncated (w + v) num' den') ≡ truncated w num den
  unfolding truncated
  truncated-upper =
      rw (x.some, x'.some) (upper-cond v (normal (w + v) (mantissa_at num' den' 256)) _ _
      ∙ rw (normal-same 256, highest-upper 256, upper-over w v (mantissa_at num den 256) (mantissa_at num' den' 256) (omega arith) (sym (sign-upper (mantissa_at num' den' 256)) ∙ ap non_neg (mantissa-upper 256))) refl)
    where
      sign-upper : (z : ℤ) → non_neg (shr_z z (2 ^ v)) ≡ non_neg z
      sign-upper (pos n) = refl
      sign-upper (negsuc n) = refl

-- ---- an operand that v zeros follow

signed-wider : (w v a : ℕ) → 1 ≤ w → a < 2 ^ w → signed (w + v) (a * 2 ^ v) ≡ signed w a *ℤ pos (2 ^ v)
signed-wider w v a o l =
    let s : 2 ^ (w + v - 1) ≡ 2 ^ (w - 1) * 2 ^ v = ap (λ (x : ℕ). 2 ^ x) (let t : w + v - 1 ≡ w - 1 + v = omega arith in t) ∙ pow-add 2 (w - 1) v in
    ⊎_elim (λ h. signed_low (w + v) (a * 2 ^ v) (rw s (mul-lt-mul_of_pos_right h (pow_pos v))) ∙ sym (ap (λ z. z *ℤ pos (2 ^ v)) (signed_low w a h)))
    (λ h. signed_high (w + v) (a * 2 ^ v) (rw s (mul-le-mul_right (2 ^ v) h)) ∙ sym (ap (λ z. z *ℤ pos (2 ^ v)) (signed_high w a h)
    ∙ ap (λ (x : ℕ). neg_ℤ (pos x)) (shape (2 ^ w - suc a) (2 ^ w) (2 ^ v) (2 ^ (w + v)) (omega arith) (pow-add 2 w v) (pow_pos v))))
    (order a (2 ^ (w - 1)))
  where
    shape : (d M K X : ℕ) → d + suc a ≡ M → X ≡ M * K → 0 < K → suc d * K ≡ suc (X - suc (a * K))
    shape d M K X e f p = let t : (d + suc a) * K ≡ M * K = ap (λ (x : ℕ). x * K) e in omega arith

pub magnitude-wider : (v : ℕ) (z : ℤ) → nat_abs (z *ℤ pos (2 ^ v)) ≡ nat_abs z * 2 ^ v
unfolding with_sign
magnitude-wider v (pos n) = refl
magnitude-wider v (negsuc n) = nat_abs-sign true (suc n * 2 ^ v)

pub signs-wider : (v : ℕ) (z y : ℤ) → signs_differ (z *ℤ pos (2 ^ v)) (y *ℤ pos (2 ^ v)) ≡ signs_differ z y
unfolding signs_differ
signs-wider v z y = rw (sign-wider z, sign-wider y) refl
  where
    below : (m : ℕ) → 0 < m → non_neg (neg_ℤ (pos m)) ≡ false
    below zero p = absurd (let x : ⊥ = omega arith in x)
    below (suc m) p = refl

    sign-wider : (z : ℤ) → non_neg (z *ℤ pos (2 ^ v)) ≡ non_neg z
    sign-wider (pos n) = refl
    sign-wider (negsuc n) = below (suc n * 2 ^ v) (mul-pos (suc-le-suc zero-le) (pow_pos v))

-- an operation f whose result at w bits is the upper part of that at n = w + v, as the code calls it
pub narrow : {x y : ℕ} {m r : Float} (n w v a b : ℕ) (f : ℕ → ℤ → ℤ → Result) → w + v ≡ n → 1 ≤ w → a < 2 ^ w → b < 2 ^ w → ((z y : ℤ) → upper_of v (f (w + v) (z *ℤ pos (2 ^ v)) (y *ℤ pos (2 ^ v))) ≡ f w z y) →
    x ≡ a * 2 ^ v → y ≡ b * 2 ^ v → m ≡ given n (f n (signed n x) (signed n y)) → r ≡ upper v m → r ≡ given w (f w (signed w a) (signed w b))
narrow {x} {y} {m} {r} n w v a b f e o la lb h ex ey em er =
    er ∙ ap (upper v) (subst (λ (k : ℕ). m ≡ given k (f k (signed k x) (signed k y))) (sym e) em) ∙ given-upper w v (f (w + v) (signed (w + v) x) (signed (w + v) y))
    ∙ ap (given w) (ap₂ (λ z y. upper_of v (f (w + v) z y)) (ap (signed (w + v)) ex ∙ signed-wider w v a o la) (ap (signed (w + v)) ey ∙ signed-wider w v b o lb) ∙ h (signed w a) (signed w b))
