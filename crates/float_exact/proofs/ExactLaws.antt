-- An exact value as a float: its mantissa at each exponent, and the exponent at which it is normalised. Assumes nothing.
use mathlib.Core.Path.{◌≡◌, refl, sym, ap, ap₂, ◌∙◌, subst}
use mathlib.Core.Bool.{Bool, true, false, not, cond}
use mathlib.Core.Logic.{⊎_elim}
use Prim.Native.Nat.{ℕ, zero, suc, ◌+◌, ◌-◌, ◌*◌, ◌/◌, ◌^◌, ◌≤◌, ◌<◌}
use native.Mathlib.Nat.{div-div-eq-div-mul, mul_assoc, mul-le-mul, le_trans, lt_of_lt_of_le}
use native.Mathlib.Omega.{arith}
use lib.IntN.{ℤ, pos, negsuc, nat_abs, ◌*ℤ◌}
use lib.Signed.{mag, non_neg}
use lib.Dec.{eqb}
use lib.Pow.{pow_pos, pow-add, pow_mono, shr_le, shr_lt, shr-shr}
use borrow.Author.Tests.{eq-eqb, ne_eqb}
use Rattle.twos_complement.specs.Whole.{signed, with_sign, floor_div}
use Rattle.twos_complement.specs.Normal.{normal}
use Rattle.twos_complement.proofs.Diff.{order}
use Rattle.twos_complement.proofs.Laws.{signed_low}
use Rattle.twos_complement.proofs.Normal.{normal-yes, normal-no}
use Rattle.twos_complement.proofs.Signs.{differ, mul-sign, nat_abs-sign}
use Rattle.float.specs.Float.{Result, is_zero, overflowed, float_zero}
use Rattle.float_exact.specs.Exact.{mantissa_at, highest, truncated, signs_differ, overflow_of}
use Rattle.float_exact.specs.Steps.{one_if, signed_by, ranged}
use Rattle.float_exact.proofs.Ratios.{moved-ratio}
use Rattle.float_exact.proofs.StepLaws.{over-sign, ranged-under, ranged-over, ranged-at}

-- ---- a ratio of two numbers given by sign and magnitude

floor-sign : (s t : Bool) (a b : ℕ) → 0 < a → 0 < b → floor_div (with_sign s a) (with_sign t b) ≡ signed_by (differ s t) ((a - one_if (differ s t)) / b)
unfolding floor_div with_sign signed_by
floor-sign s t zero b p q = absurd (let x : ⊥ = omega arith in x)
floor-sign s t (suc a) zero p q = absurd (let x : ⊥ = omega arith in x)
floor-sign false false (suc a) (suc b) p q = ap (λ (x : ℕ). pos (x / suc b)) (omega arith)
floor-sign false true (suc a) (suc b) p q = ap (λ (x : ℕ). negsuc (x / suc b)) (omega arith)
floor-sign true false (suc a) (suc b) p q = ap (λ (x : ℕ). negsuc (x / suc b)) (omega arith)
floor-sign true true (suc a) (suc b) p q = ap (λ (x : ℕ). pos (x / suc b)) (omega arith)

pub differ-none : (s : Bool) → differ s false ≡ s
differ-none true = refl
differ-none false = refl

-- a number times a natural one
pub times : (s : Bool) (m k : ℕ) → with_sign s m *ℤ pos k ≡ with_sign s (m * k)
unfolding with_sign
times s m k = mul-sign s false m k ∙ ap (λ (b : Bool). with_sign b (m * k)) (differ-none s)

at_sign : (s t : Bool) (N D e : ℕ) → 0 < N → 0 < D → mantissa_at (with_sign s N) (with_sign t D) e ≡ signed_by (differ s t) ((N - one_if (differ s t)) / (D * 2 ^ e))
unfolding mantissa_at
at_sign s t N D e p q = ap (floor_div (with_sign s N)) (times t D (2 ^ e)) ∙ floor-sign s t N (D * 2 ^ e) p (omega (arith, mul-le-mul q (pow_pos e)))

-- ---- the highest exponent

module _ (w : ℕ) (num den : ℤ) where
  abbrev found : ℕ → Result
  found e = record { mantissa = mantissa_at num den e; exponent = e; overflow = false; underflow = false }

  highest-none : (b : ℕ) → ((e : ℕ) → normal w (mantissa_at num den e) ≡ false) → highest w num den b ≡ float_zero true
  unfolding highest
  highest-none zero h = refl
  highest-none (suc b) h = rw (h b) (highest-none b h)

  highest-at : (b e : ℕ) → e < b → normal w (mantissa_at num den e) ≡ true → ((f : ℕ) → e < f → normal w (mantissa_at num den f) ≡ false) → highest w num den b ≡ found e
  unfolding highest
  highest-at zero e l y h = absurd (let x : ⊥ = omega arith in x)
  highest-at (suc b) e l y h =
      ⊎_elim (λ g. rw (h b g) (highest-at b e g y h))
      (λ g. let t : b ≡ e = omega arith in ap (λ (x : ℕ). cond (normal w (mantissa_at num den x)) (found x) (highest w num den x)) t ∙ ap (λ (x : Bool). cond x (found e) (highest w num den e)) y)
      (order e b)

-- ---- the code's way: a quotient q of another ratio, which moved by p - n places is the value, and its first w - 1 bits that count

pub one_if-le : (b : Bool) → one_if b ≤ 1
one_if-le true = omega arith
one_if-le false = omega arith

pub mag-by : (b : Bool) (m : ℕ) → mag (signed_by b m) ≡ m
unfolding signed_by
mag-by true m = refl
mag-by false m = refl

-- num / den is N / D, or that below zero
pub record Value (num den : ℤ) (neg : Bool) (N D : ℕ) : Type 0 where
  pub is : (e : ℕ) → mantissa_at num den e ≡ signed_by neg ((N - one_if neg) / (D * 2 ^ e))
  pub some : is_zero num ≡ false
  pub top : 0 < N
  pub bottom : 0 < D

pub value-by : {num den : ℤ} {neg : Bool} (s t : Bool) (N D : ℕ) → num ≡ with_sign s N → den ≡ with_sign t D → differ s t ≡ neg → 0 < N → 0 < D → Value num den neg N D
unfolding is_zero
value-by s t N D hn hd hs a b = record {
  is = λ e. ap₂ (λ u v. mantissa_at u v e) hn hd ∙ at_sign s t N D e a b ∙ ap (λ (m : Bool). signed_by m ((N - one_if m) / (D * 2 ^ e))) hs;
  some = ap (λ z. eqb (nat_abs z) 0) hn ∙ ap (λ (z : ℕ). eqb z 0) (nat_abs-sign s N) ∙ ne_eqb N 0 (λ e. omega arith);
  top = a;
  bottom = b;
}

module _ {num den : ℤ} {neg : Bool} {N D : ℕ} (w N' D' q p n k : ℕ) (v : Value num den neg N D) (hq : q ≡ (N' - one_if neg) / D') (same : N * D' * 2 ^ n ≡ N' * D * 2 ^ p)
    (c : 0 < N') (d : 0 < D') (g : 2 ≤ w) (lo : 2 ^ (w - 2) ≤ q / 2 ^ k) (hi : q / 2 ^ k < 2 ^ (w - 1)) where
  abbrev x : ℕ → ℕ
  x e = (N - one_if neg) / (D * 2 ^ e)

  at : (f u : ℕ) → p + u ≡ n + f → x f ≡ q / 2 ^ u
  at f u e = moved-ratio N D N' D' (one_if neg) p n f u (one_if-le neg) v.top v.bottom c d same e ∙ ap (λ (z : ℕ). z / 2 ^ u) (sym hq)

  further : (i j : ℕ) → x (i + j) ≡ x i / 2 ^ j
  further i j = ap (λ (z : ℕ). (N - one_if neg) / z) (ap (λ (z : ℕ). D * z) (pow-add 2 i j) ∙ sym (mul_assoc D (2 ^ i) (2 ^ j))) ∙ sym (div-div-eq-div-mul (N - one_if neg) (D * 2 ^ i) (2 ^ j))

  normal-at : (e : ℕ) → 2 ^ (w - 2) ≤ x e → normal w (mantissa_at num den e) ≡ true
  normal-at e h = rw (v.is e) (normal-yes w _ (rw (mag-by neg (x e)) h))

  above : (f : ℕ) → p + k < n + f → normal w (mantissa_at num den f) ≡ false
  above f h =
      let e : x f ≡ q / 2 ^ k / 2 ^ (n + f - (p + k)) = at f (k + (n + f - (p + k))) (omega arith) ∙ sym (shr-shr q k (n + f - (p + k))) in
      let l : q / 2 ^ k / 2 ^ (n + f - (p + k)) < 2 ^ (w - 2) = shr_lt {n = q / 2 ^ k} (w - 2) (n + f - (p + k)) (lt_of_lt_of_le hi (pow_mono (let t : w - 1 ≤ w - 2 + (n + f - (p + k)) = omega arith in t))) in
      rw (v.is f) (normal-no w _ (rw (mag-by neg (x f), e) l))

  under : p + k < n → truncated w num den ≡ ranged w (signed_by neg (q / 2 ^ k)) (p + k) n
  unfolding truncated
  under h = rw (v.some, above 256 (omega arith), highest-none w num den 256 (λ e. above e (omega arith))) (ranged-under w (q / 2 ^ k) (p + k) n neg h)

  module _ (h : n ≤ p + k) where
    place : x (p + k - n) ≡ q / 2 ^ k
    place = at (p + k - n) k (omega arith)

    over : 255 < p + k - n → truncated w num den ≡ ranged w (signed_by neg (q / 2 ^ k)) (p + k) n
    unfolding truncated
    over l =
        let e : q / 2 ^ k ≡ x 256 / 2 ^ (p + k - n - 256) = sym place ∙ ap x (let t : p + k - n ≡ 256 + (p + k - n - 256) = omega arith in t) ∙ further 256 (p + k - n - 256) in
        rw (v.some, normal-at 256 (le_trans (subst (λ (z : ℕ). 2 ^ (w - 2) ≤ z) e lo) (shr_le (x 256) (p + k - n - 256))), v.is 256)
        (sym (over-sign w neg (x 256)) ∙ ranged-over w (q / 2 ^ k) (p + k) n neg h l)

    inside : p + k - n ≤ 255 → truncated w num den ≡ ranged w (signed_by neg (q / 2 ^ k)) (p + k) n
    unfolding truncated
    inside l =
        rw (v.some, above 256 (omega arith), highest-at w num den 256 (p + k - n) (omega arith) (normal-at (p + k - n) (rw place lo)) (λ f m. above f (omega arith)), v.is (p + k - n), place)
        (ranged-at w (q / 2 ^ k) (p + k) n neg h l)

  pub exact-float : truncated w num den ≡ ranged w (signed_by neg (q / 2 ^ k)) (p + k) n
  exact-float = ⊎_elim under (λ h. ⊎_elim (over h) (inside h) (order 255 (p + k - n))) (order (p + k) n)

-- ---- the sign of a number, and whether two differ

pub by-magnitude : (z : ℤ) → z ≡ with_sign (not (non_neg z)) (nat_abs z)
unfolding with_sign
by-magnitude (pos n) = refl
by-magnitude (negsuc n) = refl

pub differ-is : (z y : ℤ) → differ (not (non_neg z)) (not (non_neg y)) ≡ signs_differ z y
unfolding signs_differ
differ-is (pos m) (pos n) = refl
differ-is (pos m) (negsuc n) = refl
differ-is (negsuc m) (pos n) = refl
differ-is (negsuc m) (negsuc n) = refl

pub over_by : {neg : Bool} (w : ℕ) (z y : ℤ) → neg ≡ signs_differ z y → overflowed w (with_sign neg 1) ≡ overflow_of w z y
unfolding overflow_of
over_by w z y e = ap (λ (b : Bool). overflowed w (with_sign b 1)) e

-- ---- zero

pub magnitude-zero : (w a : ℕ) → a ≡ 0 → nat_abs (signed w a) ≡ 0
magnitude-zero w a e = ap (λ (x : ℕ). nat_abs (signed w x)) e ∙ ap nat_abs (signed_low w 0 (pow_pos (w - 1)))

pub truncated-zero : (w : ℕ) (s : Bool) (N : ℕ) (den : ℤ) → N ≡ 0 → truncated w (with_sign s N) den ≡ float_zero false
unfolding truncated is_zero
truncated-zero w s N den e = rw (nat_abs-sign s N, eq-eqb N 0 e) refl
