-- Exact results as the code holds them, x for the whole number x - K, and their w-bit outcomes. Assumes nothing.
use mathlib.Core.Path.{◌≡◌, sym, ap, ap₂, ◌∙◌}
use mathlib.Core.Bool.{Bool, true, false, not, cond, ◌||◌}
use mathlib.Core.Logic.{⊎_elim}
use Prim.Native.Nat.{ℕ, ◌+◌, ◌-◌, ◌%◌, ◌^◌, ◌≤◌, ◌<◌}
use native.Mathlib.Omega.{arith}
use lib.IntN.{sub_ℕ}
use lib.Dec.{ltb, leb, eqb, lit<}
use lib.Pow.{pow-add, pow_mono}
use borrow.Author.Tests.{lt-ltb, le-ltb, le-leb, lt-leb}
use Rattle.twos_complement.specs.Whole.{wrap, holds}
use Rattle.twos_complement.proofs.Diff.{order}
use Rattle.twos_complement.proofs.Laws.{wrap-diff, holds-yes, holds-low, holds-high}
use Rattle.word.specs.Status.{status, with_carry}
use Rattle.fixed_add.specs.Fixed.{outcome_of}

-- a status without carry is below 8
pub status-lt : (w n : ℕ) → status w n < 8
unfolding status
status-lt w n = by (eqb n 0) (ltb n (2 ^ (w - 1)))
  where
    by : (z l : Bool) → cond z 2 (cond l 4 1) < 8
    by true l = lit< tt
    by false true = lit< tt
    by false false = lit< tt

-- whether w bits do not hold x - K
pub not-held : (w K x : ℕ) → 2 ^ (w - 1) ≤ K → not (holds w (sub_ℕ x K)) ≡ (ltb x (K - 2 ^ (w - 1)) || leb (K + 2 ^ (w - 1)) x)
not-held w K x p =
    let h = 2 ^ (w - 1) in
    ⊎_elim (λ l. ap not (holds-low w x K (omega arith)) ∙ sym (ap (λ (t : Bool). t || leb (K + h) x) (lt-ltb x (K - h) l)))
    (λ l. sym (ap (λ (t : Bool). t || leb (K + h) x) (le-ltb x (K - h) l)
    ∙ ⊎_elim (λ u. lt-leb (K + h) x u ∙ sym (ap not (holds-yes w x K (omega arith) u))) (λ u. le-leb (K + h) x u ∙ sym (ap not (holds-high w x K u))) (order x (K + h))))
    (order x (K - h))

-- the outcome of x - K, where K is a multiple of 2^w
pub narrowed : (v w x : ℕ) (c : Bool) →
    outcome_of w c (sub_ℕ x (2 ^ (v + w)))
    ≡ record { value = x % 2 ^ w; cs = with_carry c (status w (x % 2 ^ w)); overflow = ltb x (2 ^ (v + w) - 2 ^ (w - 1)) || leb (2 ^ (v + w) + 2 ^ (w - 1)) x }
unfolding outcome_of
narrowed v w x c =
    ap₂ (λ (n : ℕ) (o : Bool). record { value = n; cs = with_carry c (status w n); overflow = o })
    (ap (λ (k : ℕ). wrap w (sub_ℕ x k)) (pow-add 2 v w) ∙ wrap-diff w x (2 ^ v))
    (not-held w (2 ^ (v + w)) x (pow_mono (let l : w - 1 ≤ v + w = omega arith in l)))

-- the same from a test whose ends f and l are given
pub narrowed-by : (v w x : ℕ) (c : Bool) {f l : ℕ} {o : Bool} → o ≡ (ltb x f || leb l x) → f ≡ 2 ^ (v + w) - 2 ^ (w - 1) → l ≡ 2 ^ (v + w) + 2 ^ (w - 1) →
    record { value = x % 2 ^ w; cs = with_carry c (status w (x % 2 ^ w)); overflow = o } ≡ outcome_of w c (sub_ℕ x (2 ^ (v + w)))
narrowed-by v w x c e p q = rw (e, p, q) (sym (narrowed v w x c))
