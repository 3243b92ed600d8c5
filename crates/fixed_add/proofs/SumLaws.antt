-- Sums, differences, negation and absolute value at every width, as the code computes them. Assumes nothing.
use mathlib.Core.Path.{◌≡◌, sym, ap, ◌∙◌}
use mathlib.Core.Bool.{Bool, false}
use mathlib.Core.Logic.{⊎_elim}
use Prim.Native.Nat.{ℕ, ◌+◌, ◌-◌, ◌%◌, ◌^◌, ◌≤◌, ◌<◌}
use native.Mathlib.Nat.{mod-lt}
use native.Mathlib.Omega.{arith}
use lib.IntN.{pos, neg_ℤ, nat_abs, sub_ℕ, ◌+ℤ◌, ◌-ℤ◌}
use lib.Dec.{leb}
use lib.Pow.{pow_pos, pow_mono}
use borrow.Author.Tests.{le-leb, lt-leb}
use Rattle.twos_complement.specs.Whole.{signed}
use Rattle.twos_complement.proofs.Diff.{order, diff-pos, diff-eq, diff-add, diff-sub, diff-negate}
use Rattle.twos_complement.proofs.Laws.{half, excess, signed_low, signed_high, wrap-add, wrap-sub}
use Rattle.fixed_add.specs.Fixed.{outcome_of, sum, absolute, difference, negated}

-- the carry out of a plus the complement of b plus 1 is that there is no borrow
pub no_borrow : (w a b : ℕ) → b < 2 ^ w → leb b a ≡ leb (2 ^ w) (a + (2 ^ w - 1 - b) + 1)
no_borrow w a b l =
    let s = a + (2 ^ w - 1 - b) + 1 in
    ⊎_elim (λ h. lt-leb b a h ∙ sym (lt-leb (2 ^ w) s (omega arith))) (λ h. le-leb b a h ∙ sym (le-leb (2 ^ w) s (omega arith))) (order a b)

-- the bits of a sum and of a difference
pub sum-value : (w a b : ℕ) → a < 2 ^ w → b < 2 ^ w → (sum w a b).value ≡ (a + b) % 2 ^ w
unfolding sum outcome_of
sum-value w a b la lb = wrap-add w a b la lb

pub difference-value : (w a b : ℕ) → a < 2 ^ w → b < 2 ^ w → (difference w a b).value ≡ (a + (2 ^ w - b)) % 2 ^ w
unfolding difference outcome_of
difference-value w a b la lb = wrap-sub w a b la lb

-- e is the number of the w bits a, plus 2^(w-1)
pub record Excess (w a e : ℕ) : Type 0 where
  pub number : signed w a ≡ sub_ℕ e (2 ^ (w - 1))
  pub below : e < 2 ^ w

pub excess-is : {e : ℕ} (w a : ℕ) → 1 ≤ w → a < 2 ^ w → e ≡ (a + 2 ^ (w - 1)) % 2 ^ w → Excess w a e
excess-is w a p l e = record { number = excess w a p l ∙ ap (λ (x : ℕ). sub_ℕ x (2 ^ (w - 1))) (sym e); below = let m = mod-lt (a + 2 ^ (w - 1)) (pow_pos w) in omega arith }

-- results as the code holds them, with 2^(v+w) added
module _ (v w : ℕ) (p : 1 ≤ w) where
  abbrev K : ℕ
  K = 2 ^ (v + w)

  room : 2 ^ w ≤ K
  room = pow_mono (let l : w ≤ v + w = omega arith in l)

  module _ {a e : ℕ} (x : Excess w a e) where
    pub negated-is : outcome_of w false (sub_ℕ (K + 2 ^ (w - 1) - e) K) ≡ negated w a
    unfolding negated
    negated-is =
        let h = 2 ^ (w - 1) in
        let l = x.below in
        let r = room in
        ap (outcome_of w false) (sym (ap neg_ℤ x.number ∙ diff-negate e h ∙ diff-eq h e (K + h - e) K (omega arith)))

    module _ {b f : ℕ} (y : Excess w b f) where
      pub sum_is : outcome_of w (leb (2 ^ w) (a + b)) (sub_ℕ (e + f + (K - 2 ^ w)) K) ≡ sum w a b
      unfolding sum
      sum_is =
          let h = 2 ^ (w - 1) in
          let d = half w p in
          let r = room in
          ap (outcome_of w (leb (2 ^ w) (a + b)))
          (sym (ap (λ z. z +ℤ signed w b) x.number ∙ ap (λ z. sub_ℕ e h +ℤ z) y.number ∙ diff-add e h f h ∙ diff-eq (e + f) (h + h) (e + f + (K - 2 ^ w)) K (omega arith)))

      pub difference-is : b < 2 ^ w → outcome_of w (leb b a) (sub_ℕ (e + K - f) K) ≡ difference w a b
      unfolding difference
      difference-is l =
          let h = 2 ^ (w - 1) in
          let u = y.below in
          let r = room in
          ap (λ (c : Bool). outcome_of w c (sub_ℕ (e + K - f) K)) (no_borrow w a b l)
          ∙ ap (outcome_of w (leb (2 ^ w) (a + (2 ^ w - 1 - b) + 1)))
          (sym (ap (λ z. z -ℤ signed w b) x.number ∙ ap (λ z. sub_ℕ e h -ℤ z) y.number ∙ diff-sub e h f h ∙ diff-eq (e + h) (h + f) (e + K - f) K (omega arith)))

      -- the same from a number z that is given
      pub difference-by : {z : ℕ} → b < 2 ^ w → z ≡ e + K - f → outcome_of w (leb b a) (sub_ℕ z K) ≡ difference w a b
      difference-by l q = rw q (difference-is l)

-- at or above zero the absolute value is the number itself, below zero its negation
pub absolute-low : (w K a : ℕ) → a < 2 ^ (w - 1) → outcome_of w false (sub_ℕ (a + K) K) ≡ absolute w a
unfolding absolute
absolute-low w K a l = ap (outcome_of w false) (diff-pos a (a + K) K (omega arith) ∙ sym (ap (λ z. pos (nat_abs z)) (signed_low w a l)))

pub absolute-high : (w a : ℕ) → 2 ^ (w - 1) ≤ a → negated w a ≡ absolute w a
unfolding absolute negated
absolute-high w a l = let e = signed_high w a l in ap (λ z. outcome_of w false (neg_ℤ z)) e ∙ sym (ap (λ z. outcome_of w false (pos (nat_abs z))) e)
