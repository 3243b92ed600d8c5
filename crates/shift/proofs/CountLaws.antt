-- The count in a register: what the code's tests find, and that a shift stays within the width. Assumes nothing.
use mathlib.Core.Path.{◌≡◌, sym, ap, ◌∙◌, subst}
use mathlib.Core.Bool.{true, cond}
use mathlib.Core.Logic.{⊎_elim}
use Prim.Native.Nat.{ℕ, suc, ◌+◌, ◌-◌, ◌^◌, ◌≤◌, ◌<◌}
use native.Mathlib.Omega.{arith}
use lib.IntN.{ℤ, pos, negsuc}
use borrow.Author.Tests.{le-leb, lt-leb}
use Rattle.twos_complement.specs.Whole.{signed}
use Rattle.twos_complement.proofs.Diff.{order}
use Rattle.twos_complement.proofs.Laws.{signed_low, signed_high}
use Rattle.shift.specs.declared.Shifted.{Shifted}
use Rattle.shift.specs.Shift.{outcome, count_of, moved, shifted_by}
use Rattle.shift.specs.declared.Count.{Count}
use Rattle.shift.specs.declared.Count.TheVariants.{Left, Right, Beyond}

-- a count word that is not negative
pub left-count : (w n : ℕ) → n < 2 ^ 15 → n ≤ w → Left n ≡ count_of w (signed 16 n)
unfolding count_of
left-count w n l h = sym (ap (count_of w) (signed_low 16 n l) ∙ ap (λ t. cond t (Left n) Beyond) (le-leb n w h))

pub left-beyond : (w n : ℕ) → n < 2 ^ 15 → w < n → Beyond ≡ count_of w (signed 16 n)
unfolding count_of
left-beyond w n l h = sym (ap (count_of w) (signed_low 16 n l) ∙ ap (λ t. cond t (Left n) Beyond) (lt-leb n w h))

-- a negative one, and its magnitude by complement and one more
negative : (n : ℕ) → 2 ^ 15 ≤ n → n < 2 ^ 16 → signed 16 n ≡ negsuc (65535 - n)
negative n l u = signed_high 16 n l ∙ ap negsuc (let e : 2 ^ 16 - suc n ≡ 65535 - n = omega arith in e)

pub right-count : (w n : ℕ) → 2 ^ 15 ≤ n → n < 2 ^ 16 → 65535 - n + 1 ≤ w → Right (65535 - n + 1) ≡ count_of w (signed 16 n)
unfolding count_of
right-count w n l u h =
    let e : 65535 - n + 1 ≡ suc (65535 - n) = omega arith in
    ap Right e ∙ sym (ap (count_of w) (negative n l u) ∙ ap (λ t. cond t (Right (suc (65535 - n))) Beyond) (le-leb (suc (65535 - n)) w (omega arith)))

pub right-beyond : (w n : ℕ) → 2 ^ 15 ≤ n → n < 2 ^ 16 → w < 65535 - n + 1 → Beyond ≡ count_of w (signed 16 n)
unfolding count_of
right-beyond w n l u h =
    sym (ap (count_of w) (negative n l u) ∙ ap (λ t. cond t (Right (suc (65535 - n))) Beyond) (lt-leb (suc (65535 - n)) w (omega arith)))

-- a count that moves the word is within the width
unfoldable pub Within : ℕ → Count → Type 0
Within w (Left n) = n ≤ w
Within w (Right n) = n ≤ w
Within w Beyond = Unit

pub within : (w : ℕ) (z : ℤ) → Within w (count_of w z)
unfolding Within count_of
within w (pos n) = ⊎_elim (λ l. rw (lt-leb n w l) tt) (λ l. rw (le-leb n w l) l) (order w n)
within w (negsuc n) = ⊎_elim (λ l. rw (lt-leb (suc n) w l) tt) (λ l. rw (le-leb (suc n) w l) l) (order w (suc n))

pub left-within : (w : ℕ) (z : ℤ) {r : Count} {n : ℕ} → r ≡ count_of w z → r ≡ Left n → n ≤ w
unfolding Within
left-within w z e f = subst (Within w) (sym e ∙ f) (within w z)

pub right-within : (w : ℕ) (z : ℤ) {r : Count} {n : ℕ} → r ≡ count_of w z → r ≡ Right n → n ≤ w
unfolding Within
right-within w z e f = subst (Within w) (sym e ∙ f) (within w z)

-- the three answers of a shift by a count
module _ (w : ℕ) (left right : ℕ → Shifted ℕ) (a count : ℕ) {r : Count} (e : r ≡ count_of w (signed 16 count)) where
  pub left-shifted : {n : ℕ} {s : Shifted ℕ} → r ≡ Left n → s ≡ left n → s ≡ shifted_by w left right a count
  unfolding moved shifted_by
  left-shifted f g = g ∙ ap (moved left right a) (sym f ∙ e)

  pub right-shifted : {n : ℕ} {s : Shifted ℕ} → r ≡ Right n → s ≡ right n → s ≡ shifted_by w left right a count
  unfolding moved shifted_by
  right-shifted f g = g ∙ ap (moved left right a) (sym f ∙ e)

  pub not-shifted : r ≡ Beyond → outcome a true ≡ shifted_by w left right a count
  unfolding moved shifted_by
  not-shifted f = ap (moved left right a) (sym f ∙ e)
