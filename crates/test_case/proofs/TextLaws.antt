-- The lines of the words that have changed. Assumes nothing.
use Rattle.std.proofs.Common.{◌≡◌, refl, ℕ, zero, suc, ◌+◌, List, [], length, get_or, arith, subst, append-nil, add-one, eq-eqb, ne_eqb}
use lib.Dec.{eqb}
use borrow.Author.Tests.{eqb-true, eqb-false}
use Rattle.choice.proofs.TestLaws.{split}
use Rattle.text.specs.Texts.{Wrote}
use Rattle.text.proofs.WroteLaws.{then}
use Rattle.test_case_line.specs.Texts.{entry_line}
use Rattle.test_case.specs.Case.{change_line, changes_to, changes, Same}

-- the lines of the first n words, and then of the next, which is as it was or has changed
module _ {b c : List ℕ} {at m : ℕ} (k : ℕ) (before after : List ℕ) (n : ℕ) (p : Wrote b at (changes_to k before after n) c m) where
  pub changes-same : get_or before n 0 ≡ get_or after n 0 → Wrote b at (changes_to k before after (n + 1)) c m
  unfolding changes_to change_line
  changes-same e = rw (add-one, eq-eqb _ _ e, append-nil) p

  pub changes-more : {d : List ℕ} {r : ℕ} → (get_or before n 0 ≡ get_or after n 0 → ⊥) → Wrote c m (entry_line k n (get_or after n 0)) d r
      → Wrote b at (changes_to k before after (n + 1)) d r
  unfolding changes_to change_line
  changes-more e q = rw (add-one, ne_eqb _ _ e) (then p q)

  pub changes-all : n ≡ length after → Wrote b at (changes k before after) c m
  unfolding changes
  changes-all e = subst (λ i. Wrote b at (changes_to k before after i) c m) e p

-- ---- words that are the same

pub same-none : (before after : List ℕ) → Same before after 0
same-none before after k h = let z : ⊥ = omega arith in absurd z

pub same-on : (before after : List ℕ) (n : ℕ) → Same before after n → get_or before n 0 ≡ get_or after n 0 → Same before after (n + 1)
same-on before after n s e k h = split (eqb k n) (λ t. rw (eqb-true k n t) e) (λ t. s k (omega (arith, eqb-false k n t)))

changes-none : (k : ℕ) (before after : List ℕ) (n : ℕ) → Same before after n → changes_to k before after n ≡ []
unfolding changes_to change_line
changes-none k before after zero s = refl
changes-none k before after (suc n) s = rw (changes-none k before after n (λ i h. s i (omega arith)), eq-eqb _ _ (s n (omega arith))) refl

pub same-changes : (k : ℕ) (before after : List ℕ) → Same before after (length after) → [] ≡ changes k before after
unfolding changes
same-changes k before after s = rw (changes-none k before after (length after) s) refl
