-- Names filled up: a text of at most four bytes without blanks is the letters of it filled up. Assumes nothing.
use Prim.Native.Nat.{ℕ, ◌+◌, ◌≤◌, ◌<◌}
use mathlib.Core.Path.{◌≡◌, refl, sym, ◌∙◌}
use mathlib.Core.Bool.{true, false, not, false≢true}
use mathlib.Core.List.{List, [], ◌∷◌, ◌++◌, append_assoc, append-nil}
use native.Mathlib.Omega.{arith}
use lib.Dec.{eqb}
use lib.ListN.{length, get_or, drop, drop_of_length-le}
use lib.Seq.{drop-cons}
use native.Mathlib.Numerals.{add-one}
use borrow.Author.Tests.{eq-eqb, ne_eqb, eqb-true, not-true}
use Rattle.choice.proofs.TestLaws.{both}
use Rattle.line_operand.specs.Numerals.{lacks}
use Rattle.line_table.specs.Boxes.{same_text}
use Rattle.line_table.specs.Entries.{letter, letters, filled}

pub same_true : (t u : List ℕ) → same_text t u ≡ true → t ≡ u
unfolding same_text
same_true [] [] h = refl
same_true [] (y ∷ u) h = absurd (false≢true h)
same_true (x ∷ t) [] h = absurd (false≢true h)
same_true (x ∷ t) (y ∷ u) h =
    let v = both (eqb x y) (same_text t u) h in
    rw (eqb-true x y v.0, same_true t u v.1) refl

pub same_refl : (t : List ℕ) → same_text t t ≡ true
unfolding same_text
same_refl [] = refl
same_refl (x ∷ t) = rw (eq-eqb x x refl) (same_refl t)

lacks-cons : (x : ℕ) (t : List ℕ) → lacks 32 (x ∷ t) ≡ true → (eqb x 32 ≡ false) × (lacks 32 t ≡ true)
unfolding lacks
lacks-cons x t h =
    let u = both (not (eqb x 32)) (lacks 32 t) h in
    (not-true (eqb x 32) u.0, u.1)

pub renamed : (t : List ℕ) → lacks 32 t ≡ true → length t ≤ 4 → letters (filled t) ≡ t
unfolding filled letter letters
renamed [] l h = refl
renamed (w ∷ []) l h =
    let p = lacks-cons w [] l in
    rw p.0 refl
renamed (w ∷ x ∷ []) l h =
    let p = lacks-cons w (x ∷ []) l in
    let q = lacks-cons x [] p.1 in
    rw (p.0, q.0) refl
renamed (w ∷ x ∷ y ∷ []) l h =
    let p = lacks-cons w (x ∷ y ∷ []) l in
    let q = lacks-cons x (y ∷ []) p.1 in
    let r = lacks-cons y [] q.1 in
    rw (p.0, q.0, r.0) refl
renamed (w ∷ x ∷ y ∷ z ∷ []) l h =
    let p = lacks-cons w (x ∷ y ∷ z ∷ []) l in
    let q = lacks-cons x (y ∷ z ∷ []) p.1 in
    let r = lacks-cons y (z ∷ []) q.1 in
    let s = lacks-cons z [] r.1 in
    rw (p.0, q.0, r.0, s.0) refl
renamed (w ∷ x ∷ y ∷ z ∷ v ∷ t) l h = let n : ⊥ = omega arith in absurd n

-- a text put over four blanks
pub filled-over : (t : List ℕ) → length t ≤ 4 → t ++ drop (length t) (32 ∷ 32 ∷ 32 ∷ 32 ∷ []) ≡ filled t
unfolding filled
filled-over [] h = refl
filled-over (w ∷ []) h = refl
filled-over (w ∷ x ∷ []) h = refl
filled-over (w ∷ x ∷ y ∷ []) h = refl
filled-over (w ∷ x ∷ y ∷ z ∷ []) h = refl
filled-over (w ∷ x ∷ y ∷ z ∷ v ∷ t) h = let n : ⊥ = omega arith in absurd n

-- ---- the letters of a name put behind the text a, one after the other

module _ (n : List ℕ) (i : ℕ) (a t : List ℕ) (h : i < length n) (p : a ++ letters (drop i n) ≡ t) where
  pub letter-put : (b : List ℕ) → (get_or n i 0 ≡ 32 → ⊥) → b ≡ a ++ get_or n i 0 ∷ [] → b ++ letters (drop (i + 1) n) ≡ t
  unfolding letters letter
  letter-put b x e = rw (e, append_assoc, add-one) (rw (drop-cons n i 0 h, ne_eqb (get_or n i 0) 32 x) at p)

  pub letter-left : (b : List ℕ) → get_or n i 0 ≡ 32 → b ≡ a → b ++ letters (drop (i + 1) n) ≡ t
  unfolding letters letter
  letter-left b x e = rw (e, add-one) (rw (drop-cons n i 0 h, x) at p)

pub letters-end : (n : List ℕ) (i : ℕ) (a t : List ℕ) → length n ≤ i → a ++ letters (drop i n) ≡ t → a ≡ t
unfolding letters
letters-end n i a t h p = sym (append-nil a) ∙ (rw (drop_of_length-le n {i = i} h) at p)
