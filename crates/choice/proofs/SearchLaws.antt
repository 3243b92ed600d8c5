-- The first element that passes a test: what holds of it, and when it is the only one. Assumes nothing.
use mathlib.Core.Path.{◌≡◌, refl}
use mathlib.Core.Bool.{Bool, true, ◌&&◌}
use mathlib.Core.List.{List, [], ◌∷◌}
use mathlib.Core.Option.{Option, none, some}
use Rattle.choice.specs.Search.{found}
use Rattle.choice.proofs.Rows.{all_of}
use Rattle.choice.proofs.TestLaws.{split, both}

-- what holds of an element, if there is one
abbrev pub OnSome : {A : Type 0} → (A → Type 0) → Option A → Type 0
OnSome P none = Unit {0}
OnSome P (some x) = P x

-- two facts of it, and what follows from them
on_both : {A : Type 0} {P Q R : A → Type 0} → ((x : A) → P x → Q x → R x) → (o : Option A) → OnSome P o → OnSome Q o → OnSome R o
on_both f none p q = tt
on_both f (some x) p q = f x p q

-- whether each element passes a test with every later one
unfoldable pub pairs_of : {A : Type 0} → (A → A → Bool) → List A → Bool
pairs_of f [] = true
pairs_of f (x ∷ l) = all_of (f x) l && pairs_of f l

module _ {A : Type 0} where
  -- what is found passes
  pub found-passes : (f : A → Bool) (l : List A) → OnSome (λ x. f x ≡ true) (found f l)
  found-passes f [] = tt
  found-passes f (x ∷ l) = split (f x) (λ e. rw e e) (λ e. rw e (found-passes f l))

  -- and passes every test that all elements pass
  pub found_all : (f g : A → Bool) (l : List A) → all_of g l ≡ true → OnSome (λ x. g x ≡ true) (found f l)
  found_all f g [] t = tt
  found_all f g (x ∷ l) t =
      let u = both (g x) (all_of g l) t in
      split (f x) (λ e. rw e u.0) (λ e. rw e (found_all f g l u.1))

  -- where no two elements pass f, an element that passes it, found in whatever way, is the one that f finds
  pub found-only : (f : A → Bool) (g : A → A → Bool) → ((x y : A) → g x y ≡ true → f x ≡ true → f y ≡ true → ⊥)
      → (h : A → Bool) (l : List A) → pairs_of g l ≡ true → OnSome (λ x. f x ≡ true → found f l ≡ some x) (found h l)
  unfolding pairs_of
  found-only f g n h [] t = tt
  found-only f g n h (x ∷ l) t =
      let u = both (all_of (g x) l) (pairs_of g l) t in
      split (h x)
      (λ e. rw e (λ p. rw p refl))
      (λ e. rw e (on_both
      (λ y r q p. split (f x) (λ s. absurd (n x y r s p)) (λ s. rw s (q p)))
      (found h l) (found_all h (g x) l u.0) (found-only f g n h l u.1)))
