-- Question 11 asks what it says: entries of at least one word share one exactly when they are of one kind and both fill some word.
-- Assumes nothing.
use Prim.Native.Nat.{ℕ, ◌≤◌, ◌<◌}
use mathlib.Core.Path.{◌≡◌, refl}
use mathlib.Core.Bool.{Bool, true, false}
use native.Mathlib.Omega.{arith}
use lib.Dec.{eqb, leb, ltb}
use borrow.Author.Tests.{eq-eqb, lt-ltb, eqb-true, leb-true, leb-false, ltb-true}
use Rattle.image.specs.declared.Entry.{Entry}
use Rattle.image.specs.Image.{end_of, share}
use Rattle.image.proofs.SoundLaws.{and_yes}

pub record Shared (e f : Entry) : Type 0 where
  pub kind-is : e.kind ≡ f.kind
  pub word : ℕ
  pub filled : (e.start ≤ word) × (word < end_of e)
  pub refilled : (f.start ≤ word) × (word < end_of f)

module _ (e f : Entry) where
  pub shared-share : Shared e f → share e f ≡ true
  unfolding share
  shared-share s = rw (eq-eqb _ _ s.kind-is, lt-ltb e.start (end_of f) (omega arith), lt-ltb f.start (end_of e) (omega arith)) refl

  pub share-shared : 1 ≤ e.words → 1 ≤ f.words → share e f ≡ true → Shared e f
  unfolding share end_of
  share-shared m n h =
      let p = and_yes (eqb e.kind f.kind) _ h in
      let q = and_yes (ltb e.start (end_of f)) _ p.1 in
      let k = ltb-true _ _ q.0 in
      let l = ltb-true _ _ q.1 in
      go (eqb-true _ _ p.0) k l (leb e.start f.start) refl
    where
      go : e.kind ≡ f.kind → e.start < end_of f → f.start < end_of e → (t : Bool) → leb e.start f.start ≡ t → Shared e f
      go i k l true g = let h : e.start ≤ f.start = leb-true _ _ g in record { kind-is = i; word = f.start; filled = omega arith; refilled = omega arith }
      go i k l false g = let h : f.start < e.start = leb-false _ _ g in record { kind-is = i; word = e.start; filled = omega arith; refilled = omega arith }
