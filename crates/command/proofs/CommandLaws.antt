-- Commands on one side of 8000 meet none of the rules on the other. Assumes nothing.
use Rattle.std.proofs.Common.{Result, Ok, Err}
use Prim.Native.Nat.{ℕ, ◌≤◌}
use Rattle.machine.specs.declared.Core.{Core}
use Rattle.page.specs.declared.Refusal.{Refusal}
use mathlib.Core.Bool.{Bool, true, false, ◌&&◌, false≢true}
use mathlib.Core.List.{List, [], ◌∷◌}
use mathlib.Core.Path.{◌≡◌, refl, sym, ap, ◌∙◌}
use borrow.Author.Tests.{ne_eqb}
use Rattle.choice.specs.Select.{select, up_to}
use Rattle.choice.proofs.SelectLaws.{beyond}
use Rattle.choice.proofs.TestLaws.{both}
use Rattle.command.specs.Transfer.{Kept}

-- whether the numbers of all rules pass the test p
abbrev pub every : {A : Type 0} → (ℕ → Bool) → List (ℕ × A) → Bool
every p [] = true
every p (r ∷ rs) = p r.0 && every p rs

-- a number that fails a test which all rules' numbers pass has the default
pub unlisted : {A : Type 0} (p : ℕ → Bool) (n : ℕ) (rs : List (ℕ × A)) (d : A) → every p rs ≡ true → p n ≡ false → select n rs d ≡ d
unlisted p n [] d h f = refl
unlisted p n (r ∷ rs) d h f =
    let u = both _ _ h in
    rw (ne_eqb n r.0 (λ e. false≢true (sym f ∙ ap p e ∙ u.0))) (unlisted p n rs d u.1 f)

-- a command from 8000 on is past the ranges of the outputs
pub past-outputs : {A : Type 0} (c : ℕ) → 0x8000 ≤ c → (v w x y z d e : A) → e ≡ d
    → e ≡ up_to c ((0x03FF, v) ∷ (0x50FF, w) ∷ (0x51FF, x) ∷ (0x52FF, y) ∷ (0x7FFF, z) ∷ []) d
past-outputs c h v w x y z d e f = f ∙ sym (beyond c 0x8000 ((0x03FF, v) ∷ (0x50FF, w) ∷ (0x51FF, x) ∷ (0x52FF, y) ∷ (0x7FFF, z) ∷ []) d refl h)

-- a list that is the same afterwards is kept
pub same : (r : Result Core Refusal) (x : List ℕ) → Kept r x x
unfolding Kept
same (Ok c) x = tt
same (Err b) x = refl
