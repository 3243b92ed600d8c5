-- The first element of a list that passes a test. Assumes nothing.
use Rattle.std.specs.Prelude.{Bool, cond, List, [], ◌∷◌}
use Rattle.std.proofs.Math.Option.{Option, none, some}

-- the element, and none where no element passes
abbrev pub found : {A : Type 0} → (A → Bool) → List A → Option A
found f [] = none
found f (x ∷ l) = cond (f x) (some x) (found f l)
