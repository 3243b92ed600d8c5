-- The answers to the goals of `test_case_line::set::place`. Assumes nothing.
use Rattle.choice.proofs.SelectLaws.{otherwise}
use Rattle.test_case_line.specs.Fields.{place_of}
use mathlib.Core.List.{[], ◌∷◌}
use mathlib.Core.Path.{sym}
use Rattle.test_case_line.proofs.set.place.Goals as goal

pub returns-in-24 : goal.returns-in-24
unfolding place_of
returns-in-24 c = rw c.in-24.is

pub returns-in-25 : goal.returns-in-25
unfolding place_of
returns-in-25 c = rw c.in-25.is

pub returns-in-26 : goal.returns-in-26
unfolding place_of
returns-in-26 c = rw c.in-26.is

pub returns-in-27 : goal.returns-in-27
unfolding place_of
returns-in-27 c = rw c.in-27.is

pub returns-in-28 : goal.returns-in-28
unfolding place_of
returns-in-28 c = rw c.in-28.is

pub returns-in_default : goal.returns-in_default
unfolding place_of
returns-in_default c = sym (otherwise c.args.number ((24, _) ∷ (25, _) ∷ (26, _) ∷ (27, _) ∷ (28, _) ∷ []) _ c.in_default.in_default-own.rest)
