-- The answers to the goals of `fast_accumulate::double::combine32`. Assumes nothing.
use Rattle.choice.proofs.SelectLaws.{otherwise}
use Rattle.fast_accumulate.specs.Paths.{into_double}
use mathlib.Core.List.{[], ◌∷◌}
use Rattle.fast_accumulate.proofs.double.combine32.Goals as goal

pub returns-in-59 : goal.returns-in-59
unfolding into_double
returns-in-59 c = rw c.in-59.is c.add.ensures

pub returns-in-67 : goal.returns-in-67
unfolding into_double
returns-in-67 c = rw c.in-67.is c.sub.ensures

pub returns-in_default : goal.returns-in_default
unfolding into_double
returns-in_default c = rw (otherwise c.args.operation ((59, _) ∷ (67, _) ∷ []) _ c.in_default.in_default-own.rest) c.plain.ensures
