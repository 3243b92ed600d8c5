-- The answers to the goals of `fast_accumulate::single::combine16`. Assumes nothing.
use Rattle.choice.proofs.SelectLaws.{otherwise}
use Rattle.fast_accumulate.specs.Paths.{into_single}
use mathlib.Core.List.{[], ◌∷◌}
use Rattle.fast_accumulate.proofs.single.combine16.Goals as goal

pub returns-in-55 : goal.returns-in-55
unfolding into_single
returns-in-55 c = rw c.in-55.is c.add.ensures

pub returns-in-63 : goal.returns-in-63
unfolding into_single
returns-in-63 c = rw c.in-63.is c.sub.ensures

pub returns-in-81 : goal.returns-in-81
unfolding into_single
returns-in-81 c = rw (c.in-81.is, ← c.or.ensures) c.plain.ensures

pub returns-in-82 : goal.returns-in-82
unfolding into_single
returns-in-82 c = rw (c.in-82.is, ← c.and.ensures) c.plain-in-82.ensures

pub returns-in_default : goal.returns-in_default
unfolding into_single
returns-in_default c = rw (otherwise c.args.operation ((55, _) ∷ (63, _) ∷ (81, _) ∷ (82, _) ∷ []) _ c.in_default.in_default-own.rest) c.plain-in_default.ensures
