-- The answers to the goals of `instruction_retired::deny`. Assumes nothing.
use Rattle.instruction_retired.specs.Settled.{retired_with}
use mathlib.Core.Bool.{false}
use mathlib.Core.Path.{ap, ◌∙◌}
use Rattle.instruction_retired.proofs.deny.Goals as goal

pub returns : goal.returns
returns c = c.unsettled.ensures ∙ ap (retired_with false) c.fault.ensures
