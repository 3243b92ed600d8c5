-- The answers to the goals of `fixed_muldiv::quotients::divide`. Assumes nothing.
use Rattle.std.proofs.Common.{◌∙◌}
use Rattle.fixed_muldiv.proofs.QuotientLaws.{divided-is}
use Rattle.fixed_muldiv.proofs.quotients.divide.Goals as goal

pub returns : goal.returns
returns g c = c.division.ensures ∙ divided-is c.split.ensures c.split-2.ensures
