-- The answers to the goals of `fixed_muldiv::parts::join`. Assumes nothing.
use Rattle.std.proofs.Common.{◌∙◌, ap, false}
use Rattle.fixed_add.specs.Fixed.{outcome_of}
use Rattle.fixed_muldiv.proofs.PartsLaws.{plus, minus}
use Rattle.fixed_muldiv.proofs.parts.join.Goals as goal

pub returns-then-neg : goal.returns-then-neg
returns-then-neg g c = c.narrow.ensures ∙ rw (c.if-neg.true, c.OFFSET.ensures) (ap (outcome_of g.W.Word.WIDTH false) (minus _ _ c.requires))

pub returns-else-neg : goal.returns-else-neg
returns-else-neg g c = c.narrow-else-neg.ensures ∙ rw (c.if-neg.false, c.OFFSET-else-neg.ensures) (ap (outcome_of g.W.Word.WIDTH false) (plus _ _))
