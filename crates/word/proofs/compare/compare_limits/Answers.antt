-- The answers to the goals of `word::compare::compare_limits`. Assumes nothing.
use Rattle.std.proofs.Common.{sym, ◌∙◌}
use Rattle.word.proofs.CompareLaws.{wrong-limits, under-limits, over-limits, within-limits}
use Rattle.word.proofs.compare.compare_limits.Goals as goal

pub returns-then-below : goal.returns-then-below
returns-then-below c = wrong-limits 16 _ _ _ (sym c.below.ensures ∙ c.if-below.true)

pub returns-then-below-2 : goal.returns-then-below-2
returns-then-below-2 c = under-limits 16 _ _ _ (sym c.below.ensures ∙ c.if-below.false) (sym c.below-else-below.ensures ∙ c.if-below-2.true)

pub returns-then-below-3 : goal.returns-then-below-3
returns-then-below-3 c =
    over-limits 16 _ _ _ (sym c.below.ensures ∙ c.if-below.false)
    (sym c.below-else-below.ensures ∙ c.if-below-2.false) (sym c.below-else-below-2.ensures ∙ c.if-below-3.true)

pub returns-else-below-3 : goal.returns-else-below-3
returns-else-below-3 c =
    within-limits 16 _ _ _ (sym c.below.ensures ∙ c.if-below.false)
    (sym c.below-else-below.ensures ∙ c.if-below-2.false) (sym c.below-else-below-2.ensures ∙ c.if-below-3.false)
