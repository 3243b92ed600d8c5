-- The answers to the goals of `word::compare::compare`. Assumes nothing.
use Rattle.std.proofs.Common.{arith, sym, ◌∙◌}
use Rattle.word.proofs.CompareLaws.{equal-compared, less-compared, greater-compared}
use Rattle.word.proofs.compare.compare.Goals as goal

pub returns-then-number : goal.returns-then-number
returns-then-number g c = equal-compared g.W.Word.WIDTH _ _ (omega arith)

pub returns-then-below : goal.returns-then-below
returns-then-below g c = less-compared g.W.Word.WIDTH _ _ (λ e. omega arith) (sym c.below.ensures ∙ c.if-below.true)

pub returns-else-below : goal.returns-else-below
returns-else-below g c = greater-compared g.W.Word.WIDTH _ _ (λ e. omega arith) (sym c.below.ensures ∙ c.if-below.false)
