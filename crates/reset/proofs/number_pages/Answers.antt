-- The answers to the goals of `reset::number_pages`. Assumes nothing.
use Rattle.std.proofs.Common.{refl, arith}
use Rattle.reset.proofs.FillLaws.{filled_more, filled-all}
use Rattle.reset.specs.Reset.{cycle, reset_pages}
use Rattle.reset.proofs.number_pages.Goals as goal

pub loop-k-preserved : goal.loop-k-preserved
loop-k-preserved c = filled_more _ _ _ _ _ c.loop-k.invariant (omega arith) refl

pub returns : goal.returns
unfolding reset_pages cycle
returns c = filled-all _ _ _ _ c.loop-k.invariant (omega arith)
