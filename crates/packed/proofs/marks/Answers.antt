-- The answers to the goals of `packed::marks`. Assumes nothing.
use Rattle.packed.proofs.PackLaws.{marks-sum}
use Rattle.packed.specs.Packed.{mark_at}
use Rattle.packed.proofs.marks.Goals as goal

pub returns : goal.returns
unfolding mark_at
returns c = rw (c.mark.ensures.0, c.mark-2.ensures.0, c.mark-3.ensures.0, c.mark-4.ensures.0) (marks-sum _)
