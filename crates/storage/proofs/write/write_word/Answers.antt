-- The answers to the goals of `storage::write::write_word`. Assumes nothing.
use Rattle.page.proofs.ReachLaws.{located-inside}
use Rattle.page.proofs.SpanLaws.{put_as}
use Rattle.page.specs.Spans.{put_at}
use Rattle.std.proofs.Common.{arith}
use Rattle.storage.proofs.write.write_word.Goals as goal

pub offset_bounds-memory-p : goal.offset_bounds-memory-p
offset_bounds-memory-p c = omega (arith, located-inside _ _ _ _ _ _ _ _ c.look_up.ensures c.in-Ok.is)

pub bounds-memory-p : goal.bounds-memory-p
bounds-memory-p c = located-inside _ _ _ _ _ _ _ _ c.look_up.ensures c.in-Ok.is

pub returns-in-Ok : goal.returns-in-Ok
unfolding put_at
returns-in-Ok c = put_as _ _ _ c.look_up.ensures c.in-Ok.is _ _

pub returns-in_default : goal.returns-in_default
unfolding put_at
returns-in_default c = put_as _ _ _ c.look_up.ensures c.in_default.is _ _
