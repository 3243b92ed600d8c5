-- The answers to the goals of `storage::read::read_word`. Assumes nothing.
use Rattle.std.proofs.Common.{Err, ap, ◌∙◌, arith}
use Rattle.std.proofs.lemmas.Result.{err_from_is_err_and}
use Rattle.page.proofs.ReachLaws.{located-inside}
use Rattle.page.proofs.SpanLaws.{got-as}
use Rattle.page.specs.Spans.{got_at}
use Rattle.storage.proofs.read.read_word.Goals as goal

pub returns-in_err-p : goal.returns-in_err-p
unfolding got_at
returns-in_err-p c =
    let p = err_from_is_err_and c.from_residual.result c.from_residual.ensures.1 in
    p.1 ∙ ap Err p.2 ∙ got-as _ _ _ c.look_up.ensures c.in_err-p.was _

pub offset_bounds-memory-p : goal.offset_bounds-memory-p
offset_bounds-memory-p c = omega (arith, located-inside _ _ _ _ _ _ _ _ c.look_up.ensures c.in_ok-p.was)

pub bounds-memory-p : goal.bounds-memory-p
bounds-memory-p c = located-inside _ _ _ _ _ _ _ _ c.look_up.ensures c.in_ok-p.was

pub returns : goal.returns
unfolding got_at
returns c = got-as _ _ _ c.look_up.ensures c.in_ok-p.was _
