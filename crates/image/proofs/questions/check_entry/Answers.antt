-- The answers to the goals of `image::questions::check_entry`. Assumes nothing.
use Rattle.std.proofs.lemmas.Result.{err_from_is_err_and}
use Rattle.image.proofs.QuestionLaws.{unknown, no_words, outside, shared, entry-right}
use Rattle.image.proofs.questions.check_entry.Goals as goal

pub returns-in_err-target : goal.returns-in_err-target
returns-in_err-target c =
    let p = err_from_is_err_and c.from_residual.result c.from_residual.ensures.1 in
    let q = c.in_err-target.ensures {u = tt} in
    rw (p.1, p.2, q.0) (unknown _ _ _ _ c.entry_at-e.ensures q.1)

pub returns-then-e-lt1 : goal.returns-then-e-lt1
returns-then-e-lt1 c = no_words _ _ _ _ c.entry_at-e.ensures _ (c.in_ok-target.ensures {u = tt}) c.if-e-lt1.true

pub returns-then-size-end : goal.returns-then-size-end
returns-then-size-end c = outside _ _ _ _ c.entry_at-e.ensures _ (c.in_ok-target.ensures {u = tt}) c.if-e-lt1.false _ c.size.ensures _ c.end.ensures c.if-size-end.true

pub returns-then-shares_earlier : goal.returns-then-shares_earlier
returns-then-shares_earlier c = shared _ _ _ _ c.entry_at-e.ensures _ (c.in_ok-target.ensures {u = tt}) c.if-e-lt1.false _ c.size.ensures _ c.end.ensures c.if-size-end.false _ c.shares_earlier.ensures c.if-shares_earlier.true

pub returns : goal.returns
returns c = entry-right _ _ _ _ c.entry_at-e.ensures _ (c.in_ok-target.ensures {u = tt}) c.if-e-lt1.false _ c.size.ensures _ c.end.ensures c.if-size-end.false _ c.shares_earlier.ensures c.if-shares_earlier.false
