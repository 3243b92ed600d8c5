-- The answers to the goals of `image::questions::check_table`. Assumes nothing.
use Rattle.std.proofs.lemmas.Result.{err_from_is_err_and}
use Rattle.image.proofs.QuestionLaws.{many-entries, short-table, bad-entry, bad-bodies, table-right}
use Rattle.image.proofs.questions.check_table.Goals as goal

pub returns-then-n-gt64 : goal.returns-then-n-gt64
returns-then-n-gt64 c = many-entries _ _ _ c.count-n.ensures.0 c.if-n-gt64.true

pub returns-then-image-end : goal.returns-then-image-end
returns-then-image-end c = short-table _ _ _ c.count-n.ensures.0 c.if-n-gt64.false c.if-image-end.true

pub returns-in_err-check_entries : goal.returns-in_err-check_entries
returns-in_err-check_entries c =
    let p = err_from_is_err_and c.from_residual.result c.from_residual.ensures.1 in
    rw (p.1, p.2) (bad-entry _ _ _ c.count-n.ensures.0 c.if-n-gt64.false c.if-image-end.false _ (c.in_err-check_entries.ensures {u = tt}))

pub returns-then-image-end-2 : goal.returns-then-image-end-2
returns-then-image-end-2 c = bad-bodies _ _ _ c.count-n.ensures.0 c.if-n-gt64.false c.if-image-end.false (c.in_ok-check_entries.ensures {u = tt}) _ c.words_before.ensures.0 c.if-image-end-2.true

pub returns : goal.returns
returns c = table-right _ _ _ c.count-n.ensures.0 c.if-n-gt64.false c.if-image-end.false (c.in_ok-check_entries.ensures {u = tt}) _ c.words_before.ensures.0 c.if-image-end-2.false
