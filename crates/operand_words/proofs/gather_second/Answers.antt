-- The answers to the goals of `operand_words::gather_second`. Assumes nothing.
use Rattle.std.proofs.Common.{Err, refl, ap, ◌∙◌, le-ltb, lt-ltb}
use Rattle.std.proofs.lemmas.Result.{err_from_is_err_and}
use Rattle.page.specs.Spans.{wrapped}
use Rattle.operand_words.specs.Gathers.{with_word, from_second}
use Rattle.operand_words.proofs.gather_second.Goals as goal

pub returns-then-k-le1 : goal.returns-then-k-le1
unfolding from_second
returns-then-k-le1 c = rw (le-ltb _ _ c.if-k-le1.true) refl

pub returns-in_err-y : goal.returns-in_err-y
unfolding from_second with_word
returns-in_err-y c =
    let p = err_from_is_err_and c.from_residual.result c.from_residual.ensures.1 in
    p.1 ∙ ap Err p.2 ∙ rw (lt-ltb _ _ c.if-k-le1.false, ← c.read_word.ensures, c.in_err-y.was) refl

pub returns : goal.returns
unfolding from_second with_word wrapped
returns c = rw (lt-ltb _ _ c.if-k-le1.false, ← c.read_word.ensures, c.in_ok-y.was) c.gather_third.ensures
