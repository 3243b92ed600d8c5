-- The answers to the goals of `operand_words::gather_third`. Assumes nothing.
use Rattle.std.proofs.Common.{Err, refl, ap, ◌∙◌, le-ltb, lt-ltb}
use Rattle.std.proofs.lemmas.Result.{err_from_is_err_and}
use Rattle.operand_words.specs.Gathers.{with_word, from_third}
use Rattle.operand_words.proofs.gather_third.Goals as goal

pub returns-then-k-le2 : goal.returns-then-k-le2
unfolding from_third
returns-then-k-le2 c = rw (le-ltb _ _ c.if-k-le2.true) refl

pub returns-in_err-z : goal.returns-in_err-z
unfolding from_third with_word
returns-in_err-z c =
    let p = err_from_is_err_and c.from_residual.result c.from_residual.ensures.1 in
    p.1 ∙ ap Err p.2 ∙ rw (lt-ltb _ _ c.if-k-le2.false, ← c.read_word.ensures, c.in_err-z.was) refl

pub returns : goal.returns
unfolding from_third with_word
returns c = rw (lt-ltb _ _ c.if-k-le2.false, ← c.read_word.ensures, c.in_ok-z.was) refl
