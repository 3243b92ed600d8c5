-- The answers to the goals of `operand_words::gather`. Assumes nothing.
use Rattle.std.proofs.Common.{Err, length, refl, ap, ◌∙◌, le-ltb, lt-ltb, arith}
use Rattle.std.proofs.lemmas.Result.{err_from_is_err_and}
use Rattle.page.specs.Spans.{wrapped}
use Rattle.operand_words.specs.Gathers.{with_word}
use Rattle.operand_words.proofs.GatherLaws.{from_first, gathered-few}
use Rattle.operand_words.proofs.gather.Goals as goal

pub returns-then-k-eq0 : goal.returns-then-k-eq0
unfolding from_first
returns-then-k-eq0 c = rw (← gathered-few c.args.key c.args.group c.args.pages.now (length c.args.memory.now) c.args.memory.now c.args.a c.args.k c.requires.1, le-ltb 0 c.args.k (omega (arith, c.if-k-eq0.true))) refl

pub returns-in_err-x : goal.returns-in_err-x
unfolding from_first with_word
returns-in_err-x c =
    let p = err_from_is_err_and c.from_residual.result c.from_residual.ensures.1 in
    p.1 ∙ ap Err p.2 ∙ rw (← gathered-few c.args.key c.args.group c.args.pages.now (length c.args.memory.now) c.args.memory.now c.args.a c.args.k c.requires.1, lt-ltb 0 c.args.k (omega (arith, c.if-k-eq0.false)), ← c.read_word.ensures, c.in_err-x.was) refl

pub returns : goal.returns
unfolding from_first with_word wrapped
returns c = rw (← gathered-few c.args.key c.args.group c.args.pages.now (length c.args.memory.now) c.args.memory.now c.args.a c.args.k c.requires.1, lt-ltb 0 c.args.k (omega (arith, c.if-k-eq0.false)), ← c.read_word.ensures, c.in_ok-x.was) c.gather_second.ensures
