-- The answers to the goals of `page::lookup::check_span`. Assumes nothing.
use Rattle.std.proofs.Common.{Err, sym, refl, ap, ◌∙◌, arith}
use Rattle.std.proofs.Math.Nat.{sub-zero}
use Rattle.std.proofs.lemmas.Result.{err_from_is_err_and}
use Rattle.page.proofs.SpanLaws.{kept, taken, checked-none, then-as, checked-step}
use Rattle.page.specs.Spans.{and_then, checked}
use Rattle.page.proofs.lookup.check_span.Goals as goal
use Rattle.page.proofs.lookup.check_span.Goals.{then-number-span+in_ok-look_up, else-number-span}

pub loop-number-init : goal.loop-number-init
unfolding checked
loop-number-init c = rw sub-zero refl

pub returns-in_err-look_up : goal.returns-in_err-look_up
unfolding and_then
returns-in_err-look_up c =
    let p = err_from_is_err_and c.from_residual.result c.from_residual.ensures.1 in
    p.1 ∙ ap Err p.2 ∙ sym (c.loop-number.invariant ∙ checked-step _ _ _ _ _ _ _ _ _ c.loop-number-test.true _ (taken c.args.span _ _ _ _ c.if-number-span.true (then-as _ _ _ c.look_up.ensures c.in_err-look_up.was _)))

pub loop-number-preserved : goal.loop-number-preserved
unfolding and_then
loop-number-preserved c = c.loop-number.invariant ∙ checked-step _ _ _ _ _ _ _ _ _ c.loop-number-test.true _ (elim c.if-number-span.branch [
  | then-number-span+in_ok-look_up w ↦ taken c.args.span _ _ _ _ w.if-number-span.true (then-as _ _ _ w.look_up.ensures w.in_ok-look_up.was _)
  | else-number-span w ↦ kept c.args.span _ _ _ w.if-number-span.false
])

pub returns : goal.returns
returns c = sym (c.loop-number.invariant ∙ checked-none _ _ _ _ _ _ _ _ _ (omega arith))
