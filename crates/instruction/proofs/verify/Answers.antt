-- The answers to the goals of `instruction::verify`. Assumes nothing.
use Rattle.std.proofs.Common.{Err, refl, ap, ◌∙◌}
use Rattle.std.proofs.lemmas.Result.{err_from_is_err_and}
use Rattle.machine.specs.Instructions.{both}
use Rattle.instruction.proofs.verify.Goals as goal

pub returns-in_err-check_span : goal.returns-in_err-check_span
unfolding both
returns-in_err-check_span c =
    let p = err_from_is_err_and c.from_residual.result c.from_residual.ensures.1 in
    p.1 ∙ ap Err p.2 ∙ rw (← c.key_of-key.ensures.0, ← c.group_of-group.ensures.0, ← c.check_span.ensures, c.in_err-check_span.was) refl

pub returns : goal.returns
unfolding both
returns c = rw (← c.key_of-key.ensures.0, ← c.group_of-group.ensures.0, ← c.check_span.ensures, c.in_ok-check_span.was) c.check_span-2.ensures
