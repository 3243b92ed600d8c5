-- The answers to the goals of `image::questions::check_entries`. Assumes nothing.
use Rattle.std.proofs.Common.{◌≡◌, ◌+◌, ◌-◌, refl, sym, ◌∙◌, arith}
use Rattle.std.proofs.lemmas.Result.{err_from_is_err_and}
use Rattle.image.proofs.QuestionLaws.{entries_none, entries-on, entries-out}
use Rattle.image.proofs.questions.check_entries.Goals as goal

pub loop-k-init : goal.loop-k-init
loop-k-init c = let e : c.args.n - 0 ≡ c.args.n = omega arith in rw e refl

pub returns-in_err-check_entry : goal.returns-in_err-check_entry
returns-in_err-check_entry c =
    let p = err_from_is_err_and c.from_residual.result c.from_residual.ensures.1 in
    rw (p.1, p.2) (sym (c.loop-k.invariant ∙ entries-out _ _ _ _ (omega arith) _ (c.in_err-check_entry.ensures {u = tt})))

pub loop-k-preserved : goal.loop-k-preserved
loop-k-preserved c =
    let e : c.args.n - c.loop-k.k - 1 ≡ c.args.n - (c.loop-k.k + 1) = omega arith in
    c.loop-k.invariant ∙ entries-on _ _ _ _ (omega arith) (c.in_ok-check_entry.ensures {u = tt}) ∙ rw e refl

pub returns : goal.returns
returns c = sym (c.loop-k.invariant ∙ entries_none _ _ _ _ (omega arith))
