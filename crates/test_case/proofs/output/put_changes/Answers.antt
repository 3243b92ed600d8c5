-- The answers to the goals of `test_case::output::put_changes`. Assumes nothing.
use Rattle.std.proofs.Common.{arith, subst}
use Rattle.test_case.proofs.TextLaws.{changes-same, changes-more, changes-all, same-changes}
use Rattle.test_case.specs.Case.{changes_to}
use Rattle.text.proofs.WroteLaws.{wrote_none}
use Rattle.text.specs.Texts.{Wrote}
use Rattle.test_case.proofs.output.put_changes.Goals.{then-before-n, else-before-n}
use Rattle.test_case.proofs.output.put_changes.Goals as goal

pub returns-then-is_same : goal.returns-then-is_same
returns-then-is_same c = (subst (λ t. Wrote c.args.out.now c.args.at t c.args.out.now c.args.at) (same-changes c.args.kind c.args.before.now c.args.after.now (c.is_same.ensures c.if-is_same.true)) (wrote_none _ _), omega arith)

pub loop-n-init : goal.loop-n-init
unfolding changes_to
loop-n-init c = (wrote_none _ _, omega arith)

pub loop-n-preserved : goal.loop-n-preserved
loop-n-preserved c = elim c.if-before-n.branch [
  | then-before-n w ↦ (
    rw (w.out-is, w.to-is) (changes-more _ _ _ _ c.loop-n.invariant.0 w.if-before-n.true w.put_entry-to.ensures.0),
    rw w.to-is (omega (arith, w.put_entry-to.ensures.1, c.loop-n.invariant.1)),
  )
  | else-before-n w ↦ (
    rw (w.out-is, w.to-is) (changes-same _ _ _ _ c.loop-n.invariant.0 w.if-before-n.false),
    rw w.to-is (omega (arith, c.loop-n.invariant.1)),
  )
]

pub returns : goal.returns
returns c = (changes-all _ _ _ c.loop-n.n c.loop-n.invariant.0 (omega arith), omega arith)
