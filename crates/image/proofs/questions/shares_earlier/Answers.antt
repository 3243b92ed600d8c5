-- The answers to the goals of `image::questions::shares_earlier`. Assumes nothing.
use Rattle.std.proofs.Common.{◌≡◌, refl, sym, arith}
use Rattle.image.specs.Image.{shares_earlier}
use Rattle.image.proofs.QuestionLaws.{shares-here, shares-more}
use Rattle.image.proofs.questions.shares_earlier.Goals as goal

pub loop-i-init : goal.loop-i-init
unfolding shares_earlier
loop-i-init c = refl

pub returns-then-shares : goal.returns-then-shares
returns-then-shares c = sym (shares-here _ _ c.loop-i.i c.args.k (omega arith) (rw (← c.entry_at.ensures, ← c.shares.ensures) c.if-shares.true))

pub loop-i-preserved : goal.loop-i-preserved
loop-i-preserved c = shares-more _ _ _ (rw (← c.entry_at.ensures, ← c.shares.ensures) c.if-shares.false) c.loop-i.invariant

pub returns : goal.returns
returns c = let e : c.loop-i.i ≡ c.args.k = omega arith in sym (rw e at c.loop-i.invariant)
