-- The answers to the goals of `clock::time::remain`. Assumes nothing.
use Rattle.machine.specs.Step.{remaining}
use Rattle.clock.proofs.TimerLaws.{rest-apart}
use Rattle.clock.proofs.time.remain.Goals as goal

pub returns-then-on : goal.returns-then-on
unfolding remaining
returns-then-on c = rw (c.if-on.true, c.from.ensures) (rest-apart _ _ _)
