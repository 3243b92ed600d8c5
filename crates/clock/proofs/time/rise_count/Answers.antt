-- The answers to the goals of `clock::time::rise_count`. Assumes nothing.
use Rattle.std.proofs.Common.{arith}
use Rattle.machine.specs.Step.{rises}
use Rattle.clock.proofs.TimerLaws.{units-apart, units-small}
use Rattle.clock.proofs.time.rise_count.Goals as goal

pub returns : goal.returns
unfolding rises
returns c = rw c.from.ensures (units-apart _ c.args.remainder _ (omega arith), units-small _ c.args.remainder _ c.requires.0 c.requires.1 (omega arith) (omega arith))
