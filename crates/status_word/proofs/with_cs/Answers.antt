-- The answers to the goals of `status_word::with_cs`. Assumes nothing.
use Rattle.machine.specs.State.{with_cs}
use Rattle.std.proofs.Common.{refl}
use Rattle.status_word.proofs.with_cs.Goals as goal

pub returns : goal.returns
unfolding with_cs
returns c = refl
