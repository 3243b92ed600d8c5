-- The answers to the goals of `fast_accumulate::plain::plain`. Assumes nothing.
use Rattle.std.proofs.Common.{refl}
use Rattle.fast_accumulate.specs.Paths.{plain}
use Rattle.fast_accumulate.proofs.plain.plain.Goals as goal

pub returns : goal.returns
unfolding plain
returns g c = rw (← c.status.ensures) refl
