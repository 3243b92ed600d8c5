-- The answers to the goals of `float_exact::signs_differ`. Assumes nothing.
use mathlib.Core.Path.{refl}
use Rattle.float_exact.specs.Exact.{signs_differ}
use Rattle.float_exact.proofs.StepLaws.{first_bit}
use Rattle.float_exact.proofs.signs_differ.Goals as goal

pub returns : goal.returns
unfolding signs_differ
returns c = rw (first_bit 40 c.args.a.bits, first_bit 40 c.args.b.bits) refl
