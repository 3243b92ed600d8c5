-- The answers to the goals of `fast_accumulate::operand::read_operand`. Assumes nothing.
use Rattle.fast_accumulate.proofs.PathLaws.{path-counted}
use Rattle.isa.specs.Accesses.{at_operand}
use Rattle.fast_accumulate.proofs.operand.read_operand.Goals as goal

pub gather-requires : goal.gather-requires
gather-requires c = (c.requires.0, c.read_count.ensures.1)

pub returns : goal.returns
unfolding at_operand
returns c = λ k e. rw (path-counted c.args.n c.requires.2 _ c.read_count.ensures.0 k e) c.gather.ensures
