-- The answers to the goals of `block_registers::operation::move_word`. Assumes nothing.
use Rattle.block_registers.proofs.BlockLaws.{nothing_is}
use Rattle.isa.specs.Blocks.{moved_word}
use Rattle.isa.specs.Mil1750.{context_of}
use Rattle.std.proofs.Common.{eq-eqb}
use Rattle.block_registers.proofs.operation.move_word.Goals as goal

pub returns-then-get-eq0 : goal.returns-then-get-eq0
unfolding moved_word context_of
returns-then-get-eq0 c = λ x. rw (← c.field_a-a.ensures.0, ← c.get.ensures, eq-eqb _ _ c.if-get-eq0.true, nothing_is) (c.proceed.ensures _ _ _)
