-- The answers to the goals of `block_words::block`. Assumes nothing.
use Rattle.isa.specs.Mil1750.{context_of}
use Rattle.machine.specs.State.{joined}
use Rattle.machine.specs.Step.{stored}
use Rattle.page.proofs.SpanLaws.{words-read}
use mathlib.Core.Path.{refl}
use Rattle.block_words.proofs.block.Goals as goal

pub returns : goal.returns
unfolding stored context_of
returns c = let w = words-read _ _ _ _ _ _ _ _ refl c.read_span.ensures in record { processor-is = rw (← c.key_of-key.ensures.0, ← c.group_of-group.ensures.0, ← c.requires.1, ← w) c.rearrange.ensures; memory-is = rw (← c.key_of-key.ensures.0, ← c.group_of-group.ensures.0, ← c.requires.1, ← w) (c.store_words.ensures (context_of (joined c.args.core c.args.regs.now)) refl) }
