-- The answers to the goals of `block_words::stores::store_moved`. Assumes nothing.
use Rattle.block_registers.proofs.BlockLaws.{moved-written}
use mathlib.Core.Path.{◌∙◌}
use Rattle.block_words.proofs.stores.store_moved.Goals as goal

pub returns : goal.returns
returns c = λ v e. (rw (c.moved_span.ensures.0, c.field_a.ensures.0) at c.write_span.ensures) ∙ moved-written _ _ _ _ _ v _ _ _ _ e
