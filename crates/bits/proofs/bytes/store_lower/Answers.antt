-- The answers to the goals of `bits::bytes::store_lower`. Assumes nothing.
use Rattle.bits.specs.Bytes.{store_lower}
use Rattle.bits.proofs.bytes.store_lower.Goals as goal

pub returns : goal.returns
unfolding store_lower
returns c = rw (← c.upper.ensures, ← c.lower.ensures) c.word_of.ensures
