-- The answers to the goals of `bits::bytes::store_upper`. Assumes nothing.
use Rattle.bits.specs.Bytes.{store_upper}
use Rattle.bits.proofs.bytes.store_upper.Goals as goal

pub returns : goal.returns
unfolding store_upper
returns c = rw (← c.lower.ensures, ← c.lower-2.ensures) c.word_of.ensures
