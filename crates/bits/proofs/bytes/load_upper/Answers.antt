-- The answers to the goals of `bits::bytes::load_upper`. Assumes nothing.
use Rattle.bits.specs.Bytes.{load_upper}
use Rattle.bits.proofs.bytes.load_upper.Goals as goal

pub returns : goal.returns
unfolding load_upper
returns c = rw (← c.upper.ensures, ← c.upper-2.ensures) c.word_of.ensures
