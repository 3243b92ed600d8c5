-- The answers to the goals of `bits::bytes::load_lower`. Assumes nothing.
use Rattle.bits.specs.Bytes.{load_lower}
use Rattle.bits.proofs.bytes.load_lower.Goals as goal

pub returns : goal.returns
unfolding load_lower
returns c = rw (← c.upper.ensures, ← c.lower.ensures) c.word_of.ensures
