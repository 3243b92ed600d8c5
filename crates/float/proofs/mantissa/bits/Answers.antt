-- The answers to the goals of `float::mantissa::bits`. Assumes nothing.
use Rattle.float.proofs.MantissaLaws.{bits-low, bits-high}
use Rattle.float.proofs.mantissa.bits.Goals as goal

pub returns-then-x-h : goal.returns-then-x-h
returns-then-x-h g c = bits-low c.half-h.ensures _ c.requires.2 c.if-x-h.true

pub returns : goal.returns
returns g c = bits-high c.half-h.ensures _ c.requires.2 c.if-x-h.false
