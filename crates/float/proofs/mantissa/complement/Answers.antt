-- The answers to the goals of `float::mantissa::complement`. Assumes nothing.
use Rattle.float.proofs.MantissaLaws.{low-mag, high-mag}
use Rattle.float.proofs.mantissa.complement.Goals as goal

pub returns-then-m-h : goal.returns-then-m-h
returns-then-m-h c = low-mag c.half-h.ensures _ c.requires.2 c.if-m-h.true

pub returns : goal.returns
returns c = high-mag c.half-h.ensures _ c.requires.2 c.if-m-h.false
