-- The answers to the goals of `float::mantissa::status`. Assumes nothing.
use native.Mathlib.Omega.{arith}
use Rattle.word.proofs.StatusLaws.{zero-status, positive-status, negative-status}
use Rattle.float.proofs.mantissa.status.Goals as goal

pub returns-then-m-eq0 : goal.returns-then-m-eq0
returns-then-m-eq0 c = zero-status _ _ c.if-m-eq0.true

pub returns-then-m-half : goal.returns-then-m-half
returns-then-m-half c = positive-status _ _ c.if-m-eq0.false (let h = c.half.ensures.weight in omega arith)

pub returns-else-m-half : goal.returns-else-m-half
returns-else-m-half c = negative-status _ _ c.if-m-eq0.false (let h = c.half.ensures.weight in omega arith)
