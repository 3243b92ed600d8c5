-- The answers to the goals of `run_batch::end_of`. Assumes nothing.
use mathlib.Core.Path.{refl}
use native.Mathlib.Omega.{arith}
use Rattle.run_batch.proofs.end_of.Goals as goal

pub returns-then-held : goal.returns-then-held
returns-then-held c = (rw c.if-held.true refl, omega arith, omega arith, λ h. absurd (omega arith))

pub returns-else-held : goal.returns-else-held
returns-else-held c = (rw c.if-held.false refl, omega arith, omega arith, λ h. c.if-held.false)
