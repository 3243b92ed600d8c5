-- The answers to the goals of `machine::fault::after_fault`. Assumes nothing.
use Rattle.machine.specs.Faults.{recorded}
use borrow.Author.Tests.{eq-eqb, ne_eqb}
use mathlib.Core.Path.{refl}
use Rattle.machine.proofs.fault.after_fault.Goals as goal

pub returns-then-b-eq0 : goal.returns-then-b-eq0
unfolding recorded
returns-then-b-eq0 c = rw (eq-eqb _ _ c.if-b-eq0.true) refl

pub returns : goal.returns
unfolding recorded
returns c = rw (ne_eqb _ _ c.if-b-eq0.false) refl
