-- The answers to the goals of `interrupt_entry::machine_error`. Assumes nothing.
use Rattle.machine.specs.Entries.{machine_error}
use Rattle.std.proofs.Common.{eq-eqb, ne_eqb}
use Rattle.interrupt_entry.proofs.machine_error.Goals as goal

pub returns-then-b-eq0 : goal.returns-then-b-eq0
unfolding machine_error
returns-then-b-eq0 c = rw (eq-eqb _ _ c.if-b-eq0.true)

pub returns : goal.returns
unfolding machine_error
returns c = rw (ne_eqb _ _ c.if-b-eq0.false)
