-- The answers to the goals of `interrupt_entry::arrive`. Assumes nothing.
use Rattle.machine.specs.Entries.{arrived}
use Rattle.machine.specs.State.{with_ic, with_sw, with_mk, with_pi, with_faults, with_enabled}
use Rattle.std.proofs.Common.{refl}
use Rattle.interrupt_entry.proofs.arrive.Goals as goal

pub returns : goal.returns
unfolding arrived with_ic with_sw with_mk with_pi with_faults with_enabled
returns c = rw (← c.gather-all.ensures, ← c.reset_bit-rest.ensures, ← c.machine_error.ensures, ← c.after_fault-t.ensures) refl
