-- The answers to the goals of `instruction_privileged::call`. Assumes nothing.
use Rattle.interrupt_entry.proofs.EntryLaws.{entered_by}
use Rattle.machine.specs.Entries.{arrived}
use Rattle.machine.specs.State.{joined, with_processor, with_ic, with_sw, with_mk, with_pi, with_faults, with_enabled, advanced}
use Rattle.machine.specs.Step.{perform}
use mathlib.Core.Path.{refl}
use Rattle.instruction_privileged.proofs.call.Goals as goal

pub returns : goal.returns
unfolding perform arrived with_ic with_sw with_mk with_pi with_faults with_enabled advanced
returns c = λ s regs ports. rw (← c.call_vector-v.ensures, ← c.advance-ic.ensures) (entered_by (with_processor s (joined c.args.core regs)) (with_ic c.args.core c.advance-ic.result) _ c.args.memory.now _ c.args.pages.now ports 5 _ _ (c.link-stores.ensures c.call_vector-v.result refl refl).0 ((c.link-stores.ensures c.call_vector-v.result refl refl).1 (with_ic c.args.core c.advance-ic.result) refl refl refl) c.arrive.ensures)
