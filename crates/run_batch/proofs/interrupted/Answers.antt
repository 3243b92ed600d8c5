-- The answers to the goals of `run_batch::interrupted`. Assumes nothing.
use Rattle.interrupt_entry.proofs.EntryLaws.{entered_by}
use Rattle.machine.specs.State.{joined, with_processor}
use Rattle.machine.specs.Step.{perform, begun_from}
use mathlib.Core.Path.{refl}
use Rattle.run_batch.proofs.interrupted.Goals as goal

pub returns : goal.returns
unfolding perform begun_from
returns c = λ s regs ports. rw (← c.release-old.ensures, ← c.vector-v.ensures) (entered_by (with_processor s (joined c.release-old.result regs)) c.release-old.result _ c.args.memory.now _ c.args.pages.now ports c.args.n _ _ (c.link-stores.ensures c.vector-v.result refl refl).0 ((c.link-stores.ensures c.vector-v.result refl refl).1 c.release-old.result refl refl refl) c.arrive.ensures)
