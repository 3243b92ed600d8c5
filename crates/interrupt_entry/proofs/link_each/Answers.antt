-- The answers to the goals of `interrupt_entry::link_each`. Assumes nothing.
use Rattle.machine.specs.Entries.{linked, link_stored, old_words}
use Rattle.std.proofs.Common.{refl}
use Rattle.interrupt_entry.proofs.link_each.Goals as goal

pub returns-in-Ok : goal.returns-in-Ok
unfolding linked link_stored old_words
returns-in-Ok c = λ v n l. (rw (n, l, ← c.group_of-group.ensures.0, ← c.check_span-verdict.ensures, c.in-Ok.is) refl, λ s m w a. rw (n, l, ← c.group_of-group.ensures.0, ← c.check_span-verdict.ensures, c.in-Ok.is, ← c.group_of-group.ensures.0, m, w, a) c.write_span.ensures)

pub returns-in-Err : goal.returns-in-Err
unfolding linked link_stored old_words
returns-in-Err c = λ v n l. (rw (n, l, ← c.group_of-group.ensures.0, ← c.check_span-verdict.ensures, c.in-Err.is) refl, λ s m w a. rw (n, l, ← c.group_of-group.ensures.0, ← c.check_span-verdict.ensures, c.in-Err.is) refl)
