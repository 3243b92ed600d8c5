-- The answers to the goals of `interrupt_vector::pointers::vector_each`. Assumes nothing.
use Rattle.machine.specs.Entries.{vector_at}
use Rattle.page.specs.Spans.{wrapped, word_of}
use Rattle.std.proofs.Common.{refl}
use Rattle.interrupt_vector.proofs.pointers.vector_each.Goals as goal

pub returns : goal.returns
unfolding vector_at wrapped word_of
returns c = rw (← c.read_zero-link.ensures, ← c.read_zero-service.ensures, ← c.unwrap_or-base.ensures, ← c.read_zero-mk.ensures, ← c.wrapping_add_u16.ensures.value, ← c.read_zero-sw.ensures, ← c.wrapping_add_u16-2.ensures.value, ← c.read_zero-ic.ensures, ← c.gather.ensures, ← c.gather-pointers.ensures, ← c.unwrap_or.ensures, ← c.unwrap_or-2.ensures, ← c.unwrap_or-3.ensures, ← c.unwrap_or-4.ensures, ← c.gather-2.ensures, ← c.gather-3.ensures, ← c.gather-4.ensures) refl
