-- The answers to the goals of `interrupt_entry::link`. Assumes nothing.
use Rattle.interrupt_entry.proofs.EntryLaws.{two-before, inside-first, inside-second, inside-third, linked-clear, linked-stored}
use Rattle.machine.specs.State.{group_of}
use Rattle.std.proofs.Common.{sym, refl, ap, ◌∙◌, arith, rules}
use Rattle.interrupt_entry.proofs.link.Goals as goal

pub overflow_sub-memory : goal.overflow_sub-memory
overflow_sub-memory c = omega (arith, two-before c.args.memory.now c.args.pages.now _ c.args.a _ _ c.ranges.a.fits c.wrapping_add_u16-end.ensures.value (omega arith) (sym c.look_up-last.ensures ∙ c.in-Ok.is))

pub offset_bounds-memory-p : goal.offset_bounds-memory-p
offset_bounds-memory-p c = omega (arith, inside-first c.args.memory.now c.args.pages.now _ c.args.a _ _ c.ranges.a.fits c.wrapping_add_u16-end.ensures.value (omega arith) (sym c.look_up-last.ensures ∙ c.in-Ok.is))

pub bounds-memory-p : goal.bounds-memory-p
bounds-memory-p c = search (rules, inside-first c.args.memory.now c.args.pages.now _ c.args.a _ _ c.ranges.a.fits c.wrapping_add_u16-end.ensures.value (omega arith) (sym c.look_up-last.ensures ∙ c.in-Ok.is))

pub overflow_sub-memory-in-Ok : goal.overflow_sub-memory-in-Ok
overflow_sub-memory-in-Ok c = omega (arith, two-before c.args.memory.now c.args.pages.now _ c.args.a _ _ c.ranges.a.fits c.wrapping_add_u16-end.ensures.value (omega arith) (sym c.look_up-last.ensures ∙ c.in-Ok.is))

pub offset_bounds-memory-p-in-Ok : goal.offset_bounds-memory-p-in-Ok
offset_bounds-memory-p-in-Ok c = omega (arith, inside-second c.args.memory.now c.args.pages.now _ c.args.a _ _ c.ranges.a.fits c.wrapping_add_u16-end.ensures.value (omega arith) (sym c.look_up-last.ensures ∙ c.in-Ok.is))

pub bounds-memory-p-in-Ok : goal.bounds-memory-p-in-Ok
bounds-memory-p-in-Ok c = search (rules, inside-second c.args.memory.now c.args.pages.now _ c.args.a _ _ c.ranges.a.fits c.wrapping_add_u16-end.ensures.value (omega arith) (sym c.look_up-last.ensures ∙ c.in-Ok.is))

pub offset_bounds-memory-p-in-Ok-2 : goal.offset_bounds-memory-p-in-Ok-2
offset_bounds-memory-p-in-Ok-2 c = omega (arith, inside-third c.args.memory.now c.args.pages.now _ c.args.a _ _ c.ranges.a.fits c.wrapping_add_u16-end.ensures.value (omega arith) (sym c.look_up-last.ensures ∙ c.in-Ok.is))

pub bounds-memory-p-in-Ok-2 : goal.bounds-memory-p-in-Ok-2
bounds-memory-p-in-Ok-2 c = search (rules, inside-third c.args.memory.now c.args.pages.now _ c.args.a _ _ c.ranges.a.fits c.wrapping_add_u16-end.ensures.value (omega arith) (sym c.look_up-last.ensures ∙ c.in-Ok.is))

pub returns-in-Ok : goal.returns-in-Ok
returns-in-Ok c = λ v n l. (rw (linked-clear c.args.memory.now c.args.pages.now _ c.args.a _ _ c.ranges.a.fits c.wrapping_add_u16-end.ensures.value (omega arith) (sym c.look_up-last.ensures ∙ c.in-Ok.is) v (ap group_of n ∙ sym c.group_of.ensures.0) l) refl, λ s m w a. rw (linked-clear c.args.memory.now c.args.pages.now _ c.args.a _ _ c.ranges.a.fits c.wrapping_add_u16-end.ensures.value (omega arith) (sym c.look_up-last.ensures ∙ c.in-Ok.is) v (ap group_of n ∙ sym c.group_of.ensures.0) l, linked-stored c.args.memory.now c.args.pages.now _ c.args.a _ _ c.ranges.a.fits c.wrapping_add_u16-end.ensures.value (omega arith) (sym c.look_up-last.ensures ∙ c.in-Ok.is) v (ap group_of n ∙ sym c.group_of.ensures.0) l s, m, w, a) refl)

pub returns : goal.returns
returns c = c.link_each.ensures
