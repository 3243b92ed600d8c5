-- The answers to the goals of `instruction::instruct`. Assumes nothing.
use Rattle.instruction_retired.proofs.ActLaws.{failed}
use Rattle.instruction_retired.proofs.RetiredLaws.{unsettled-lasting}
use Rattle.instruction.proofs.UserLaws.{prepared-at, prepared-refused, timing-at, timing-refused}
use Rattle.machine.specs.Instructions.{instructed, carried}
use Rattle.machine.specs.State.{joined, with_processor}
use Rattle.page.proofs.ReachLaws.{located-inside}
use mathlib.Core.Path.{refl, sym, ◌∙◌}
use native.Mathlib.Omega.{arith}
use Rattle.instruction.proofs.instruct.Goals as goal

pub look_up-requires : goal.look_up-requires
look_up-requires c = c.requires.1.group-small

pub offset_bounds-memory-at : goal.offset_bounds-memory-at
offset_bounds-memory-at c = omega (arith, located-inside _ _ _ _ _ _ _ _ c.look_up.ensures c.in-Ok.is)

pub bounds-memory-at : goal.bounds-memory-at
bounds-memory-at c = located-inside _ _ _ _ _ _ _ _ c.look_up.ensures c.in-Ok.is

pub overflow_add-spent : goal.overflow_add-spent
overflow_add-spent c = omega (arith, c.requires.2, c.duration_of.ensures.2)

pub decode_with-number-requires : goal.decode_with-number-requires
decode_with-number-requires c = c.requires.0

pub begin-requires : goal.begin-requires
begin-requires c = (c.requires.1, c.decode_with-number.ensures, sym c.look_up.ensures ∙ c.in-Ok.is)

pub overflow_add-spent-in-Err : goal.overflow_add-spent-in-Err
overflow_add-spent-in-Err c = omega (arith, c.requires.2, c.entry_duration.ensures.1)

pub returns-in-Ok : goal.returns-in-Ok
unfolding instructed carried
returns-in-Ok c = ((λ s. rw (prepared-at (joined c.args.core c.args.regs.now) c.args.memory.now c.args.pages.now _ _ c.requires.1.key-is c.requires.1.group-is _ c.look_up.ensures _ c.in-Ok.is) (c.begin.ensures.0 s), rw (timing-at (joined c.args.core c.args.regs.now) c.args.memory.now c.args.pages.now _ _ c.requires.1.key-is c.requires.1.group-is _ c.look_up.ensures _ c.in-Ok.is, c.duration_of.ensures.1) c.begin.ensures.1), rw (timing-at (joined c.args.core c.args.regs.now) c.args.memory.now c.args.pages.now _ _ c.requires.1.key-is c.requires.1.group-is _ c.look_up.ensures _ c.in-Ok.is, ← c.duration_of.ensures.0) refl)

pub returns-in-Err : goal.returns-in-Err
unfolding instructed carried
returns-in-Err c = ((λ s. rw (c.deny.ensures, prepared-refused (joined c.args.core c.args.regs.now) c.args.memory.now c.args.pages.now _ _ c.requires.1.key-is c.requires.1.group-is _ c.look_up.ensures _ c.in-Err.is, ← c.advance.ensures) (failed (with_processor s (joined c.args.core c.args.regs.now)) _ c.args.memory.now _ c.args.pages.now c.args.ports.now _ _ (refl) refl), rw c.deny.ensures (unsettled-lasting _ _ _)), rw (timing-refused (joined c.args.core c.args.regs.now) c.args.memory.now c.args.pages.now _ _ c.requires.1.key-is c.requires.1.group-is _ c.look_up.ensures _ c.in-Err.is, ← c.entry_duration.ensures.0) refl)
