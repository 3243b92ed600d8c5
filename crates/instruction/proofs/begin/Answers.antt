-- The answers to the goals of `instruction::begin`. Assumes nothing.
use Prim.Native.Nat.{◌%◌}
use Rattle.decode.specs.Decode.{decode_of}
use Rattle.form_table.proofs.NumberLaws.{number-form, decode-small}
use Rattle.form_table.specs.FormNumbers.{number_of}
use Rattle.instruction_retired.proofs.ActLaws.{failed}
use Rattle.instruction_retired.proofs.RetiredLaws.{unsettled-lasting}
use Rattle.instruction.proofs.UserLaws.{ready-form, ready-first}
use Rattle.machine.specs.Instructions.{view, carried}
use Rattle.machine.specs.State.{joined, with_processor}
use mathlib.Core.Path.{refl, sym, ap, ◌∙◌}
use Rattle.instruction.proofs.begin.Goals as goal

pub prepare-requires : goal.prepare-requires
prepare-requires c = (c.requires.0, c.requires.2)

pub carry-requires : goal.carry-requires
carry-requires c = (c.requires.0, c.requires.1 ∙ ap number_of (sym (ready-form (joined c.args.core c.args.regs.now) (view c.args.core c.args.memory.now c.args.pages.now) _ _ _ _ (sym c.prepare.ensures ∙ c.in-Ok.is) ∙ (ap (λ m. m % 65536) c.requires.1 ∙ number-form (decode_of c.args.w) (decode-small c.args.w)))))

pub returns-in-Ok : goal.returns-in-Ok
unfolding carried
returns-in-Ok c = (λ s. rw (← (ap (λ m. m % 65536) c.requires.1 ∙ number-form (decode_of c.args.w) (decode-small c.args.w)), ← c.prepare.ensures, c.in-Ok.is) (c.carry.ensures.0 s), rw (← ready-first (joined c.args.core c.args.regs.now) (view c.args.core c.args.memory.now c.args.pages.now) _ _ _ _ (sym c.prepare.ensures ∙ c.in-Ok.is)) c.carry.ensures.1)

pub returns-in-Err : goal.returns-in-Err
unfolding carried
returns-in-Err c = (λ s. rw (c.deny.ensures, ← (ap (λ m. m % 65536) c.requires.1 ∙ number-form (decode_of c.args.w) (decode-small c.args.w)), ← c.prepare.ensures, c.in-Err.is) (failed (with_processor s (joined c.args.core c.args.regs.now)) _ c.args.memory.now _ c.args.pages.now c.args.ports.now _ _ (refl) refl), rw c.deny.ensures (unsettled-lasting _ _ _))
