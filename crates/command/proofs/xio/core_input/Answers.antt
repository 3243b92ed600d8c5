-- The answers to the goals of `command::xio::core_input`. Assumes nothing.
use Rattle.choice.proofs.SelectLaws.{otherwise}
use Rattle.command.proofs.CommandLaws.{unlisted}
use Rattle.command.specs.Transfer.{governed, Kept}
use Rattle.isa.specs.Commands.{core_command, becomes, with_ra, faults_read}
use borrow.Author.Tests.{le-ltb}
use lib.Dec.{ltb}
use mathlib.Core.List.{[], ◌∷◌}
use mathlib.Core.Path.{refl, sym, ◌∙◌}
use Rattle.command.proofs.xio.core_input.Goals as goal

pub returns-in-40960 : goal.returns-in-40960
unfolding core_command becomes with_ra faults_read governed Kept
returns-in-40960 c = (λ s g o ra. rw (c.in-40960.is, ← c.take.ensures) refl, tt)

pub returns-in-40964 : goal.returns-in-40964
unfolding core_command becomes with_ra faults_read governed Kept
returns-in-40964 c = (λ s g o ra. rw (c.in-40964.is, ← c.take-in-40964.ensures) refl, tt)

pub returns-in-40973 : goal.returns-in-40973
unfolding core_command becomes with_ra faults_read governed Kept
returns-in-40973 c = (λ s g o ra. rw (c.in-40973.is, ← c.take-in-40973.ensures) refl, tt)

pub returns-in-40974 : goal.returns-in-40974
unfolding core_command becomes with_ra faults_read governed Kept
returns-in-40974 c = (λ s g o ra. rw (c.in-40974.is, ← c.take-in-40974.ensures) refl, tt)

pub returns-in-40975 : goal.returns-in-40975
unfolding core_command becomes with_ra faults_read governed Kept
returns-in-40975 c = (λ s g o ra. rw (c.in-40975.is, ← c.reset_bit.ensures, ← c.take-in-40975.ensures, ← c.set_pending.ensures) refl, tt)

pub returns-in_default : goal.returns-in_default
unfolding core_command becomes with_ra faults_read governed Kept
returns-in_default c = (λ s g o ra. sym (unlisted (λ k. ltb k 0x8000) c.args.n.address ((0x2000, _) ∷ (0x2001, _) ∷ (0x2002, _) ∷ (0x2003, _) ∷ (0x2004, _) ∷ (0x2005, _) ∷ (0x200E, _) ∷ []) _ refl (le-ltb _ _ c.requires) ∙ otherwise c.args.n.address ((0xA000, _) ∷ (0xA004, _) ∷ (0xA00D, _) ∷ (0xA00E, _) ∷ (0xA00F, _) ∷ []) _ c.in_default.in_default-own.rest), refl)
