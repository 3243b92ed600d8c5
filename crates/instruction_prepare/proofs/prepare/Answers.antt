-- The answers to the goals of `instruction_prepare::prepare`. Assumes nothing.
use Rattle.std.proofs.Common.{Err, ap}
use Rattle.isa.specs.Mil1750.{mil1750}
use Rattle.machine.specs.Instructions.{decoded, granted}
use Rattle.machine.specs.State.{advanced}
use borrow.Author.Tests.{eq-eqb, ne_eqb}
use mathlib.Core.Path.{refl}
use Rattle.instruction_prepare.proofs.prepare.Goals as goal

pub returns-then-form-eq0 : goal.returns-then-form-eq0
unfolding decoded granted advanced mil1750
returns-then-form-eq0 c = rw (eq-eqb _ _ c.if-form-eq0.true, ← c.advance.ensures) (ap Err c.denied.ensures)

pub returns-then-permit : goal.returns-then-permit
unfolding decoded granted advanced mil1750
returns-then-permit c = rw (ne_eqb _ _ c.if-form-eq0.false, ← c.requires.0.key-is, ← c.requires.0.group-is, ← c.class_of-class.ensures, ← c.permit.ensures, c.if-permit.true, c.requires.0.key-is, c.requires.0.group-is) c.extend.ensures

pub returns : goal.returns
unfolding decoded granted advanced mil1750
returns c = rw (ne_eqb _ _ c.if-form-eq0.false, ← c.requires.0.key-is, ← c.requires.0.group-is, ← c.class_of-class.ensures, ← c.permit.ensures, c.if-permit.false, ← c.advance-2.ensures) (ap Err c.denied-2.ensures)
