-- The answers to the goals of `instruction_prepare::derive`. Assumes nothing.
use Rattle.isa.specs.Mil1750.{mil1750}
use Rattle.machine.specs.Instructions.{derived}
use borrow.Author.Tests.{eq-eqb, ne_eqb}
use Rattle.instruction_prepare.proofs.derive.Goals as goal

pub read_word-got-requires : goal.read_word-got-requires
read_word-got-requires c = c.requires.group-small

pub returns-then-form-eq-I : goal.returns-then-form-eq-I
unfolding derived mil1750
returns-then-form-eq-I c = rw (eq-eqb _ _ c.if-form-eq-I.true, ← c.derive-a.ensures, ← c.requires.key-is, ← c.requires.group-is, ← c.read_word-got.ensures) c.redirect.ensures

pub returns : goal.returns
unfolding derived mil1750
returns c = rw (ne_eqb _ _ c.if-form-eq-I.false, ← c.derive-a.ensures) c.ready.ensures
