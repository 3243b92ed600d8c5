-- The answers to the goals of `instruction_prepare::second_word`. Assumes nothing.
use Prim.Native.Nat.{◌+◌}
use Rattle.page.proofs.NearLaws.{lookup-next}
use Rattle.page.proofs.ReachLaws.{located-inside}
use Rattle.page.specs.Spans.{got_at}
use borrow.Author.Tests.{eq-eqb, ne_eqb, lt-ltb, le-ltb}
use lib.ListN.{length}
use mathlib.Core.Path.{refl, sym}
use native.Mathlib.Omega.{arith}
use Rattle.instruction_prepare.proofs.second_word.Goals as goal

pub returns-then-ic-eq4095 : goal.returns-then-ic-eq4095
unfolding got_at
returns-then-ic-eq4095 c = rw (eq-eqb _ _ c.if-form-eq2.true, ← c.advance.ensures) c.read_word.ensures

pub overflow_add-next : goal.overflow_add-next
overflow_add-next c = omega (arith, located-inside _ _ _ _ _ _ _ _ (sym c.requires.1) refl)

pub returns-then-next-memory : goal.returns-then-next-memory
unfolding got_at
returns-then-next-memory c = rw (eq-eqb _ _ c.if-form-eq2.true, lookup-next _ _ _ _ _ c.args.ic (omega arith) _ c.requires.1, lt-ltb (c.args.at + 1) (length c.args.memory.now) (omega arith)) refl

pub returns-then-form-eq2 : goal.returns-then-form-eq2
unfolding got_at
returns-then-form-eq2 c = rw (eq-eqb _ _ c.if-form-eq2.true, lookup-next _ _ _ _ _ c.args.ic (omega arith) _ c.requires.1, le-ltb (c.args.at + 1) (length c.args.memory.now) (omega arith), ← c.refuse.ensures) refl

pub returns : goal.returns
unfolding got_at
returns c = rw (ne_eqb _ _ c.if-form-eq2.false)
