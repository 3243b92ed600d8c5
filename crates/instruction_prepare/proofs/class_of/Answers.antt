-- The answers to the goals of `instruction_prepare::class_of`. Assumes nothing.
use Rattle.decode.specs.Forms.{privileged_operations}
use Rattle.isa.specs.Mil1750.{class_of}
use borrow.Author.Tests.{ne_eqb}
use native.Mathlib.Omega.{arith}
use Rattle.instruction_prepare.proofs.class_of.Goals as goal

pub returns-then-operation-gt35 : goal.returns-then-operation-gt35
unfolding class_of privileged_operations
returns-then-operation-gt35 c = rw (ne_eqb c.args.operation 30 (omega (arith, c.if-operation-gt35.true)), ne_eqb c.args.operation 1 (omega (arith, c.if-operation-gt35.true)), ne_eqb c.args.operation 35 (omega (arith, c.if-operation-gt35.true)))

pub returns-in-30 : goal.returns-in-30
unfolding class_of privileged_operations
returns-in-30 c = rw c.in-30.is

pub returns-in-1 : goal.returns-in-1
unfolding class_of privileged_operations
returns-in-1 c = rw c.in-1.is

pub returns-in-35 : goal.returns-in-35
unfolding class_of privileged_operations
returns-in-35 c = rw c.in-35.is

pub returns-in_default : goal.returns-in_default
unfolding class_of privileged_operations
returns-in_default c = rw (ne_eqb _ _ c.in_default.in_default-own.rest.0.0.1, ne_eqb _ _ c.in_default.in_default-own.rest.0.1, ne_eqb _ _ c.in_default.in_default-own.rest.1)
