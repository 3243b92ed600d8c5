-- The answers to the goals of `word::condition::branches`. Assumes nothing.
use Rattle.std.proofs.Common.{ne_eqb}
use Rattle.word.specs.Condition.{branch_taken}
use Rattle.word.proofs.condition.branches.Goals as goal

pub returns-in-27 : goal.returns-in-27
unfolding branch_taken
returns-in-27 c = rw c.in-27.is

pub returns-in-28 : goal.returns-in-28
unfolding branch_taken
returns-in-28 c = rw c.in-28.is c.shows_pattern.ensures

pub returns-in-29 : goal.returns-in-29
unfolding branch_taken
returns-in-29 c = rw c.in-29.is c.shows_pattern-in-29.ensures

pub returns-in-31 : goal.returns-in-31
unfolding branch_taken
returns-in-31 c = rw c.in-31.is c.shows_either.ensures

pub returns-in-32 : goal.returns-in-32
unfolding branch_taken
returns-in-32 c = rw c.in-32.is c.shows_pattern-in-32.ensures

pub returns-in-33 : goal.returns-in-33
unfolding branch_taken
returns-in-33 c = rw c.in-33.is c.shows_either-in-33.ensures

pub returns-in-34 : goal.returns-in-34
unfolding branch_taken
returns-in-34 c = rw c.in-34.is c.shows_either-in-34.ensures

pub returns-in_default : goal.returns-in_default
unfolding branch_taken
returns-in_default c =
    simp (
      ne_eqb _ _ c.in_default.in_default-own.rest.1,
      ne_eqb _ _ c.in_default.in_default-own.rest.0.1,
      ne_eqb _ _ c.in_default.in_default-own.rest.0.0.1,
      ne_eqb _ _ c.in_default.in_default-own.rest.0.0.0.1,
      ne_eqb _ _ c.in_default.in_default-own.rest.0.0.0.0.1,
      ne_eqb _ _ c.in_default.in_default-own.rest.0.0.0.0.0.1,
      ne_eqb _ _ c.in_default.in_default-own.rest.0.0.0.0.0.0.1,
    )
