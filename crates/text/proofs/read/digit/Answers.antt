-- The answers to the goals of `text::read::digit`. Assumes nothing.
use Rattle.std.proofs.Common.{arith}
use Rattle.text.specs.Texts.{digit_of}
use Rattle.text.proofs.read.digit.Goals as goal

pub returns-in-48-to-57-clause-value : goal.returns-in-48-to-57-clause-value
unfolding digit_of
returns-in-48-to-57-clause-value c = grind arith

pub returns-in-65-to-70-clause-value : goal.returns-in-65-to-70-clause-value
unfolding digit_of
returns-in-65-to-70-clause-value c = grind arith

pub returns-in_default-clause-value : goal.returns-in_default-clause-value
unfolding digit_of
returns-in_default-clause-value c = grind arith

pub returns-in_default-2-clause-value : goal.returns-in_default-2-clause-value
unfolding digit_of
returns-in_default-2-clause-value c = grind arith

pub returns-in_default-3-clause-value : goal.returns-in_default-3-clause-value
unfolding digit_of
returns-in_default-3-clause-value c = grind arith
