-- The answers to the goals of `execute_float_words::operands::change24`. Assumes nothing.
use Rattle.execute_float_words.proofs.operands.change24.Goals as goal

pub returns-in-Absolute : goal.returns-in-Absolute
returns-in-Absolute c = rw c.in-Absolute.is c.absolute.ensures

pub returns-in-Negative : goal.returns-in-Negative
returns-in-Negative c = rw c.in-Negative.is c.negate.ensures
