-- The answers to the goals of `float::packing::second_word`. Assumes nothing.
use native.Mathlib.Omega.{arith}
use Rattle.float.specs.Words.{second_word}
use Rattle.float.proofs.packing.second_word.Goals as goal

pub returns : goal.returns
unfolding second_word
returns c = omega arith
