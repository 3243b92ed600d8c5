-- The answers to the goals of `float::packing::third_word`. Assumes nothing.
use mathlib.Core.Path.{refl}
use Rattle.float.specs.Words.{third_word}
use Rattle.float.proofs.packing.third_word.Goals as goal

pub returns : goal.returns
unfolding third_word
returns c = refl
