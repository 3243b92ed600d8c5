-- The answers to the goals of `float::packing::first_word`. Assumes nothing.
use mathlib.Core.Path.{refl}
use Rattle.float.specs.Words.{first_word}
use Rattle.float.proofs.packing.first_word.Goals as goal

pub returns : goal.returns
unfolding first_word
returns c = refl
