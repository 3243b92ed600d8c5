-- The answers to the goals of `word::condition::shows_pattern`. Assumes nothing.
use Rattle.std.proofs.Common.{refl}
use Rattle.word.specs.Condition.{shows}
use Rattle.word.proofs.condition.shows_pattern.Goals as goal

pub returns : goal.returns
unfolding shows
returns c = refl
