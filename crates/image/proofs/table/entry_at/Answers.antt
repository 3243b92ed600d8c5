-- The answers to the goals of `image::table::entry_at`. Assumes nothing.
use Rattle.image.specs.Image.{entry_at}
use mathlib.Core.Path.{refl}
use Rattle.image.proofs.table.entry_at.Goals as goal

pub returns : goal.returns
unfolding entry_at
returns c = rw (c.word_at.ensures, c.long_at.ensures, c.long_at-2.ensures) refl
