-- What the loop keeps, of `image_load::write_words`. Assumes nothing.
use Rattle.std.proofs.Common.{◌≡◌, ◌+◌, ◌-◌, ◌*◌}
use Rattle.std.proofs.lemmas.List.Edits.{sets}
use Rattle.image.specs.Image.{words_from}
use Rattle.image_load.proofs.write_words.Given as goal

abbrev pub invariant-loop-i : goal.invariant-loop-i
invariant-loop-i l = sets l.initial.words l.start (words_from l.image l.at l.n) ≡ sets l.words (l.start + l.i) (words_from l.image (l.at + 2 * l.i) (l.n - l.i))
