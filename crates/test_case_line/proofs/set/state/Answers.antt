-- The answers to the goals of `test_case_line::set::state`. Assumes nothing.
use Rattle.test_case_line.specs.Fields.{with_word}
use mathlib.Core.Path.{refl}
use Rattle.test_case_line.proofs.set.state.Goals as goal

pub returns : goal.returns
unfolding with_word
returns c = rw (c.unpack.ensures, c.put.ensures, c.place.ensures, c.pack.ensures) refl
