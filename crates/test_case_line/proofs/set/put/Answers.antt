-- The answers to the goals of `test_case_line::set::put`. Assumes nothing.
use lib.Seq.{set_out}
use mathlib.Core.Path.{refl, sym}
use Rattle.test_case_line.proofs.set.put.Goals as goal

pub returns-then-i-words : goal.returns-then-i-words
returns-then-i-words c = refl

pub returns-else-i-words : goal.returns-else-i-words
returns-else-i-words c = sym (set_out _ _ _ c.if-i-words.false)
