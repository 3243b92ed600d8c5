-- The answers to the goals of `word::condition::taken`. Assumes nothing.
use Rattle.std.proofs.Common.{rules}
use Rattle.word.specs.Condition.{jump_taken}
use Rattle.word.proofs.condition.taken.Goals as goal

pub returns-then-c-eq15 : goal.returns-then-c-eq15
unfolding jump_taken
returns-then-c-eq15 c = search rules

pub returns-else-c-eq15 : goal.returns-else-c-eq15
unfolding jump_taken
returns-else-c-eq15 c = search rules
