-- What the loop keeps, of `test_case::output::put_changes`. Assumes nothing.
use Rattle.std.proofs.Common.{◌+◌, ◌*◌, ◌≤◌}
use Rattle.test_case.specs.Case.{changes_to}
use Rattle.text.specs.Texts.{Wrote}
use Rattle.test_case.proofs.output.put_changes.Given as goal

abbrev pub invariant-loop-n : goal.invariant-loop-n
invariant-loop-n l = (Wrote l.initial.out l.at (changes_to l.kind l.before l.after l.n) l.out l.to) × (l.to ≤ l.at + 12 * l.n)
