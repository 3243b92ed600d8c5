-- What the loop keeps, of `test_case::output::is_same`. Assumes nothing.
use Rattle.std.proofs.Common.{◌≡◌, ◌≤◌}
use Rattle.test_case.specs.Case.{Same}
use Rattle.test_case.proofs.output.is_same.Given as goal

abbrev pub invariant-loop-n : goal.invariant-loop-n
invariant-loop-n l = (l.changed ≤ l.n) × (l.changed ≡ 0 → Same l.before l.after l.n)
