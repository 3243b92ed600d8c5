-- What the loop keeps, of `line_table::by_name`. Assumes nothing.
use Rattle.std.proofs.Common.{◌≡◌, ℕ, ◌<◌, [], get_or}
use Rattle.line_table.proofs.by_name.Given as goal

abbrev pub invariant-loop-other : goal.invariant-loop-other
invariant-loop-other l = (k : ℕ) → k < l.other-index → (get_or l.other-items k ([], 0)).0 ≡ l.name → ⊥
