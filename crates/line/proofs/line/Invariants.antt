-- What the loop keeps, of `line::line`. Assumes nothing.
use Rattle.std.proofs.Common.{◌≡◌, ◌++◌, ◌+◌, ◌*◌, ◌≤◌, length, drop}
use Rattle.line_operand.specs.Operands.{tail}
use Rattle.line.proofs.line.Given as goal

abbrev pub invariant-loop-shape : goal.invariant-loop-shape
invariant-loop-shape l = record {
  text : l.text.items ++ tail l.sep (drop l.shape-index l.shape-items) l.n ≡ l.initial.text.items ++ tail l.initial.sep l.shape-items l.n;
  short : length l.text.items ≤ 4 + 12 * l.shape-index;
}
