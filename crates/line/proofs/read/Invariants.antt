-- What the loop keeps, of `line::read`. Assumes nothing.
use Rattle.std.proofs.Common.{◌≡◌, ◌+◌, ◌*◌, ◌≤◌, drop}
use Rattle.line_operand.specs.Operands.{reads}
use Rattle.line_parse.specs.Scans.{amount}
use Rattle.line.proofs.read.Given as goal

abbrev pub invariant-loop-shape : goal.invariant-loop-shape
invariant-loop-shape l = record {
  rest : reads l.c.sum (drop l.shape-index l.shape-items) l.c.rest.now ≡ reads l.initial.c.sum l.shape-items l.initial.c.rest.now;
  small : amount l.c.sum ≤ 65535 + 6553600000 * l.shape-index;
}
