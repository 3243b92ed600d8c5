-- What the loop keeps, of `report::put_registers`. Assumes nothing.
use Rattle.std.proofs.Common.{◌≡◌, ◌++◌, ◌+◌, ◌*◌, length}
use Rattle.report.specs.Report.{registers}
use Rattle.report.proofs.put_registers.Given as goal

abbrev pub invariant-loop-word : goal.invariant-loop-word
invariant-loop-word g l = record {
  text : l.out.items ≡ l.initial.out.items ++ registers l.regs l.first l.word-index;
  long : length l.out.items ≡ length l.initial.out.items + 5 * l.word-index;
}
