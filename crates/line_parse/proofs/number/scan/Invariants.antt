-- What the loop keeps, of `line_parse::number::scan`. Assumes nothing.
use Rattle.std.proofs.Common.{◌≡◌, ◌≤◌, drop}
use Rattle.line_parse.specs.Scans.{scanned}
use Rattle.line_parse.proofs.ScanLaws.{scanned-on}
use Rattle.line_parse.proofs.number.scan.Given as goal

abbrev pub invariant-loop-b : goal.invariant-loop-b
invariant-loop-b l = record {
  rest : scanned-on l.v (drop l.b-index l.text) ≡ scanned l.text;
  small : l.v ≤ 100000;
}
