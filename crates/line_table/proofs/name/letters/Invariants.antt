-- What the loop keeps, of `line_table::name::letters`. Assumes nothing.
use Rattle.std.proofs.Common.{◌≡◌, ◌++◌, ◌≤◌, length, drop}
use Rattle.line_table.specs.Entries.{letters}
use Rattle.line_table.proofs.name.letters.Given as goal

abbrev pub invariant-loop-byte : goal.invariant-loop-byte
invariant-loop-byte l = record {
  text : l.text.items ++ letters (drop l.byte-index l.fn.entry.name) ≡ letters l.fn.entry.name;
  short : length l.text.items ≤ l.byte-index;
}
