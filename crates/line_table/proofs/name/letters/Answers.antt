-- The answers to the goals of `line_table::name::letters`. Assumes nothing.
use Rattle.std.proofs.Common.{arith, refl, rules}
use Rattle.line_table.proofs.NameLaws.{letter-put, letter-left, letters-end}
use Rattle.line_table.proofs.name.letters.Goals.{then-byte-ne32, else-byte-ne32}
use Rattle.line_table.proofs.name.letters.Goals as goal

pub loop-byte-preserved : goal.loop-byte-preserved
loop-byte-preserved c = elim c.if-byte-ne32.branch [
  | then-byte-ne32 w ↦ record {
    text = letter-put c.args.entry.name c.loop-byte.byte-index _ _ (search rules) c.loop-byte.invariant.text _ w.if-byte-ne32.true (rw w.text-is w.push.ensures.items);
    short = rw w.text-is (omega (arith, w.push.ensures.len, c.loop-byte.invariant.short));
  }
  | else-byte-ne32 w ↦ record {
    text = letter-left c.args.entry.name c.loop-byte.byte-index _ _ (search rules) c.loop-byte.invariant.text _ w.if-byte-ne32.false (rw w.text-is refl);
    short = rw w.text-is (omega (arith, c.loop-byte.invariant.short));
  }
]

pub returns-clause-text : goal.returns-clause-text
returns-clause-text c = letters-end c.args.entry.name c.loop-byte.byte-index _ _ (search rules) c.loop-byte.invariant.text
