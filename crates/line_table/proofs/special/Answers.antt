-- The answers to the goals of `line_table::special`. Assumes nothing.
use Rattle.line_table.proofs.EntryLaws.{under-ff}
use Rattle.line_table.specs.Entries.{entry_of, word_at}
use mathlib.Core.Path.{sym, ap, ◌∙◌}
use native.Mathlib.Omega.{arith}
use Rattle.line_table.proofs.special.Goals as goal

pub returns-then-w-eq65280 : goal.returns-then-w-eq65280
unfolding word_at
returns-then-w-eq65280 c = c.entry_at.ensures ∙ ap entry_of (sym c.if-w-eq65280.true)

pub returns-then-w-eq65535 : goal.returns-then-w-eq65535
unfolding word_at
returns-then-w-eq65535 c = c.entry_at-then-w-eq65535.ensures ∙ ap entry_of (sym c.if-w-eq65535.true)

pub returns : goal.returns
returns c = under-ff _ (omega arith) c.requires c.if-w-eq65280.false c.if-w-eq65535.false
