-- The answers to the goals of `line_table::by_word`. Assumes nothing.
use Rattle.line_table.proofs.EntryLaws.{under-40, under-4a, by_itself}
use mathlib.Core.Path.{◌∙◌}
use native.Mathlib.Omega.{arith}
use Rattle.line_table.proofs.by_word.Goals as goal

pub entry_at-requires : goal.entry_at-requires
entry_at-requires c = omega arith

pub returns-then-op-eq16 : goal.returns-then-op-eq16
returns-then-op-eq16 c = c.entry_at.ensures ∙ under-40 c.args.w (omega arith) (omega arith)

pub entry_at-requires-then-op-eq74 : goal.entry_at-requires-then-op-eq74
entry_at-requires-then-op-eq74 c = omega arith

pub returns-then-op-eq74 : goal.returns-then-op-eq74
returns-then-op-eq74 c = c.entry_at-then-op-eq74.ensures ∙ under-4a c.args.w (omega arith) c.if-op-eq74.true

pub special-requires : goal.special-requires
special-requires c = omega arith

pub returns-then-op-eq255 : goal.returns-then-op-eq255
returns-then-op-eq255 c = c.special.ensures

pub entry_at-requires-2 : goal.entry_at-requires-2
entry_at-requires-2 c = omega arith

pub returns : goal.returns
returns c = c.entry_at-2.ensures ∙ by_itself c.args.w (omega arith) (λ q. omega arith) c.if-op-eq74.false c.if-op-eq255.false
