-- The answers to the goals of `line_table::by_name`. Assumes nothing.
use Rattle.std.proofs.Common.{get_or, arith, rules, sym, subst, ◌∙◌}
use Rattle.line_table.specs.Entries.{filled, Listed}
use Rattle.line_table.proofs.EntryLaws.{too_long, named_here}
use Rattle.line_table.proofs.LetterLaws.{not_named}
use Rattle.line_table.proofs.by_name.Goals as goal

pub returns-then-text-gt4 : goal.returns-then-text-gt4
returns-then-text-gt4 c = too_long c.args.text.now (omega arith)

pub returns-then-eq : goal.returns-then-eq
returns-then-eq c =
    let r = c.beginning-other-items.ensures.right c.loop-other.other-index (search rules) in
    c.entry_at.ensures ∙ named_here c.args.text.now c.requires (omega arith) _ _ r.1 (search rules)

pub returns : goal.returns
unfolding filled
returns c =
    let ns = c.beginning-other-items.result.now in
    let a = subst (λ name. Listed (get_or name 0 0) ns) c.filled-name.ensures c.beginning-other-items.ensures in
    not_named c.args.text.now ns a (λ i h e. c.loop-other.invariant i (omega arith) (e ∙ sym c.filled-name.ensures))
