-- The answers to the goals of `line_table::beginning`. Assumes nothing.
use Rattle.std.proofs.Common.{rules, arith, ◌-◌}
use Rattle.line_table.proofs.LetterLaws.{part-in, part-listed, unlettered}
use Rattle.line_table.proofs.beginning.Goals as goal

pub returns-then-letter-lt65 : goal.returns-then-letter-lt65
returns-then-letter-lt65 c = unlettered c.args.letter (λ a b. omega arith)

pub returns-then-letter-gt90 : goal.returns-then-letter-gt90
returns-then-letter-gt90 c = unlettered c.args.letter (λ a b. omega arith)

pub slice_bounds-result-count : goal.slice_bounds-result-count
slice_bounds-result-count c = (part-in (c.args.letter - 65) (omega arith)).0

pub slice_bounds-result-start : goal.slice_bounds-result-start
slice_bounds-result-start c = let h = part-in (c.args.letter - 65) (omega arith) in search rules

pub slice_bounds-result-end-2 : goal.slice_bounds-result-end-2
slice_bounds-result-end-2 c = let h = part-in (c.args.letter - 65) (omega arith) in search rules

pub returns : goal.returns
returns c = part-listed c.args.letter (omega arith) (omega arith)
