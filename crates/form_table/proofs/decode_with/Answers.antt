-- The answers to the goals of `form_table::decode_with`. Assumes nothing.
use Rattle.choice.proofs.SelectLaws.{otherwise}
use Rattle.form_table.proofs.NumberLaws.{extended, paragraphed, decoded}
use borrow.Author.Rules.{rules}
use mathlib.Core.Path.{sym}
use Rattle.form_table.proofs.decode_with.Goals as goal

pub returns-then-number-ne0 : goal.returns-then-number-ne0
unfolding extended
returns-then-number-ne0 c = rw (decoded _ c.args.first c.requires (search rules)) (paragraphed _ _ _ c.if-number-ne0.true)

pub returns-in-83890944 : goal.returns-in-83890944
unfolding extended
returns-in-83890944 c = rw (decoded _ c.args.first c.requires (search rules), c.in-83890944.is) c.indexed.ensures

pub returns-in-83896576 : goal.returns-in-83896576
unfolding extended
returns-in-83896576 c = rw (decoded _ c.args.first c.requires (search rules), c.in-83896576.is) c.immediate.ensures

pub returns-in-83890176 : goal.returns-in-83890176
unfolding extended
returns-in-83890176 c = rw (decoded _ c.args.first c.requires (search rules), c.in-83890176.is) c.special.ensures

pub returns-in_default : goal.returns-in_default
unfolding extended
returns-in_default c = rw (decoded _ c.args.first c.requires (search rules)) (sym (otherwise _ (extended _ _) _ c.in_default.in_default-own.rest))
