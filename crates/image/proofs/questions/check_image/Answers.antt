-- The answers to the goals of `image::questions::check_image`. Assumes nothing.
use Rattle.std.proofs.Common.{sym, ◌∙◌, arith}
use borrow.Author.Tests.{eqb-true, eqb-false}
use Rattle.image.proofs.QuestionLaws.{no_bytes, no-count, by-table}
use Rattle.image.proofs.questions.check_image.Goals as goal

pub returns-then-is_empty : goal.returns-then-is_empty
returns-then-is_empty c = no_bytes _ _ (eqb-true _ _ (sym (c.if-is_empty.ensures {u = tt})))

pub returns-then-image-lt2 : goal.returns-then-image-lt2
returns-then-image-lt2 c = no-count _ _ (eqb-false _ _ (sym (c.if-is_empty.ensures {u = tt}))) (omega arith)

pub returns : goal.returns
returns c = c.check_table.ensures ∙ by-table _ _ (eqb-false _ _ (sym (c.if-is_empty.ensures {u = tt}))) (omega arith)
