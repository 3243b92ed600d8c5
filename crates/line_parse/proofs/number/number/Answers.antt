-- The answers to the goals of `line_parse::number::number`. Assumes nothing.
use Rattle.std.proofs.Common.{rules, arith, sym}
use Rattle.std.proofs.lemmas.Bool.Decides.{nat_tests}
use Rattle.line_operand.specs.Operands.{inside}
use Rattle.line_parse.proofs.ScanLaws.{ranged-by, number-read, number-unplain}
use Rattle.line_parse.proofs.number.number.Goals as goal

pub returns-then-not-plain-clause-value : goal.returns-then-not-plain-clause-value
returns-then-not-plain-clause-value c = sym (number-unplain c.args.low c.args.count c.args.text.now (search rules))

pub returns-in_err-v-clause-value : goal.returns-in_err-v-clause-value
unfolding ranged-by
returns-in_err-v-clause-value c = rw (number-read c.args.low c.args.count c.args.text.now c.requires (search rules)) (search rules)

pub returns-then-v-low-clause-value : goal.returns-then-v-low-clause-value
unfolding ranged-by inside
returns-then-v-low-clause-value c = rw (number-read c.args.low c.args.count c.args.text.now c.requires (search rules)) (grind (arith, nat_tests))

pub returns-clause-value : goal.returns-clause-value
unfolding ranged-by inside
returns-clause-value c = rw (number-read c.args.low c.args.count c.args.text.now c.requires (search rules)) (grind (arith, nat_tests))
