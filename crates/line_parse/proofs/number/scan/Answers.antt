-- The answers to the goals of `line_parse::number::scan`. Assumes nothing.
use Rattle.std.proofs.Common.{arith, rules, sym, ◌∙◌}
use Rattle.line_parse.proofs.ScanLaws.{scanned-start, scanned-digit, scanned-other, scanned-end}
use Rattle.line_parse.proofs.number.scan.Goals as goal

pub loop-b-init : goal.loop-b-init
loop-b-init c = record { rest = scanned-start _; small = omega arith }

pub returns-then-not-is_ascii_digit : goal.returns-then-not-is_ascii_digit
returns-then-not-is_ascii_digit c =
    sym (scanned-other c.loop-b.v c.loop-b.b-index c.args.text.now c.loop-b-test.true (sym c.is_ascii_digit.ensures.value ∙ c.if-not-is_ascii_digit.true)) ∙ c.loop-b.invariant.rest

pub loop-b-preserved : goal.loop-b-preserved
loop-b-preserved c = record {
  rest =
      rw c.cap-v.ensures.value (scanned-digit c.loop-b.v c.loop-b.b-index c.args.text.now c.loop-b-test.true (sym c.is_ascii_digit.ensures.value ∙ c.if-not-is_ascii_digit.false))
      ∙ c.loop-b.invariant.rest;
  small = search rules;
}

pub returns : goal.returns
returns c = sym (scanned-end c.loop-b.v c.loop-b.b-index c.args.text.now c.loop-b.invariant.small c.loop-b-test.false) ∙ c.loop-b.invariant.rest
