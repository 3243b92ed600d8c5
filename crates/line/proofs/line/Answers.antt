-- The answers to the goals of `line::line`. Assumes nothing.
use Rattle.std.proofs.Common.{Some, refl, rules, arith, sym, ap, ◌∙◌, ◌+◌, ◌*◌, ◌++◌, ◌≡◌}
use Rattle.text.specs.Texts.{blank}
use Rattle.line_operand.specs.Operands.{tail}
use Rattle.line_table.specs.Entries.{letters, shapes_in}
use Rattle.line.specs.Lines.{text_of}
use Rattle.line.proofs.CodeLaws.{none-printed, some-printed, tail_on, tail-end}
use Rattle.line.proofs.line.Goals as goal

pub returns-in_err-entry : goal.returns-in_err-entry
unfolding text_of
returns-in_err-entry c = rw (none-printed c.args.first c.args.second (search rules)) (search rules)

pub loop-shape-preserved : goal.loop-shape-preserved
loop-shape-preserved c = record {
  text =
      tail_on c.shapes-shapes.result c.loop-shape.shape-index _ _ _ _ _ _ _ (search rules) c.loop-shape.invariant.text c.put_operand-sep.ensures.text c.put_operand-sep.ensures.next;
  short = omega (arith, c.put_operand-sep.ensures.short, c.loop-shape.invariant.short);
}

pub returns : goal.returns
returns c =
    let e : c.loop-shape.text.items ≡ letters c.in_ok-entry.entry.name ++ tail blank (shapes_in c.in_ok-entry.entry) (c.args.first + 65536 * c.args.second) =
    tail-end c.shapes-shapes.result c.loop-shape.shape-index _ _ _ _ (search rules) c.loop-shape.invariant.text
    ∙ rw (c.letters-text.ensures.text, c.shapes-shapes.ensures) refl in
    ap (λ t. Some t) e ∙ sym (some-printed c.args.first c.args.second c.in_ok-entry.entry (sym c.in_ok-entry.ensures))
