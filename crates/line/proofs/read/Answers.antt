-- The answers to the goals of `line::read`. Assumes nothing.
use Rattle.std.proofs.Common.{rules, arith, sym, ap, ◌∙◌}
use Rattle.line_operand.specs.declared.Place.TheVariants.{Second}
use Rattle.line_operand.specs.Shapes.{covers}
use Rattle.line.specs.Lines.{words_from}
use Rattle.line.proofs.CodeLaws.{name-lacks, read_none, reads_on, reads-end, finished-empty, finished-more, refused-more, read_steps}
use Rattle.line.proofs.read.Goals as goal

pub by_name-requires : goal.by_name-requires
by_name-requires c = rw c.cut.ensures.head (name-lacks c.args.line.now)

pub returns-in_err-entry : goal.returns-in_err-entry
returns-in_err-entry c = rw (read_none c.args.line.now (rw (← c.cut.ensures.head) (search rules))) (search rules)

pub loop-shape-preserved : goal.loop-shape-preserved
loop-shape-preserved c = record {
  rest =
      reads_on c.shapes-shapes.result c.loop-shape.shape-index _ _ _ _ _ _ (search rules) c.loop-shape.invariant.rest c.step-c.ensures.sum c.step-c.ensures.rest;
  small = omega (arith, c.step-c.ensures.small, c.loop-shape.invariant.small);
}

pub returns-then-not-is_empty : goal.returns-then-not-is_empty
returns-then-not-is_empty c =
    let ss = c.shapes-shapes.result in
    let f = reads-end ss c.loop-shape.shape-index _ _ c.loop-shape.c.rest.now (search rules) c.loop-shape.invariant.rest in
    let m = finished-more c.loop-shape.c.sum c.loop-shape.c.rest.now (search rules) in
    sym (refused-more (covers ss Second))
    ∙ ap (words_from (covers ss Second)) (sym m)
    ∙ read_steps c.args.line.now c.in_ok-entry.entry ss _ _ _ (rw (← c.cut.ensures.head) (search rules)) c.shapes-shapes.ensures c.cut.ensures.rest f

pub returns : goal.returns
returns c =
    let ss = c.shapes-shapes.result in
    let f = reads-end ss c.loop-shape.shape-index _ _ c.loop-shape.c.rest.now (search rules) c.loop-shape.invariant.rest in
    let m = finished-empty c.loop-shape.c.sum c.loop-shape.c.rest.now (search rules) in
    c.words_from.ensures
    ∙ rw c.two_words.ensures (ap (words_from (covers ss Second)) (sym m))
    ∙ read_steps c.args.line.now c.in_ok-entry.entry ss _ _ _ (rw (← c.cut.ensures.head) (search rules)) c.shapes-shapes.ensures c.cut.ensures.rest f
