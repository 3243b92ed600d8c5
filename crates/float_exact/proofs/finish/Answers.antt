-- The answers to the goals of `float_exact::finish`. Assumes nothing.
use borrow.Author.Rules.{rules}
use mathlib.Core.Path.{ap, ◌∙◌}
use mathlib.Core.Bool.{true}
use native.Mathlib.Omega.{arith}
use lib.Dec.{lit≤}
use Rattle.float.specs.Float.{given}
use Rattle.float_exact.specs.Steps.{tail}
use Rattle.float_exact.proofs.StepLaws.{zero-given, tail-there, tail-high, ranged-under, ranged-over, ranged-neg, ranged-pos}
use Rattle.float_exact.proofs.finish.Goals as goal

pub overflow_sub-t : goal.overflow_sub-t
overflow_sub-t c = omega (arith, tail-there 40 c.args.q (lit≤ tt) c.requires.0 (search rules))

pub returns-then-p-t : goal.returns-then-p-t
unfolding tail
returns-then-p-t c = c.zero.ensures ∙ zero-given true ∙ ap (given 40) (ranged-under 40 _ _ _ _ c.if-p-t.true)

pub returns-then-e-gt255 : goal.returns-then-e-gt255
unfolding tail
returns-then-e-gt255 c = c.largest.ensures ∙ ap (given 40) (ranged-over 40 _ _ _ _ c.if-p-t.false (omega arith))

pub overflow_sub-m : goal.overflow_sub-m
unfolding tail
overflow_sub-m c = omega (arith, tail-high 40 c.args.q (lit≤ tt) c.requires.0 (search rules))

pub returns-then-neg : goal.returns-then-neg
unfolding tail
returns-then-neg c = c.plain.ensures ∙ ranged-neg 40 _ _ _ _ c.if-p-t.false (omega arith) (lit≤ tt) (tail-high 40 c.args.q (lit≤ tt) c.requires.0 (search rules)) c.if-neg.true

pub returns : goal.returns
unfolding tail
returns c = c.plain-2.ensures ∙ ranged-pos 40 _ _ _ _ c.if-p-t.false (omega arith) (lit≤ tt) (tail-high 40 c.args.q (lit≤ tt) c.requires.0 (search rules)) c.if-neg.false
