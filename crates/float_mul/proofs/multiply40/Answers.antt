-- The answers to the goals of `float_mul::multiply40`. Assumes nothing.
use native.Mathlib.Omega.{arith}
use borrow.Author.Rules.{rules}
use mathlib.Core.Path.{refl, ap, ◌∙◌}
use mathlib.Core.Bool.{true, false}
use native.Mathlib.Nat.{zero-mul, mul-zero}
use lib.Dec.{lit≤}
use Rattle.float.specs.Float.{given}
use Rattle.float_exact.specs.Steps.{tail}
use Rattle.float_exact.proofs.StepLaws.{zero-given, tail-low, tail-high}
use Rattle.float_exact.proofs.ExactLaws.{magnitude-zero}
use Rattle.float_mul.proofs.ProductLaws.{product-over, product-under, product-zero, product-done}
use Rattle.float_mul.proofs.multiply40.Goals as goal
use Rattle.float_mul.proofs.multiply40.Goals.{then-a-eq0-via-then-a-eq0, then-a-eq0-via-else-a-eq0+then-b-eq0}

pub returns-then-n-gt383 : goal.returns-then-n-gt383
returns-then-n-gt383 c = c.largest.ensures ∙ ap (given 40) (product-over 40 _ _ _ _ c.signs_differ-neg.ensures (omega arith))

pub returns-then-n-lt128 : goal.returns-then-n-lt128
returns-then-n-lt128 c = c.zero.ensures ∙ zero-given true ∙ ap (given 40) (product-under 40 _ _ _ _ (omega arith) c.if-n-lt128.true)

pub returns-then-a-eq0 : goal.returns-then-a-eq0
returns-then-a-eq0 c =
    c.zero-then-a-eq0.ensures ∙ zero-given false ∙ ap (given 40)
    (product-zero 40 _ _ _ _ (omega arith) c.if-n-lt128.false
    (elim c.then-a-eq0.branch [ then-a-eq0-via-then-a-eq0 w ↦ rw (magnitude-zero 40 _ w.if-a-eq0.true) (zero-mul _) | then-a-eq0-via-else-a-eq0+then-b-eq0 w ↦ rw (magnitude-zero 40 _ w.if-b-eq0.true) (mul-zero _) ]))

pub returns : goal.returns
returns c =
    let q = c.product-q.result in
    c.finish.ensures ∙ ap (given 40)
    (product-done 40 _ _ _ _ (omega arith) c.if-n-lt128.false q 147 20 (tail 40 q) c.lead-x.ensures c.lead-y.ensures c.signs_differ-neg.ensures c.product-q.ensures.0
    refl (lit≤ tt) (tail-low 40 q (lit≤ tt) c.product-q.ensures.1 (search rules)) (tail-high 40 q (lit≤ tt) c.product-q.ensures.1 (search rules)))
