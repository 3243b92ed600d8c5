-- The answers to the goals of `float_div::divide40`. Assumes nothing.
use borrow.Author.Rules.{rules}
use mathlib.Core.Path.{◌≡◌, ap, ap₂, ◌∙◌}
use mathlib.Core.Bool.{true, false}
use Prim.Native.Nat.{ℕ, ◌+◌, ◌^◌, ◌<◌}
use native.Mathlib.Omega.{arith}
use lib.Dec.{lit≤, leb}
use lib.IntN.{nat_abs}
use Rattle.twos_complement.specs.Whole.{signed}
use Rattle.float.specs.Float.{given}
use Rattle.float_exact.specs.Steps.{one_if, tail}
use Rattle.float_exact.proofs.StepLaws.{zero-given, magnitude-fits, tail-low, tail-high}
use Rattle.float_exact.proofs.ExactLaws.{one_if-le, magnitude-zero}
use Rattle.float_div.proofs.QuotientLaws.{quotient-by-zero, quotient-over, quotient-under, quotient-right, quotient-of-zero, quotient-done}
use Rattle.float_div.proofs.divide40.Goals as goal

-- the divisor is not 0
some : (b : ℕ) → 0 < b → b < 2 ^ 40 → 0 < nat_abs (signed 40 b)
some b p l = (magnitude-fits 40 b (lit≤ tt) p l).0

-- n, with one more where the quotient's magnitude is 1.0 or more
right : (e a b m n o : ℕ) → m ≡ nat_abs (signed 40 b) → n ≡ nat_abs (signed 40 a) → o ≡ one_if (leb m n) → e + o ≡ e + one_if (leb (nat_abs (signed 40 b)) (nat_abs (signed 40 a)))
right e a b m n o p q r = ap (λ (x : ℕ). e + x) (r ∙ ap₂ (λ (y x : ℕ). one_if (leb y x)) p q)

pub returns-then-b-eq0 : goal.returns-then-b-eq0
returns-then-b-eq0 c = c.largest.ensures ∙ ap (given 40) (quotient-by-zero 40 _ _ _ _ c.signs_differ-neg.ensures (magnitude-zero 40 _ c.if-b-eq0.true))

pub returns-then-eb-ea : goal.returns-then-eb-ea
returns-then-eb-ea c = c.largest-then-eb-ea.ensures ∙ ap (given 40) (quotient-over 40 _ _ _ _ c.signs_differ-neg.ensures (some c.args.b.mantissa.bits (omega arith) c.args.b.mantissa.held) c.if-eb-ea.true)

pub returns-then-ea-eb : goal.returns-then-ea-eb
returns-then-ea-eb c = c.zero.ensures ∙ zero-given true ∙ ap (given 40) (quotient-under 40 _ _ _ _ c.signs_differ-neg.ensures (some c.args.b.mantissa.bits (omega arith) c.args.b.mantissa.held) c.if-eb-ea.false c.if-ea-eb.true)

pub overflow_add-n : goal.overflow_add-n
overflow_add-n c = omega (arith, c.one_if.ensures, one_if-le (leb c.magnitude.result c.magnitude-2.result))

pub returns-then-eb-n : goal.returns-then-eb-n
returns-then-eb-n c =
    c.largest-then-eb-n.ensures ∙ ap (given 40) (quotient-right 40 _ _ _ _ c.signs_differ-neg.ensures (some c.args.b.mantissa.bits (omega arith) c.args.b.mantissa.held) c.if-eb-ea.false c.if-ea-eb.false (rw (right c.args.a.exponent c.args.a.mantissa.bits c.args.b.mantissa.bits _ _ _ c.magnitude.ensures c.magnitude-2.ensures c.one_if.ensures) at c.if-eb-n.true))

pub returns-then-a-eq0 : goal.returns-then-a-eq0
returns-then-a-eq0 c =
    c.zero-then-a-eq0.ensures ∙ zero-given false ∙ ap (given 40) (quotient-of-zero 40 _ _ _ _ c.signs_differ-neg.ensures (some c.args.b.mantissa.bits (omega arith) c.args.b.mantissa.held) c.if-eb-ea.false c.if-ea-eb.false (rw (right c.args.a.exponent c.args.a.mantissa.bits c.args.b.mantissa.bits _ _ _ c.magnitude.ensures c.magnitude-2.ensures c.one_if.ensures) at c.if-eb-n.false) (magnitude-zero 40 _ c.if-a-eq0.true))

pub returns : goal.returns
returns c =
    let q = c.quotient-q.result in
    c.finish.ensures ∙ ap (given 40)
    (quotient-done 40 _ _ _ _ c.signs_differ-neg.ensures (some c.args.b.mantissa.bits (omega arith) c.args.b.mantissa.held) c.if-eb-ea.false c.if-ea-eb.false (rw (right c.args.a.exponent c.args.a.mantissa.bits c.args.b.mantissa.bits _ _ _ c.magnitude.ensures c.magnitude-2.ensures c.one_if.ensures) at c.if-eb-n.false) q (tail 40 q) c.lead-x.ensures c.lead-y.ensures c.quotient-q.ensures.0
    (lit≤ tt) (tail-low 40 q (lit≤ tt) c.quotient-q.ensures.1 (search rules)) (tail-high 40 q (lit≤ tt) c.quotient-q.ensures.1 (search rules)))
