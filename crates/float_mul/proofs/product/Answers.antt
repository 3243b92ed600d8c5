-- The answers to the goals of `float_mul::product`. Assumes nothing.
use Prim.Native.Nat.{ℕ, ◌*◌, ◌/◌, ◌%◌, ◌^◌, ◌≤◌, ◌<◌}
use native.Mathlib.Nat.{mul-le-mul, mul-pos}
use native.Mathlib.Omega.{arith}
use lib.Dec.{lit<}
use Rattle.float_exact.specs.Steps.{one_if}
use Rattle.float_exact.proofs.ExactLaws.{one_if-le}
use Rattle.float_mul.proofs.ProductLaws.{long-product, product-long}
use Rattle.float_mul.proofs.product.Goals as goal

-- the products of the two digits
digits : (a b : ℕ) → 2 ^ 39 ≤ a → a < 2 ^ 40 → 2 ^ 39 ≤ b → b < 2 ^ 40 → (a % 2 ^ 20 * b ≤ 2 ^ 60) × (a / 2 ^ 20 * b ≤ 2 ^ 60) × (1 ≤ a / 2 ^ 20 * b)
digits a b la ha lb hb = (mul-le-mul {n₂ = 2 ^ 20} {m₂ = 2 ^ 40} (omega arith) (omega arith), mul-le-mul {n₂ = 2 ^ 20} {m₂ = 2 ^ 40} (omega arith) (omega arith), mul-pos {m = a / 2 ^ 20} (omega arith) (omega arith))

pub overflow_mul-low : goal.overflow_mul-low
overflow_mul-low c = omega (arith, digits c.args.a c.args.b c.requires.0 c.requires.1 c.requires.2 c.requires.3)

pub overflow_add-low : goal.overflow_add-low
overflow_add-low c = omega (arith, digits c.args.a c.args.b c.requires.0 c.requires.1 c.requires.2 c.requires.3)

pub overflow_sub-low : goal.overflow_sub-low
overflow_sub-low c = omega (arith, one_if-le c.args.neg)

pub overflow_mul-result : goal.overflow_mul-result
overflow_mul-result c = omega (arith, digits c.args.a c.args.b c.requires.0 c.requires.1 c.requires.2 c.requires.3)

pub overflow_add-result : goal.overflow_add-result
overflow_add-result c = omega (arith, digits c.args.a c.args.b c.requires.0 c.requires.1 c.requires.2 c.requires.3)

pub overflow_sub-result : goal.overflow_sub-result
overflow_sub-result c = omega (arith, digits c.args.a c.args.b c.requires.0 c.requires.1 c.requires.2 c.requires.3)

pub returns : goal.returns
returns c =
    let v = one_if-le c.args.neg in
    let e = long-product (2 ^ 20) c.args.a c.args.b (one_if c.args.neg) v (lit< tt) (mul-pos {m = c.args.a} (omega arith) (omega arith)) in
    rw c.one_if.ensures (e, rw e (product-long c.args.a c.args.b (one_if c.args.neg) v c.requires.0 c.requires.2))
