-- The answers to the goals of `float_mul::multiply`. Assumes nothing.
use Prim.Native.Nat.{◌-◌}
use native.Mathlib.Omega.{arith}
use Rattle.float_exact.proofs.NarrowLaws.{narrow}
use Rattle.float_mul.specs.Multiply.{product_of}
use Rattle.float_mul.proofs.ProductLaws.{product-upper}
use Rattle.float_mul.proofs.multiply.Goals as goal

pub returns : goal.returns
returns g c =
    let a = c.args.a in
    let b = c.args.b in
    let w = g.row.W in
    narrow 40 w (40 - w) a.mantissa.bits b.mantissa.bits (λ k z y. product_of k z a.exponent y b.exponent) (let p = a.mantissa.width in omega arith) (omega arith) a.mantissa.held b.mantissa.held
    (λ z y. product-upper w (40 - w) a.mantissa.width.0 z y a.exponent b.exponent) c.wider.ensures c.wider-2.ensures
    c.multiply40.ensures c.upper.ensures
