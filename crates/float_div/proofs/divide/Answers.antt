-- The answers to the goals of `float_div::divide`. Assumes nothing.
use Prim.Native.Nat.{◌-◌}
use native.Mathlib.Omega.{arith}
use Rattle.std.proofs.lemmas.Grind.{common_steps}
use Rattle.float_exact.proofs.NarrowLaws.{narrow}
use Rattle.float_div.specs.Divide.{quotient_of}
use Rattle.float_div.proofs.QuotientLaws.{quotient-upper}
use Rattle.float_div.proofs.divide.Goals as goal

pub returns : goal.returns
returns g c =
    let a = c.args.a in
    let b = c.args.b in
    let w = g.row.W in
    narrow 40 w (40 - w) a.mantissa.bits b.mantissa.bits (λ k z y. quotient_of k z a.exponent y b.exponent) (let p = a.mantissa.width in omega arith) (omega arith) a.mantissa.held b.mantissa.held
    (λ z y. quotient-upper w (40 - w) a.mantissa.width.0 z y a.exponent b.exponent) (grind (arith, common_steps)) (grind (arith, common_steps))
    c.divide40.ensures c.upper.ensures
