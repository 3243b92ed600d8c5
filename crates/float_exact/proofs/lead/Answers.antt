-- The answers to the goals of `float_exact::lead`. Assumes nothing.
use Prim.Native.Nat.{ℕ, ◌^◌, ◌<◌}
use mathlib.Core.Path.{◌≡◌}
use lib.IntN.{nat_abs}
use Rattle.twos_complement.specs.Whole.{signed}
use native.Mathlib.Omega.{arith}
use lib.Count.{leading_le}
use lib.Dec.{lit≤}
use Rattle.float_exact.proofs.StepLaws.{magnitude-fits, leading-split, led}
use Rattle.float_exact.proofs.lead.Goals as goal

-- the magnitude of a mantissa that is not 0
fits : (a m : ℕ) → m ≡ nat_abs (signed 40 a) → 0 < a → a < 2 ^ 40 → (0 < m) × (m < 2 ^ 40)
fits a m e p l = rw e (magnitude-fits 40 a (lit≤ tt) p l)

pub overflow_sub-shift : goal.overflow_sub-shift
overflow_sub-shift c =
    let f = fits _ _ c.magnitude-m.ensures c.requires c.args.a.held in
    omega (arith, leading-split 24 40 c.magnitude-m.result f.0 f.1)

pub overflow_cast-value : goal.overflow_cast-value
overflow_cast-value c = omega (arith, leading_le 64 c.magnitude-m.result)

pub overflow_shl-value : goal.overflow_shl-value
overflow_shl-value c =
    let f = fits _ _ c.magnitude-m.ensures c.requires c.args.a.held in
    omega (arith, leading-split 24 40 c.magnitude-m.result f.0 f.1)

pub returns : goal.returns
returns c =
    let f = fits _ _ c.magnitude-m.ensures c.requires c.args.a.held in
    rw (← c.magnitude-m.ensures) (led 24 40 c.magnitude-m.result f.0 f.1)
