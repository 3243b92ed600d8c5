-- The answers to the goals of `float_div::quotient`. Assumes nothing.
use Prim.Native.Nat.{ℕ, ◌+◌, ◌-◌, ◌*◌, ◌/◌, ◌%◌, ◌^◌, ◌≤◌, ◌<◌}
use native.Mathlib.Nat.{mod-lt, div-lt_iff_lt-mul, le-div_iff_mul-le}
use native.Mathlib.Omega.{arith}
use Rattle.float_exact.specs.Steps.{one_if}
use Rattle.float_exact.proofs.ExactLaws.{one_if-le}
use Rattle.float_div.proofs.QuotientLaws.{long-quotient, quotient-long}
use Rattle.float_div.proofs.quotient.Goals as goal

-- a digit of the quotient
digit : (n b : ℕ) → n < 2 ^ 61 → 2 ^ 39 ≤ b → n / b < 2 ^ 22
digit n b h l = (div-lt_iff_lt-mul {k = b} {x = n} {y = 2 ^ 22} (omega arith)).1 (omega arith)

-- the first step: its remainder and its digit
step : (a b : ℕ) → 2 ^ 39 ≤ a → a < 2 ^ 40 → 2 ^ 39 ≤ b → b < 2 ^ 40 → let n = a * 2 ^ 20 in (n % b < 2 ^ 40) × (n / b < 2 ^ 22) × (1 ≤ n / b)
step a b la ha lb hb =
    let p : 0 < b = omega arith in
    (omega (arith, mod-lt (a * 2 ^ 20) p), digit (a * 2 ^ 20) b (omega arith) (omega arith), (le-div_iff_mul-le {k = b} {x = 1} {y = a * 2 ^ 20} p).1 (omega arith))

pub overflow_mul-low : goal.overflow_mul-low
overflow_mul-low c = omega (arith, step c.args.a c.args.b c.requires.0 c.requires.1 c.requires.2 c.requires.3)

pub overflow_add-low : goal.overflow_add-low
overflow_add-low c = omega (arith, step c.args.a c.args.b c.requires.0 c.requires.1 c.requires.2 c.requires.3)

pub overflow_mul-result : goal.overflow_mul-result
overflow_mul-result c = omega (arith, step c.args.a c.args.b c.requires.0 c.requires.1 c.requires.2 c.requires.3)

pub overflow_add-result : goal.overflow_add-result
overflow_add-result c =
    let r = step c.args.a c.args.b c.requires.0 c.requires.1 c.requires.2 c.requires.3 in
    omega (arith, digit (c.args.a * 2 ^ 20 % c.args.b * 2 ^ 20 + c.args.b - c.one_if.result) c.args.b (omega arith) (omega arith))

pub overflow_sub-result : goal.overflow_sub-result
overflow_sub-result c = omega (arith, step c.args.a c.args.b c.requires.0 c.requires.1 c.requires.2 c.requires.3)

pub returns : goal.returns
returns c =
    let v = one_if-le c.args.neg in
    let e = long-quotient (2 ^ 20) c.args.a c.args.b (one_if c.args.neg) v (omega arith) (omega arith) in
    rw c.one_if.ensures (e, rw e (quotient-long c.args.a c.args.b (one_if c.args.neg) v c.requires.0 c.requires.2 c.requires.3))
