-- The answers to the goals of `float::mantissa::Mantissa::shift`. Assumes nothing.
use native.Mathlib.Omega.{arith}
use Prim.Native.Nat.{◌+◌, ◌-◌}
use mathlib.Core.Path.{refl}
use lib.Pow.{shr_le}
use Rattle.float.proofs.MantissaLaws.{shift-low, shift-high, shift-low-out, shift-high-out}
use Rattle.float.proofs.mantissa.Mantissa.shift.Goals as goal

pub returns-then-m-h : goal.returns-then-m-h
returns-then-m-h g c = shift-low-out c.half-h.ensures _ c.args.self.held _ c.if-n.true c.if-m-h.true

pub returns-then-n : goal.returns-then-n
returns-then-n g c = shift-high-out c.half-h.ensures _ c.args.self.held _ c.if-n.true c.if-m-h.false

pub overflow_add-result : goal.overflow_add-result
overflow_add-result g c = omega (arith, shr_le c.args.self.bits c.args.n)

pub returns-then-m-h-2 : goal.returns-then-m-h-2
returns-then-m-h-2 g c = shift-low c.half-h.ensures _ c.args.self.held _ _ c.if-m-h-2.true refl

pub overflow_sub-result-5 : goal.overflow_sub-result-5
overflow_sub-result-5 g c = let h = c.half-h.result in omega (arith, shr_le (h + h - 1 - c.args.self.bits) c.args.n)

pub returns : goal.returns
returns g c = shift-high c.half-h.ensures _ c.args.self.held _ _ c.if-m-h-2.false refl
