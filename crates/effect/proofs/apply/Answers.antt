-- The answers to the goals of `effect::apply`. Assumes nothing.
use Rattle.effect.specs.Work.{filled}
use Rattle.isa.specs.Fields.{with_registers}
use Rattle.std.proofs.Common.{◌≡◌, ◌+◌, refl, arith}
use Rattle.effect.proofs.apply.Goals as goal

pub returns-in-Kept : goal.returns-in-Kept
unfolding filled with_registers
returns-in-Kept c = rw c.in-Kept.is refl

pub returns-in-One : goal.returns-in-One
unfolding filled with_registers
returns-in-One c = rw c.in-One.is c.put.ensures

pub returns-in-Two : goal.returns-in-Two
unfolding filled with_registers
returns-in-Two c = rw (c.in-Two.is, ← c.put-in-Two.ensures) c.put-in-Two-2.ensures

pub returns-in-Three : goal.returns-in-Three
unfolding filled with_registers
returns-in-Three c = let e : c.in-Three.k + 1 + 1 ≡ c.in-Three.k + 2 = omega arith in rw (c.in-Three.is, e, ← c.put-in-Three.ensures, ← c.put-in-Three-2.ensures) c.put-in-Three-3.ensures
