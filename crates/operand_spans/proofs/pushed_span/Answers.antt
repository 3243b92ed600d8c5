-- The answers to the goals of `operand_spans::pushed_span`. Assumes nothing.
use Prim.Native.Nat.{◌+◌}
use Rattle.isa.specs.Accesses.{pushed_span}
use Rattle.page.specs.Spans.{wrapped}
use mathlib.Core.Path.{◌≡◌, refl}
use Rattle.operand_spans.proofs.pushed_span.Goals as goal

pub registers_from-requires : goal.registers_from-requires
registers_from-requires c = (c.field_a.ensures.1, c.field_b.ensures.1)

pub returns : goal.returns
unfolding pushed_span
returns c = let e : c.less.result ≡ wrapped (c.get.result + 65535) = c.less.ensures in (rw (← c.get.ensures, ← c.field_a.ensures.0, ← c.field_b.ensures.0, ← c.registers_from.ensures.0, ← e) refl, c.registers_from.ensures.1)
