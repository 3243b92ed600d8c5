-- The answers to the goals of `operand_spans::all_from`. Assumes nothing.
use Rattle.isa.specs.Accesses.{all_from}
use native.Mathlib.Omega.{arith}
use Rattle.operand_spans.proofs.all_from.Goals as goal

pub returns : goal.returns
unfolding all_from
returns c = (rw (← c.field_a.ensures.0) c.span_from.ensures, rw c.span_from.ensures (omega (arith, c.field_a.ensures.1)))
