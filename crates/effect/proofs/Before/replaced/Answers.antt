-- The answers to the goals of `effect::Before::replaced`. Assumes nothing.
use Rattle.isa.specs.Addressing.{is_register}
use Rattle.isa.specs.Effects.{replaced}
use Rattle.isa.specs.Fields.{field_b}
use Rattle.std.proofs.Common.{eq-eqb, ne_eqb}
use Rattle.effect.proofs.Before.replaced.Goals as goal

pub returns-then-self-eq1 : goal.returns-then-self-eq1
unfolding replaced is_register field_b
returns-then-self-eq1 c = λ regs. rw (eq-eqb _ _ c.if-self-eq1.true) (c.loaded.ensures regs)

pub returns : goal.returns
unfolding replaced is_register field_b
returns c = λ regs. rw (ne_eqb _ _ c.if-self-eq1.false) (c.stored.ensures regs)
