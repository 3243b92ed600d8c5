-- The answers to the goals of `fixed_muldiv::quotients::quotient`. Assumes nothing.
use Rattle.std.proofs.Common.{ap}
use Rattle.fixed_muldiv.specs.Divide.{quotient}
use Rattle.fixed_muldiv.proofs.quotients.quotient.Goals as goal

pub returns : goal.returns
unfolding quotient
returns g c = ap (λ q. record { value = q.quotient; cs = q.cs; overflow = q.overflow }) c.divide-q.ensures
