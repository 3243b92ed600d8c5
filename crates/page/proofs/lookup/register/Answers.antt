-- The answers to the goals of `page::lookup::register`. Assumes nothing.
use Rattle.page.proofs.LookupLaws.{set_below}
use Rattle.page.specs.Pages.{register_at}
use Rattle.std.proofs.Common.{arith}
use Rattle.page.proofs.lookup.register.Goals as goal

pub overflow_add-result : goal.overflow_add-result
overflow_add-result c = omega (arith, set_below c.args.access)

pub overflow_add-result-2 : goal.overflow_add-result-2
overflow_add-result-2 c = omega (arith, set_below c.args.access)

pub returns : goal.returns
unfolding register_at
returns c = cc
