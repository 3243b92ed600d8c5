-- The answers to the goals of `reset::reset`. Assumes nothing.
use Rattle.reset.specs.Reset.{reset_machine}
use Rattle.reset.proofs.reset.Goals as goal

pub returns : goal.returns
unfolding reset_machine
returns c = record { state-is = c.reset_state.ensures; memory-is = c.fill.ensures.after (λ y e. e); pages-is = c.number_pages.ensures; ports-is = c.fill-2.ensures.after (λ y e. e) }
