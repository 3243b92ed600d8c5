-- The answers to the goals of `command::timers::timer_command`. Assumes nothing.
use Rattle.choice.proofs.SelectLaws.{otherwise}
use Rattle.isa.specs.Commands.{timer_rules, timer_command}
use Rattle.machine.specs.State.{joined, with_processor, with_clock, with_ta, with_tb, with_rem_a, with_rem_b, with_ta_on, with_tb_on}
use mathlib.Core.Path.{refl, sym, ap}
use Rattle.command.proofs.timers.timer_command.Goals as goal

pub returns-in-16392 : goal.returns-in-16392
unfolding timer_command with_ta with_tb with_rem_a with_rem_b with_ta_on with_tb_on
returns-in-16392 c = λ s core. rw c.in-16392.is (ap (with_clock (with_processor s (joined core c.args.regs.now))) c.set_timer_a.ensures)

pub returns-in-16393 : goal.returns-in-16393
unfolding timer_command with_ta with_tb with_rem_a with_rem_b with_ta_on with_tb_on
returns-in-16393 c = λ s core. rw c.in-16393.is (ap (with_clock (with_processor s (joined core c.args.regs.now))) c.set_timer_a-in-16393.ensures)

pub returns-in-16394 : goal.returns-in-16394
unfolding timer_command with_ta with_tb with_rem_a with_rem_b with_ta_on with_tb_on
returns-in-16394 c = λ s core. rw (c.in-16394.is, ← c.get.ensures) (ap (with_clock (with_processor s (joined core c.args.regs.now))) c.set_timer_a-in-16394.ensures)

pub returns-in-16396 : goal.returns-in-16396
unfolding timer_command with_ta with_tb with_rem_a with_rem_b with_ta_on with_tb_on
returns-in-16396 c = λ s core. rw c.in-16396.is (ap (with_clock (with_processor s (joined core c.args.regs.now))) c.set_timer_b.ensures)

pub returns-in-16397 : goal.returns-in-16397
unfolding timer_command with_ta with_tb with_rem_a with_rem_b with_ta_on with_tb_on
returns-in-16397 c = λ s core. rw c.in-16397.is (ap (with_clock (with_processor s (joined core c.args.regs.now))) c.set_timer_b-in-16397.ensures)

pub returns-in-16398 : goal.returns-in-16398
unfolding timer_command with_ta with_tb with_rem_a with_rem_b with_ta_on with_tb_on
returns-in-16398 c = λ s core. rw (c.in-16398.is, ← c.get-in-16398.ensures) (ap (with_clock (with_processor s (joined core c.args.regs.now))) c.set_timer_b-in-16398.ensures)

pub returns-in-49162 : goal.returns-in-49162
unfolding timer_command with_ta with_tb with_rem_a with_rem_b with_ta_on with_tb_on
returns-in-49162 c = λ s core. rw (c.in-49162.is, ← c.put.ensures) refl

pub returns-in-49166 : goal.returns-in-49166
unfolding timer_command with_ta with_tb with_rem_a with_rem_b with_ta_on with_tb_on
returns-in-49166 c = λ s core. rw (c.in-49166.is, ← c.put-in-49166.ensures) refl

pub returns-in_default : goal.returns-in_default
unfolding timer_command with_ta with_tb with_rem_a with_rem_b with_ta_on with_tb_on
returns-in_default c = λ s core. sym (ap (λ f. f (with_clock (with_processor s (joined core c.args.regs.now)) c.args.clock) c.args.k) (otherwise c.args.command timer_rules _ c.in_default.in_default-own.rest))
