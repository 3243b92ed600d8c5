-- The answers to the goals of `run_batch::batch`. Assumes nothing.
use Prim.Native.Nat.{◌+◌, ◌-◌}
use Rattle.isa.specs.Mil1750.{mil1750}
use Rattle.machine.specs.State.{with_clock}
use Rattle.run_batch.proofs.StepLaws.{batch-start, batch-end, batch-on, closed-finished, closed-commanded}
use mathlib.Core.Path.{◌≡◌, refl, sym, ◌∙◌}
use native.Mathlib.Omega.{arith}
use Rattle.run_batch.proofs.batch.Goals as goal

pub overflow_sub-due : goal.overflow_sub-due
overflow_sub-due c = omega (arith, c.requires.1)

pub deferrable-most-requires : goal.deferrable-most-requires
deferrable-most-requires c = omega (arith, c.requires.3)

pub overflow_add-most : goal.overflow_add-most
overflow_add-most c = omega (arith, c.deferrable-most.ensures.1)

pub loop-timer-init : goal.loop-timer-init
loop-timer-init c = (refl, omega arith, omega (arith, c.deferrable-most.ensures.1, c.requires.1), λ h. let same : c.deferrable-most.result + 1 - 1 ≡ c.deferrable-most.result = omega arith in rw (same, ← c.requires.2) (c.deferrable-most.ensures.2 (omega arith)), omega arith, λ s. batch-start mil1750 c.args.durations.now c.args.due.left 0 0 (with_clock s c.args.due.clock) c.args.due.core c.args.regs.now c.args.memory.now c.args.pages.now c.args.ports.now refl)

pub next_segment-made-requires : goal.next_segment-made-requires
next_segment-made-requires c = (c.requires.0, c.loop-timer.invariant.1, rw (← c.requires.2) c.requires.4, c.loop-timer.invariant.4)

pub finish_command-requires : goal.finish_command-requires
finish_command-requires c = let l = c.loop-timer in (omega (arith, c.next_segment-made.ensures.onward), omega (arith, c.next_segment-made.ensures.within, l.invariant.2), c.next_segment-made.ensures.last_within c.in-Some.timer c.in-Some.is)

pub shape_of-memory-in-Some : goal.shape_of-memory-in-Some
shape_of-memory-in-Some c = let l = c.loop-timer in c.next_segment-made.auto.memory ∙ l.invariant.0

pub returns-in-Some : goal.returns-in-Some
returns-in-Some c = let l = c.loop-timer in (omega (arith, c.finish_command.ensures.0, c.next_segment-made.ensures.onward), λ s. rw c.finish_command.ensures.0 (batch-end mil1750 c.args.durations.now (with_clock s c.args.due.clock) _ _ c.args.due.left l.deferred c.next_segment-made.result c.next_segment-made.ensures.onward (omega (arith, c.next_segment-made.ensures.within, l.invariant.2)) (l.invariant.5 s) _ _ _ _ (c.next_segment-made.ensures.made (with_clock s c.args.due.clock) l.invariant.3) _ (c.finish_command.ensures.1 s ∙ sym (closed-commanded _ _ _ _ _ c.in-Some.is))))

pub finish-requires : goal.finish-requires
finish-requires c = omega (arith, c.next_segment-made.ensures.within, c.loop-timer.invariant.2)

pub shape_of-memory-then-most-deferred : goal.shape_of-memory-then-most-deferred
shape_of-memory-then-most-deferred c = let l = c.loop-timer in c.next_segment-made.auto.memory ∙ l.invariant.0

pub returns-then-most-deferred : goal.returns-then-most-deferred
returns-then-most-deferred c = let l = c.loop-timer in (omega (arith, c.finish.ensures.0, c.next_segment-made.ensures.onward), λ s. rw c.finish.ensures.0 (batch-end mil1750 c.args.durations.now (with_clock s c.args.due.clock) _ _ c.args.due.left l.deferred c.next_segment-made.result c.next_segment-made.ensures.onward (omega (arith, c.next_segment-made.ensures.within, l.invariant.2)) (l.invariant.5 s) _ _ _ _ (c.next_segment-made.ensures.made (with_clock s c.args.due.clock) l.invariant.3) _ (c.finish.ensures.1 s _ ∙ sym (closed-finished _ _ _ _ c.in_default.is))))

pub loop-timer-smaller : goal.loop-timer-smaller
loop-timer-smaller c = omega (arith, c.next_segment-made.ensures.onward, c.next_segment-made.ensures.within, c.loop-timer.invariant.1)

pub loop-timer-preserved : goal.loop-timer-preserved
loop-timer-preserved c = let l = c.loop-timer in (c.next_segment-made.auto.memory ∙ l.invariant.0, c.if-most-deferred.false, l.invariant.2, l.invariant.3, c.next_segment-made.ensures.bounded, λ s. batch-on mil1750 c.args.durations.now (with_clock s c.args.due.clock) _ _ c.args.due.left l.deferred c.next_segment-made.result c.next_segment-made.ensures.onward (omega (arith, c.next_segment-made.ensures.within, l.invariant.2)) (l.invariant.5 s) _ _ _ _ (c.next_segment-made.ensures.made (with_clock s c.args.due.clock) l.invariant.3) (c.deferrable-most.result + 1) c.in_default.is c.if-most-deferred.false c.next_segment-made.ensures.bounded l.invariant.3)
