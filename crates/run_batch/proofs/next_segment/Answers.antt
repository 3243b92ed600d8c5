-- The answers to the goals of `run_batch::next_segment`. Assumes nothing.
use Rattle.clock.specs.Deferred.{after_ticks, longest_of}
use Rattle.isa.specs.Mil1750.{mil1750}
use Rattle.machine.specs.State.{with_clock}
use Rattle.run_batch.proofs.StepLaws.{entry-made, bounded-more, bounded-small}
use borrow.Author.Rules.{rules}
use mathlib.Core.Path.{refl}
use native.Mathlib.Omega.{arith}
use Rattle.run_batch.proofs.next_segment.Goals as goal

pub overflow_add-result-in-Some : goal.overflow_add-result-in-Some
overflow_add-result-in-Some c = omega (arith, bounded-small (longest_of c.args.durations.now) c.args.deferred c.args.tenths c.requires.2 (search rules) c.requires.3, c.entry_duration.ensures.1)

pub returns-in-Some : goal.returns-in-Some
returns-in-Some c = record { onward = omega arith; within = omega (arith, c.requires.1); bounded = rw c.entry_duration.ensures.0 (bounded-more c.args.durations.now c.args.deferred c.args.tenths 256 c.told-durations (omega arith) c.requires.3); last_within = λ t z. cc; made = λ s q k. rw c.entry_duration.ensures.0 (entry-made mil1750 c.args.durations.now s _ c.args.deferred c.args.tenths c.args.most _ _ c.args.regs.now c.args.memory.now c.args.pages.now c.args.ports.now _ (c.in-Some.ensures c.args.core refl refl refl refl).0 (c.in-Some.ensures c.args.core refl refl refl refl).1 c.requires.3 c.requires.1 q (c.interrupted.ensures (with_clock s (after_ticks c.args.deferred c.args.tenths s.clock)) c.args.regs.now c.args.ports.now) k) }

pub interrupted-requires : goal.interrupted-requires
interrupted-requires c = ((c.in-Some.ensures c.args.core refl refl refl refl).1)

pub obey-requires : goal.obey-requires
obey-requires c = (c.requires.0, c.requires.1, (let none = c.in-None.ensures c.args.core refl refl refl refl in omega (arith, none)), c.requires.2, c.requires.3)

pub returns-in-None : goal.returns-in-None
returns-in-None c = c.obey.ensures
