-- The answers to the goals of `run_batch::obey`. Assumes nothing.
use Rattle.clock.specs.Deferred.{after_ticks, longest_of}
use Rattle.isa.specs.Mil1750.{mil1750}
use Rattle.machine.specs.Instructions.{view}
use Rattle.machine.specs.State.{key_of, group_of, with_clock}
use Rattle.run_batch.proofs.StepLaws.{going, segment-made, segment-on, sw-released, hold-released, chosen-released, chosen-settled, bounded-step, bounded-small}
use Rattle.run_batch.specs.Batch.{deferred_at}
use borrow.Author.Rules.{rules}
use borrow.Author.Tests.{not-false}
use mathlib.Core.Path.{refl, sym, ap, ◌∙◌}
use native.Mathlib.Omega.{arith}
use Rattle.run_batch.proofs.obey.Goals as goal

pub key_of-key-requires : goal.key_of-key-requires
key_of-key-requires c = omega arith

pub group_of-group-requires : goal.group_of-group-requires
group_of-group-requires c = omega arith

pub end_of-end-requires : goal.end_of-end-requires
end_of-end-requires c = c.requires.1

pub release-t-requires : goal.release-t-requires
release-t-requires c = omega arith

pub loop-t-init : goal.loop-t-init
loop-t-init c = (refl, omega arith, c.end_of-end.ensures.1, c.end_of-end.ensures.2, record { key-is = c.key_of-key.ensures.0 ∙ ap key_of (sw-released _ _ c.release-t.ensures); group-is = c.group_of-group.ensures.0 ∙ ap group_of (sw-released _ _ c.release-t.ensures); group-small = c.group_of-group.ensures.1 }, hold-released _ _ c.release-t.ensures, λ h. rw (chosen-released _ _ c.release-t.ensures (c.end_of-end.ensures.3 h)) c.requires.2, c.requires.4, λ s q k. ap (λ j. going mil1750 c.args.durations.now j (deferred_at s c.args.from c.args.spent c.release-t.result c.args.regs.now) c.args.memory.now c.args.pages.now c.args.ports.now) (omega arith))

pub instruct-retired-requires : goal.instruct-retired-requires
instruct-retired-requires c = let l = c.loop-t in (c.requires.0, c.loop-t.invariant.4, bounded-small (longest_of c.args.durations.now) l.deferred l.tenths c.requires.3 (search rules) l.invariant.7)

pub overflow_add-deferred : goal.overflow_add-deferred
overflow_add-deferred c = omega (arith, c.loop-t.invariant.2)

pub ended-requires : goal.ended-requires
ended-requires c = omega arith

pub shape_of-memory-then-not-retired : goal.shape_of-memory-then-not-retired
shape_of-memory-then-not-retired c = let l = c.loop-t in c.instruct-retired.auto.memory ∙ l.invariant.0

pub returns-then-not-retired : goal.returns-then-not-retired
returns-then-not-retired c = let l = c.loop-t in rw c.ended.ensures (record { onward = omega (arith, l.invariant.1); within = omega (arith, l.invariant.2, l.invariant.3); bounded = rw c.instruct-retired.ensures.1 (bounded-step c.args.durations.now l.deferred l.tenths l.t (view l.t l.memory l.pages) c.told-durations l.invariant.7); last_within = λ t z. rw (c.instruct-retired.ensures.0.1.timed t z) (omega (arith, c.instruct-retired.ensures.1)); made = λ s q. segment-made mil1750 c.args.durations.now s c.args.from c.args.spent l.deferred l.tenths c.args.most l.invariant.1 (omega (arith, l.invariant.2, l.invariant.3)) l.invariant.7 q _ _ c.args.regs.now c.args.memory.now c.args.pages.now c.args.ports.now l.regs l.memory l.pages l.ports (l.invariant.8 s q) c.instruct-retired.result c.instruct-retired.ensures.0.1 _ _ _ _ (c.instruct-retired.ensures.0.0 (with_clock s (after_ticks l.deferred l.tenths s.clock))) c.args.core _ c.instruct-retired.ensures.1 c.release-t.ensures c.requires.2 })

pub ended-requires-then-end-deferred : goal.ended-requires-then-end-deferred
ended-requires-then-end-deferred c = omega arith

pub shape_of-memory-then-end-deferred : goal.shape_of-memory-then-end-deferred
shape_of-memory-then-end-deferred c = let l = c.loop-t in c.instruct-retired.auto.memory ∙ l.invariant.0

pub returns-then-end-deferred : goal.returns-then-end-deferred
returns-then-end-deferred c = let l = c.loop-t in rw c.ended-then-end-deferred.ensures (record { onward = omega (arith, l.invariant.1); within = omega (arith, l.invariant.2, l.invariant.3); bounded = rw c.instruct-retired.ensures.1 (bounded-step c.args.durations.now l.deferred l.tenths l.t (view l.t l.memory l.pages) c.told-durations l.invariant.7); last_within = λ t z. rw (c.instruct-retired.ensures.0.1.timed t z) (omega (arith, c.instruct-retired.ensures.1)); made = λ s q. segment-made mil1750 c.args.durations.now s c.args.from c.args.spent l.deferred l.tenths c.args.most l.invariant.1 (omega (arith, l.invariant.2, l.invariant.3)) l.invariant.7 q _ _ c.args.regs.now c.args.memory.now c.args.pages.now c.args.ports.now l.regs l.memory l.pages l.ports (l.invariant.8 s q) c.instruct-retired.result c.instruct-retired.ensures.0.1 _ _ _ _ (c.instruct-retired.ensures.0.0 (with_clock s (after_ticks l.deferred l.tenths s.clock))) c.args.core _ c.instruct-retired.ensures.1 c.release-t.ensures c.requires.2 })

pub loop-t-smaller : goal.loop-t-smaller
loop-t-smaller c = omega (arith, c.loop-t.invariant.2)

pub loop-t-preserved : goal.loop-t-preserved
loop-t-preserved c = let l = c.loop-t in let y = not-false c.instruct-retired.result.settled c.if-not-retired.false in let z = c.instruct-retired.ensures.0.1 in let d = z.choice-kept y in (c.instruct-retired.auto.memory ∙ l.invariant.0, omega (arith, l.invariant.1), c.if-end-deferred.false, l.invariant.3, record { key-is = l.invariant.4.key-is ∙ sym d.key-kept; group-is = l.invariant.4.group-is ∙ sym d.group-kept; group-small = l.invariant.4.group-small }, d.hold-kept ∙ l.invariant.5, λ h. rw (chosen-settled _ _ d) (l.invariant.6 c.if-end-deferred.false), rw c.instruct-retired.ensures.1 (bounded-step c.args.durations.now l.deferred l.tenths l.t (view l.t l.memory l.pages) c.told-durations l.invariant.7), λ s q. segment-on mil1750 c.args.durations.now s c.args.from c.args.spent l.deferred l.tenths c.args.most l.invariant.1 (omega (arith, l.invariant.2, l.invariant.3)) l.invariant.7 q _ _ c.args.regs.now c.args.memory.now c.args.pages.now c.args.ports.now l.regs l.memory l.pages l.ports (l.invariant.8 s q) c.instruct-retired.result c.instruct-retired.ensures.0.1 _ _ _ _ (c.instruct-retired.ensures.0.0 (with_clock s (after_ticks l.deferred l.tenths s.clock))) _ c.instruct-retired.ensures.1 c.told-durations (z.all_done y) (d.hold-kept ∙ l.invariant.5) (rw (chosen-settled _ _ d) (l.invariant.6 c.if-end-deferred.false)) (omega (arith, c.if-end-deferred.false, l.invariant.3)))
