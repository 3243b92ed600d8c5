-- The answers to the goals of `run::run_steps`. Assumes nothing.
use Rattle.isa.specs.Mil1750.{mil1750}
use Rattle.machine.proofs.MachineLaws.{machine-became}
use Rattle.machine.specs.Machine.{machine}
use Rattle.machine.specs.State.{joined, with_processor, with_clock}
use Rattle.run_batch.proofs.StepLaws.{steps-none}
use mathlib.Core.Path.{refl, sym, ◌∙◌}
use native.Mathlib.Omega.{arith}
use Rattle.run.proofs.run_steps.Goals as goal

pub longest-longest-requires : goal.longest-longest-requires
longest-longest-requires c = omega arith

pub loop-rest-init : goal.loop-rest-init
loop-rest-init c = (refl, λ s. refl)

pub batch-rest-requires : goal.batch-rest-requires
batch-rest-requires c = (c.requires, c.loop-rest-test.true, c.longest-longest.ensures.0, c.longest-longest.ensures.1, c.longest-longest.ensures.2)

pub loop-rest-smaller : goal.loop-rest-smaller
loop-rest-smaller c = omega arith

pub loop-rest-preserved : goal.loop-rest-preserved
loop-rest-preserved c = let l = c.loop-rest in (c.batch-rest.auto.memory ∙ l.invariant.0, λ s. l.invariant.1 s ∙ c.batch-rest.ensures.1 s)

pub shape_of-memory : goal.shape_of-memory
shape_of-memory c = c.loop-rest.invariant.0

pub returns : goal.returns
returns c = let l = c.loop-rest in λ s. machine-became (sym (l.invariant.1 s ∙ steps-none mil1750 c.args.durations.now l.rest.left (machine (with_clock (with_processor s (joined l.rest.core l.regs)) l.rest.clock) l.memory l.pages l.ports) c.loop-rest-test.false))
