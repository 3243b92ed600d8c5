-- The answers to the goals of `fast_accumulate::single::into_single`. Assumes nothing.
use Rattle.fast_accumulate.proofs.EndLaws.{words-first, read_done, read-refused, single-after}
use Rattle.fast_accumulate.proofs.PathLaws.{path-user, path-reads, path-writes, path-count, singled, does-single}
use Rattle.fast_accumulate.specs.Ended.{ended_core}
use Rattle.isa.specs.Accesses.{at_operand}
use Rattle.isa.specs.Addressing.{accumulator}
use Rattle.isa.specs.Effects.{fixed_overflow}
use Rattle.isa.specs.Fields.{with_register}
use Rattle.isa.specs.Integers.{single_outcome}
use Rattle.isa.specs.Mil1750.{context_of}
use Rattle.machine.specs.State.{joined}
use mathlib.Core.Path.{◌≡◌, refl, ap, ◌∙◌}
use native.Mathlib.Omega.{arith}
use Rattle.fast_accumulate.proofs.single.into_single.Goals as goal

pub read_operand-requires : goal.read_operand-requires
read_operand-requires c = (c.requires.0.group-small, c.requires.2, omega (arith, c.requires.1))

pub returns : goal.returns
unfolding at_operand context_of
returns c = let o : c.combine16-s.result ≡ (singled c.args.n (context_of (joined c.args.core c.args.regs.now)) c.in-Ok.g.x) = rw (← c.accumulator_of-k.ensures.0, ← c.get.ensures, ← c.operand_of.ensures) c.combine16-s.ensures in let w = words-first (joined c.args.core c.args.regs.now) c.args.memory.now c.args.pages.now c.args.n (path-user c.args.n 1 c.requires.1 (omega arith)) _ _ 1 c.requires.0.key-is c.requires.0.group-is (path-reads c.args.n 1 1 0 c.requires.1 (omega arith) refl refl refl refl refl c.args.regs.now) (path-writes c.args.n 1 1 0 c.requires.1 (omega arith) refl refl refl refl refl c.args.regs.now) _ (c.read_operand.ensures 1 (path-count c.args.n 1 c.requires.1 (omega arith) 1 refl)) _ c.in-Ok.is in read_done (joined c.args.core c.args.regs.now) c.args.memory.now c.args.pages.now c.args.n (path-user c.args.n 1 c.requires.1 (omega arith)) _ _ 1 c.requires.0.key-is c.requires.0.group-is (path-reads c.args.n 1 1 0 c.requires.1 (omega arith) refl refl refl refl refl c.args.regs.now) (path-writes c.args.n 1 1 0 c.requires.1 (omega arith) refl refl refl refl refl c.args.regs.now) _ (c.read_operand.ensures 1 (path-count c.args.n 1 c.requires.1 (omega arith) 1 refl)) (single_outcome (context_of (joined c.args.core c.args.regs.now)) c.args.n (accumulator c.args.n) (singled c.args.n (context_of (joined c.args.core c.args.regs.now)) c.in-Ok.g.x)) _ _ _ _ c.in-Ok.is (does-single c.args.n c.requires.1 _ _ _ w.first-is) refl (single-after c.args.core (ended_core c.args.core c.done.result) c.args.regs.now c.args.n (accumulator c.args.n) _ _ _ (singled c.args.n (context_of (joined c.args.core c.args.regs.now)) c.in-Ok.g.x) c.done.ensures c.following.ensures (ap (λ r. r.cs) o) (c.fixed_overflow-bits.ensures ∙ ap (λ r. fixed_overflow r.overflow) o) _ (c.put.ensures ∙ ap (λ k. with_register c.args.regs.now k c.combine16-s.result.value) c.accumulator_of-k.ensures.0 ∙ ap (λ r. with_register c.args.regs.now (accumulator c.args.n) r.value) o))

pub returns-in-Err : goal.returns-in-Err
unfolding at_operand context_of
returns-in-Err c = read-refused (joined c.args.core c.args.regs.now) c.args.memory.now c.args.pages.now c.args.n (path-user c.args.n 1 c.requires.1 (omega arith)) _ _ 1 c.requires.0.key-is c.requires.0.group-is (path-reads c.args.n 1 1 0 c.requires.1 (omega arith) refl refl refl refl refl c.args.regs.now) (path-writes c.args.n 1 1 0 c.requires.1 (omega arith) refl refl refl refl refl c.args.regs.now) _ (c.read_operand.ensures 1 (path-count c.args.n 1 c.requires.1 (omega arith) 1 refl)) _ _ _ c.in-Err.is refl refl
