-- The answers to the goals of `fast_accumulate::double::into_double`. Assumes nothing.
use Prim.Native.Nat.{◌+◌}
use Rattle.fast_accumulate.proofs.EndLaws.{words-first, read_done, read-refused, double-after}
use Rattle.fast_accumulate.proofs.PathLaws.{path-user, path-reads, path-writes, path-count, doubled, does-double}
use Rattle.fast_accumulate.specs.Ended.{ended_core}
use Rattle.fast_accumulate.specs.Paths.{target}
use Rattle.isa.specs.Accesses.{at_operand}
use Rattle.isa.specs.Effects.{fixed_overflow}
use Rattle.isa.specs.Fields.{with_register}
use Rattle.isa.specs.Integers.{double_outcome}
use Rattle.isa.specs.Mil1750.{context_of}
use Rattle.isa.specs.Words.{register_pair}
use Rattle.machine.specs.State.{joined}
use Rattle.word.specs.Pair.{high_word, low_word}
use mathlib.Core.Path.{◌≡◌, refl, ap, ◌∙◌}
use native.Mathlib.Omega.{arith}
use Rattle.fast_accumulate.proofs.double.into_double.Goals as goal

pub read_operand-requires : goal.read_operand-requires
read_operand-requires c = (c.requires.0.group-small, c.requires.2, omega (arith, c.requires.1))

pub returns : goal.returns
unfolding at_operand context_of register_pair
returns c = let o : c.combine32-d.result ≡ (doubled c.args.n (context_of (joined c.args.core c.args.regs.now)) c.in-Ok.g.x c.in-Ok.g.y) = rw (← c.target_of-k.ensures.0, ← c.get.ensures, ← c.get-2.ensures, ← c.join-a.ensures, ← c.double_operand.ensures) c.combine32-d.ensures in let w = words-first (joined c.args.core c.args.regs.now) c.args.memory.now c.args.pages.now c.args.n (path-user c.args.n 2 c.requires.1 (omega arith)) _ _ 2 c.requires.0.key-is c.requires.0.group-is (path-reads c.args.n 2 2 0 c.requires.1 (omega arith) refl refl refl refl refl c.args.regs.now) (path-writes c.args.n 2 2 0 c.requires.1 (omega arith) refl refl refl refl refl c.args.regs.now) _ (c.read_operand.ensures 2 (path-count c.args.n 2 c.requires.1 (omega arith) 2 refl)) _ c.in-Ok.is in read_done (joined c.args.core c.args.regs.now) c.args.memory.now c.args.pages.now c.args.n (path-user c.args.n 2 c.requires.1 (omega arith)) _ _ 2 c.requires.0.key-is c.requires.0.group-is (path-reads c.args.n 2 2 0 c.requires.1 (omega arith) refl refl refl refl refl c.args.regs.now) (path-writes c.args.n 2 2 0 c.requires.1 (omega arith) refl refl refl refl refl c.args.regs.now) _ (c.read_operand.ensures 2 (path-count c.args.n 2 c.requires.1 (omega arith) 2 refl)) (double_outcome (context_of (joined c.args.core c.args.regs.now)) c.args.n (target c.args.n) (doubled c.args.n (context_of (joined c.args.core c.args.regs.now)) c.in-Ok.g.x c.in-Ok.g.y)) _ _ _ _ c.in-Ok.is (does-double c.args.n c.requires.1 _ _ _ _ w.first-is w.second_is) refl (double-after c.args.core (ended_core c.args.core c.done.result) c.args.regs.now c.args.n (target c.args.n) _ _ _ (doubled c.args.n (context_of (joined c.args.core c.args.regs.now)) c.in-Ok.g.x c.in-Ok.g.y) c.done.ensures c.following.ensures (ap (λ r. r.cs) o) (c.fixed_overflow-bits.ensures ∙ ap (λ r. fixed_overflow r.overflow) o) _ (c.put-2.ensures ∙ ap (λ r. with_register r (c.target_of-k.result + 1) c.low.result) c.put.ensures ∙ ap (λ h. with_register (with_register c.args.regs.now c.target_of-k.result (h)) (c.target_of-k.result + 1) c.low.result) c.high.ensures ∙ ap (λ l. with_register (with_register c.args.regs.now c.target_of-k.result (high_word c.combine32-d.result.value)) (c.target_of-k.result + 1) (l)) c.low.ensures ∙ ap (λ k. with_register (with_register c.args.regs.now (k) (high_word c.combine32-d.result.value)) (k + 1) (low_word c.combine32-d.result.value)) c.target_of-k.ensures.0 ∙ ap (λ r. with_register (with_register c.args.regs.now (target c.args.n) (high_word r.value)) (target c.args.n + 1) (low_word r.value)) o))

pub returns-in-Err : goal.returns-in-Err
unfolding at_operand context_of register_pair
returns-in-Err c = read-refused (joined c.args.core c.args.regs.now) c.args.memory.now c.args.pages.now c.args.n (path-user c.args.n 2 c.requires.1 (omega arith)) _ _ 2 c.requires.0.key-is c.requires.0.group-is (path-reads c.args.n 2 2 0 c.requires.1 (omega arith) refl refl refl refl refl c.args.regs.now) (path-writes c.args.n 2 2 0 c.requires.1 (omega arith) refl refl refl refl refl c.args.regs.now) _ (c.read_operand.ensures 2 (path-count c.args.n 2 c.requires.1 (omega arith) 2 refl)) _ _ _ c.in-Err.is refl refl
