-- The answers to the goals of `fast::store::store_two`. Assumes nothing.
use Rattle.std.proofs.Common.{Err, ◌+◌, false, cond, sym, refl, ap, ◌∙◌, arith}
use Rattle.decode.specs.Forms.{mode_of}
use Rattle.std.proofs.lemmas.Result.{err_from_is_err_and}
use Rattle.fast_accumulate.proofs.EndLaws.{pair-done, pair-refused, idle-done}
use Rattle.fast_accumulate.proofs.PathLaws.{path-user, path-reads, path-writes, path-stored, path-store, some_words, no_words, does-pair}
use Rattle.isa.specs.Addressing.{in_memory, accumulator}
use Rattle.isa.specs.Effects.{effect, stored}
use Rattle.isa.specs.Fields.{with_registers, register}
use Rattle.isa.specs.Mil1750.{context_of}
use Rattle.machine.specs.Machine.{span_from}
use Rattle.machine.specs.State.{joined}
use Rattle.page.proofs.ReachLaws.{located-inside}
use Rattle.page.specs.Spans.{wrapped, and_then}
use Rattle.fast.proofs.store.store_two.Goals as goal

pub write_count-requires : goal.write_count-requires
write_count-requires c = c.requires.2

pub returns-then-write_count-eq0 : goal.returns-then-write_count-eq0
unfolding context_of effect stored with_registers wrapped and_then
returns-then-write_count-eq0 c = idle-done (joined c.args.core c.args.regs.now) c.args.memory.now c.args.pages.now c.args.n (path-user c.args.n 5 c.requires.1 (omega arith)) (path-reads c.args.n 5 0 2 c.requires.1 (omega arith) refl refl refl refl refl c.args.regs.now) false ((path-writes c.args.n 5 0 2 c.requires.1 (omega arith) refl refl refl refl refl c.args.regs.now) ∙ ap (λ b. span_from c.args.n.address (cond b 2 0)) (no_words (in_memory (mode_of c.args.n.form)) 1 _ (path-stored c.args.n (omega (arith, c.requires.1)) _ c.write_count.ensures.0 2 (path-store c.args.n 5 c.requires.1 (omega arith) 2 refl)) (omega (arith, c.if-write_count-eq0.true)))) (stored (context_of (joined c.args.core c.args.regs.now)) c.args.n (register c.args.regs.now (accumulator c.args.n)) (register c.args.regs.now (accumulator c.args.n + 1)) 0) _ _ _ (does-pair c.args.n c.requires.1 _ _) refl (c.done.ensures c.args.regs.now (stored (context_of (joined c.args.core c.args.regs.now)) c.args.n (register c.args.regs.now (accumulator c.args.n)) (register c.args.regs.now (accumulator c.args.n + 1)) 0) (sym c.following-next.ensures) (sym c.cs_of-cs.ensures) refl)

pub look_up-requires : goal.look_up-requires
look_up-requires c = c.requires.0.group-small

pub returns-in_err-p : goal.returns-in_err-p
unfolding context_of effect stored with_registers wrapped and_then
returns-in_err-p c = let p = err_from_is_err_and c.from_residual.result c.from_residual.ensures.1 in pair-refused (joined c.args.core c.args.regs.now) c.args.memory.now c.args.pages.now c.args.n (path-user c.args.n 5 c.requires.1 (omega arith)) (path-reads c.args.n 5 0 2 c.requires.1 (omega arith) refl refl refl refl refl c.args.regs.now) _ _ c.requires.0.key-is c.requires.0.group-is ((path-writes c.args.n 5 0 2 c.requires.1 (omega arith) refl refl refl refl refl c.args.regs.now) ∙ ap (λ b. span_from c.args.n.address (cond b 2 0)) (some_words (in_memory (mode_of c.args.n.form)) 1 _ (path-stored c.args.n (omega (arith, c.requires.1)) _ c.write_count.ensures.0 2 (path-store c.args.n 5 c.requires.1 (omega arith) 2 refl)) (omega (arith, c.if-write_count-eq0.false)))) _ _ _ (rw (← c.look_up.ensures, c.in_err-p.was) refl) (p.1 ∙ ap Err p.2) refl

pub look_up-requires-2 : goal.look_up-requires-2
look_up-requires-2 c = c.requires.0.group-small

pub returns-in_err-q : goal.returns-in_err-q
unfolding context_of effect stored with_registers wrapped and_then
returns-in_err-q c = let p = err_from_is_err_and c.from_residual-in_err-q.result c.from_residual-in_err-q.ensures.1 in pair-refused (joined c.args.core c.args.regs.now) c.args.memory.now c.args.pages.now c.args.n (path-user c.args.n 5 c.requires.1 (omega arith)) (path-reads c.args.n 5 0 2 c.requires.1 (omega arith) refl refl refl refl refl c.args.regs.now) _ _ c.requires.0.key-is c.requires.0.group-is ((path-writes c.args.n 5 0 2 c.requires.1 (omega arith) refl refl refl refl refl c.args.regs.now) ∙ ap (λ b. span_from c.args.n.address (cond b 2 0)) (some_words (in_memory (mode_of c.args.n.form)) 1 _ (path-stored c.args.n (omega (arith, c.requires.1)) _ c.write_count.ensures.0 2 (path-store c.args.n 5 c.requires.1 (omega arith) 2 refl)) (omega (arith, c.if-write_count-eq0.false)))) _ _ _ (rw (← c.look_up.ensures, c.in_ok-p.was, ← c.look_up-2.ensures, c.in_err-q.was) refl) (p.1 ∙ ap Err p.2) refl

pub put_two-requires : goal.put_two-requires
put_two-requires c = (located-inside _ _ _ _ _ _ _ _ c.look_up.ensures c.in_ok-p.was, located-inside _ _ _ _ _ _ _ _ c.look_up-2.ensures c.in_ok-q.was)

pub returns : goal.returns
unfolding context_of effect stored with_registers wrapped and_then
returns c = rw c.put_two.ensures (pair-done (joined c.args.core c.args.regs.now) c.args.memory.now c.args.pages.now c.args.n (path-user c.args.n 5 c.requires.1 (omega arith)) (path-reads c.args.n 5 0 2 c.requires.1 (omega arith) refl refl refl refl refl c.args.regs.now) _ _ c.requires.0.key-is c.requires.0.group-is ((path-writes c.args.n 5 0 2 c.requires.1 (omega arith) refl refl refl refl refl c.args.regs.now) ∙ ap (λ b. span_from c.args.n.address (cond b 2 0)) (some_words (in_memory (mode_of c.args.n.form)) 1 _ (path-stored c.args.n (omega (arith, c.requires.1)) _ c.write_count.ensures.0 2 (path-store c.args.n 5 c.requires.1 (omega arith) 2 refl)) (omega (arith, c.if-write_count-eq0.false)))) _ _ _ _ (stored (context_of (joined c.args.core c.args.regs.now)) c.args.n c.get-x.result c.get-y.result 0) _ _ _ (rw (← c.look_up.ensures, c.in_ok-p.was) refl) (rw (← c.look_up-2.ensures, c.in_ok-q.was) refl) refl (rw (c.get-x.ensures, c.get-y.ensures, c.accumulator_of.ensures.0, c.accumulator_of-2.ensures.0) (does-pair c.args.n c.requires.1 _ _)) refl (c.done-2.ensures c.args.regs.now (stored (context_of (joined c.args.core c.args.regs.now)) c.args.n c.get-x.result c.get-y.result 0) (sym c.following-next.ensures) (sym c.cs_of-cs.ensures) refl))
