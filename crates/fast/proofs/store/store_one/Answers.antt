-- The answers to the goals of `fast::store::store_one`. Assumes nothing.
use Rattle.decode.specs.Forms.{mode_of}
use Rattle.std.proofs.lemmas.Result.{err_from_is_err_and}
use Rattle.fast_accumulate.proofs.EndLaws.{store-done, store-refused, idle-done}
use Rattle.fast_accumulate.proofs.PathLaws.{path-user, path-reads, path-writes, path-stored, path-store, some_words, no_words, does-store}
use Rattle.fast_accumulate.specs.Paths.{word_stored}
use Rattle.isa.specs.Addressing.{in_memory}
use Rattle.isa.specs.Effects.{effect, stored}
use Rattle.isa.specs.Fields.{with_registers}
use Rattle.isa.specs.Mil1750.{context_of}
use Rattle.machine.specs.Machine.{span_from}
use Rattle.machine.specs.State.{joined}
use Rattle.page.proofs.ReachLaws.{located-inside}
use Rattle.std.proofs.Common.{Err, false, cond, sym, refl, ap, ◌∙◌, arith}
use Rattle.fast.proofs.store.store_one.Goals as goal

pub write_count-requires : goal.write_count-requires
write_count-requires c = c.requires.2

pub returns-then-write_count-eq0 : goal.returns-then-write_count-eq0
unfolding context_of effect stored with_registers
returns-then-write_count-eq0 c = idle-done (joined c.args.core c.args.regs.now) c.args.memory.now c.args.pages.now c.args.n (path-user c.args.n 3 c.requires.1 (omega arith)) (path-reads c.args.n 3 0 1 c.requires.1 (omega arith) refl refl refl refl refl c.args.regs.now) false ((path-writes c.args.n 3 0 1 c.requires.1 (omega arith) refl refl refl refl refl c.args.regs.now) ∙ ap (λ b. span_from c.args.n.address (cond b 1 0)) (no_words (in_memory (mode_of c.args.n.form)) 0 _ (path-stored c.args.n (omega (arith, c.requires.1)) _ c.write_count.ensures.0 1 (path-store c.args.n 3 c.requires.1 (omega arith) 1 refl)) (omega (arith, c.if-write_count-eq0.true)))) (stored (context_of (joined c.args.core c.args.regs.now)) c.args.n (word_stored c.args.regs.now c.args.n) 0 0) _ _ _ (does-store c.args.n c.requires.1 _ _) refl (c.done.ensures c.args.regs.now (stored (context_of (joined c.args.core c.args.regs.now)) c.args.n (word_stored c.args.regs.now c.args.n) 0 0) (sym c.following-next.ensures) (sym c.cs_of-cs.ensures) refl)

pub look_up-requires : goal.look_up-requires
look_up-requires c = c.requires.0.group-small

pub offset_bounds-memory-at : goal.offset_bounds-memory-at
offset_bounds-memory-at c = omega (arith, located-inside _ _ _ _ _ _ _ _ c.look_up.ensures c.in_ok-at.was)

pub bounds-memory-at : goal.bounds-memory-at
bounds-memory-at c = located-inside _ _ _ _ _ _ _ _ c.look_up.ensures c.in_ok-at.was

pub returns-in_err-at : goal.returns-in_err-at
unfolding context_of effect stored with_registers
returns-in_err-at c = let p = err_from_is_err_and c.from_residual.result c.from_residual.ensures.1 in store-refused (joined c.args.core c.args.regs.now) c.args.memory.now c.args.pages.now c.args.n (path-user c.args.n 3 c.requires.1 (omega arith)) (path-reads c.args.n 3 0 1 c.requires.1 (omega arith) refl refl refl refl refl c.args.regs.now) _ _ c.requires.0.key-is c.requires.0.group-is ((path-writes c.args.n 3 0 1 c.requires.1 (omega arith) refl refl refl refl refl c.args.regs.now) ∙ ap (λ b. span_from c.args.n.address (cond b 1 0)) (some_words (in_memory (mode_of c.args.n.form)) 0 _ (path-stored c.args.n (omega (arith, c.requires.1)) _ c.write_count.ensures.0 1 (path-store c.args.n 3 c.requires.1 (omega arith) 1 refl)) (omega (arith, c.if-write_count-eq0.false)))) _ c.look_up.ensures _ _ _ c.in_err-at.was (p.1 ∙ ap Err p.2) refl

pub returns : goal.returns
unfolding context_of effect stored with_registers
returns c = store-done (joined c.args.core c.args.regs.now) c.args.memory.now c.args.pages.now c.args.n (path-user c.args.n 3 c.requires.1 (omega arith)) (path-reads c.args.n 3 0 1 c.requires.1 (omega arith) refl refl refl refl refl c.args.regs.now) _ _ c.requires.0.key-is c.requires.0.group-is ((path-writes c.args.n 3 0 1 c.requires.1 (omega arith) refl refl refl refl refl c.args.regs.now) ∙ ap (λ b. span_from c.args.n.address (cond b 1 0)) (some_words (in_memory (mode_of c.args.n.form)) 0 _ (path-stored c.args.n (omega (arith, c.requires.1)) _ c.write_count.ensures.0 1 (path-store c.args.n 3 c.requires.1 (omega arith) 1 refl)) (omega (arith, c.if-write_count-eq0.false)))) _ c.look_up.ensures _ _ (stored (context_of (joined c.args.core c.args.regs.now)) c.args.n c.word_stored.result 0 0) _ _ _ c.in_ok-at.was refl (does-store c.args.n c.requires.1 _ _ ∙ ap (λ x. stored (context_of (joined c.args.core c.args.regs.now)) c.args.n x 0 0) (sym c.word_stored.ensures)) refl (c.done-2.ensures c.args.regs.now (stored (context_of (joined c.args.core c.args.regs.now)) c.args.n c.word_stored.result 0 0) (sym c.following-next.ensures) (sym c.cs_of-cs.ensures) refl)
