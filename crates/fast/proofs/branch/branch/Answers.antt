-- The answers to the goals of `fast::branch::branch`. Assumes nothing.
use Rattle.decode.specs.Forms.{mode_of}
use Rattle.fast_accumulate.proofs.EndLaws.{idle-done}
use Rattle.fast_accumulate.proofs.PathLaws.{path-user, path-reads, path-writes, does-branch}
use Rattle.fast_accumulate.specs.Paths.{is_taken}
use Rattle.isa.specs.Addressing.{in_memory}
use Rattle.isa.specs.Effects.{effect, jumped}
use Rattle.isa.specs.Fields.{with_registers}
use Rattle.isa.specs.Mil1750.{context_of}
use Rattle.machine.specs.State.{cs_of, joined}
use Rattle.std.proofs.Common.{◌≡◌, true, false, sym, refl, ap, ◌∙◌, arith}
use Rattle.fast.proofs.branch.branch.Goals as goal

pub returns-then-is_taken : goal.returns-then-is_taken
unfolding context_of effect jumped with_registers
returns-then-is_taken c = let t : is_taken c.args.n (cs_of c.args.core.sw) ≡ true = rw (← c.cs_of-cs.ensures, ← c.is_taken.ensures) c.if-is_taken.true in λ regs memory pages. idle-done (joined c.args.core regs) memory pages c.args.n (path-user c.args.n 4 c.requires (omega arith)) (path-reads c.args.n 4 0 0 c.requires (omega arith) refl refl refl refl refl regs) (in_memory (mode_of c.args.n.form)) (path-writes c.args.n 4 0 0 c.requires (omega arith) refl refl refl refl refl regs) (jumped (context_of (joined c.args.core regs)) c.args.n true) _ _ _ (does-branch c.args.n c.requires _ _ ∙ ap (λ b. jumped (context_of (joined c.args.core regs)) c.args.n b) t) refl (c.done.ensures regs (jumped (context_of (joined c.args.core regs)) c.args.n true) refl (sym c.cs_of-cs.ensures) refl)

pub returns : goal.returns
unfolding context_of effect jumped with_registers
returns c = let t : is_taken c.args.n (cs_of c.args.core.sw) ≡ false = rw (← c.cs_of-cs.ensures, ← c.is_taken.ensures) c.if-is_taken.false in λ regs memory pages. idle-done (joined c.args.core regs) memory pages c.args.n (path-user c.args.n 4 c.requires (omega arith)) (path-reads c.args.n 4 0 0 c.requires (omega arith) refl refl refl refl refl regs) (in_memory (mode_of c.args.n.form)) (path-writes c.args.n 4 0 0 c.requires (omega arith) refl refl refl refl refl regs) (jumped (context_of (joined c.args.core regs)) c.args.n false) _ _ _ (does-branch c.args.n c.requires _ _ ∙ ap (λ b. jumped (context_of (joined c.args.core regs)) c.args.n b) t) refl (c.done-2.ensures regs (jumped (context_of (joined c.args.core regs)) c.args.n false) (sym c.following.ensures) (sym c.cs_of-cs.ensures) refl)
