-- The answers to the goals of `block_one_page::here::try_move`. Assumes nothing.
use Rattle.block_one_page.proofs.HereLaws.{moved_here}
use Rattle.machine.specs.State.{joined}
use Rattle.page.proofs.ReachLaws.{located-inside}
use borrow.Author.Tests.{ne_eqb}
use mathlib.Core.Path.{refl, sym, ◌∙◌}
use Rattle.std.proofs.Common.{rules}
use Rattle.block_one_page.proofs.here.try_move.Goals as goal

pub offset_bounds-memory-p : goal.offset_bounds-memory-p
offset_bounds-memory-p c = let l = located-inside _ _ _ _ _ _ _ _ c.look_up-from.ensures c.in-Ok.is in search rules

pub offset_bounds-memory-q : goal.offset_bounds-memory-q
offset_bounds-memory-q c = let l = located-inside _ _ _ _ _ _ _ _ c.look_up-to.ensures c.in-Ok-to.is in search rules

pub bounds-memory-p : goal.bounds-memory-p
bounds-memory-p c = located-inside _ _ _ _ _ _ _ _ c.look_up-from.ensures c.in-Ok.is

pub bounds-memory-q : goal.bounds-memory-q
bounds-memory-q c = located-inside _ _ _ _ _ _ _ _ c.look_up-to.ensures c.in-Ok-to.is

pub returns : goal.returns
returns c = moved_here (joined c.args.core c.args.regs.now) c.args.memory.now c.args.pages.now c.args.n c.requires.1 (rw (← c.field_a-a.ensures.0, ← c.get.ensures) (ne_eqb _ _ c.if-get-eq0.false)) _ _ (rw (← c.requires.0.key-is, ← c.requires.0.group-is, ← c.field_b.ensures.0, ← c.get-2.ensures) (sym c.look_up-from.ensures ∙ c.in-Ok.is)) (rw (← c.requires.0.key-is, ← c.requires.0.group-is, ← c.field_a-a.ensures.0, ← c.get-3.ensures) (sym c.look_up-to.ensures ∙ c.in-Ok-to.is)) _ _ (c.move_word.ensures _) refl
