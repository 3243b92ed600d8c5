-- The answers to the goals of `block_one_page::here::try_pop`. Assumes nothing.
use Rattle.block_one_page.proofs.HereLaws.{extent-found, popped-here}
use Rattle.machine.specs.State.{joined}
use mathlib.Core.Path.{refl}
use Rattle.block_one_page.proofs.here.try_pop.Goals as goal

pub pop_multiple-requires : goal.pop_multiple-requires
pop_multiple-requires c = rw (← c.field_a.ensures.0, ← c.field_b.ensures.0, ← c.registers_from-count.ensures.0) (extent-found _ _ _ _ _ _ _ _ _ c.find_extent.ensures c.in_ok-p.was).2

pub returns : goal.returns
returns c = popped-here (joined c.args.core c.args.regs.now) c.args.memory.now c.args.pages.now c.args.n c.requires.1 c.in_ok-p.p (rw (← c.requires.0.key-is, ← c.requires.0.group-is, ← c.field_a.ensures.0, ← c.field_b.ensures.0, ← c.registers_from-count.ensures.0, ← c.get.ensures) (extent-found _ _ _ _ _ _ _ _ _ c.find_extent.ensures c.in_ok-p.was)) _ _ c.pop_multiple.ensures refl
