-- The answers to the goals of `block_one_page::here::try_load`. Assumes nothing.
use Rattle.block_one_page.proofs.HereLaws.{extent-found, loaded-here}
use Rattle.machine.specs.State.{joined}
use mathlib.Core.Path.{refl}
use Rattle.block_one_page.proofs.here.try_load.Goals as goal

pub load_multiple-requires : goal.load_multiple-requires
load_multiple-requires c = rw (← c.field_a-count.ensures.0) (extent-found _ _ _ _ _ _ _ _ _ c.find_extent.ensures c.in_ok-p.was).2

pub returns : goal.returns
returns c = loaded-here (joined c.args.core c.args.regs.now) c.args.memory.now c.args.pages.now c.args.n c.requires.1 c.in_ok-p.p (rw (← c.requires.0.key-is, ← c.requires.0.group-is, ← c.field_a-count.ensures.0) (extent-found _ _ _ _ _ _ _ _ _ c.find_extent.ensures c.in_ok-p.was)) _ _ c.load_multiple.ensures refl
