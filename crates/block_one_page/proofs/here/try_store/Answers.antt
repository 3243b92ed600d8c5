-- The answers to the goals of `block_one_page::here::try_store`. Assumes nothing.
use Rattle.block_one_page.proofs.HereLaws.{extent-found, stored_here}
use Rattle.isa.specs.Blocks.{stored_all}
use Rattle.isa.specs.Mil1750.{context_of}
use Rattle.machine.specs.State.{joined}
use native.Mathlib.Omega.{arith}
use Rattle.block_one_page.proofs.here.try_store.Goals as goal

pub store_extent-requires : goal.store_extent-requires
store_extent-requires c = (omega (arith, c.field_a-count.ensures.1), (extent-found _ _ _ _ _ _ _ _ _ c.find_extent.ensures c.in_ok-p.was).2)

pub returns : goal.returns
unfolding stored_all context_of
returns c = stored_here (joined c.args.core c.args.regs.now) c.args.memory.now c.args.pages.now c.args.n c.requires.1 c.in_ok-p.p (rw (← c.requires.0.key-is, ← c.requires.0.group-is, ← c.field_a-count.ensures.0) (extent-found _ _ _ _ _ _ _ _ _ c.find_extent.ensures c.in_ok-p.was)) _ _ (c.proceed.ensures _ _ _) (rw (← c.field_a-count.ensures.0) c.store_extent.ensures)
