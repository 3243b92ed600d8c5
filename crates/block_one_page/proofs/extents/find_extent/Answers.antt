-- The answers to the goals of `block_one_page::extents::find_extent`. Assumes nothing.
use Rattle.page.proofs.ReachLaws.{located-inside}
use native.Mathlib.Omega.{arith}
use Rattle.block_one_page.proofs.extents.find_extent.Goals as goal

pub overflow_sub-size : goal.overflow_sub-size
overflow_sub-size c = omega (arith, located-inside _ _ _ _ _ _ _ _ c.look_up-place.ensures c.in-Ok.is)
