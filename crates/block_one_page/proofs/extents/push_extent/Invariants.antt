-- What the loop keeps, of `block_one_page::extents::push_extent`. Assumes nothing.
use Rattle.std.proofs.Common.{◌≡◌, ◌-◌}
use Rattle.isa.specs.Blocks.{pushed_from}
use Rattle.block_one_page.proofs.HereLaws.{downwards}
use Rattle.block_one_page.specs.Extents.{stored_at}
use Rattle.block_one_page.proofs.extents.push_extent.Given as goal

abbrev pub invariant-loop-i : goal.invariant-loop-i
invariant-loop-i l = stored_at (downwards l.p) (pushed_from l.regs l.b l.count 0) l.count 0 l.initial.memory ≡ stored_at (downwards l.p) (pushed_from l.regs l.b l.count 0) (l.count - l.i) l.i l.memory
