-- The answers to the goals of `block_one_page::extents::store_extent`. Assumes nothing.
use Rattle.std.proofs.Common.{◌≡◌, ◌≤◌, ◌+◌, ◌-◌, length, arith}
use Rattle.block_one_page.proofs.HereLaws.{stored-copied}
use Rattle.block_one_page.proofs.extents.store_extent.Goals as goal

pub returns : goal.returns
returns c =
    let all : c.args.p + c.args.count - c.args.p ≡ c.args.count = omega arith in
    let fits : c.args.count ≤ length c.args.regs.now = omega (arith, c.told-regs) in
    rw (all, c.copy_from_slice.ensures.after) (stored-copied c.args.p c.args.regs.now c.args.count c.args.memory.now fits (omega arith))
