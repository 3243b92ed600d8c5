-- The answers to the goals of `block_registers::registers::load_all`. Assumes nothing.
use Rattle.std.proofs.Common.{◌≡◌, ◌+◌, ◌-◌, ◌≤◌, take, drop, length, length-drop, arith}
use Rattle.std.proofs.lemmas.List.{length-take-le}
use Rattle.block_registers.proofs.BlockLaws.{loaded}
use Rattle.block_registers.proofs.registers.load_all.Goals as goal

pub returns : goal.returns
returns c =
    let n = c.field_a.result + 1 in
    let ws = drop c.args.p c.args.words.now in
    let fits : n ≤ length ws = omega (arith, length-drop c.args.p c.args.words.now) in
    let all : c.args.p + n - c.args.p ≡ n = omega arith in
    let copied = rw all at c.copy_from_slice.ensures.after in
    rw (copied, ← c.field_a.ensures.0) (loaded c.args.regs.now (take n ws) n c.told-regs (length-take-le n ws fits) (omega arith))
