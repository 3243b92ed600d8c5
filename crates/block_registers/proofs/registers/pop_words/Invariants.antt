-- What the loop keeps, of `block_registers::registers::pop_words`. Assumes nothing.
use Rattle.std.proofs.Common.{◌≡◌, ◌-◌, drop}
use Rattle.isa.specs.Blocks.{popped_from}
use Rattle.block_registers.proofs.registers.pop_words.Given as goal

abbrev pub invariant-loop-i : goal.invariant-loop-i
invariant-loop-i l = popped_from l.a (drop l.p l.words) l.k 0 l.initial.regs ≡ popped_from l.a (drop l.p l.words) (l.k - l.i) l.i l.regs
