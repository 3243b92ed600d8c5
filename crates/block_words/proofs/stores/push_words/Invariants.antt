-- What the loop keeps, of `block_words::stores::push_words`. Assumes nothing.
use Rattle.std.proofs.Common.{◌≡◌, ◌-◌}
use Rattle.std.proofs.lemmas.List.Edits.{sets}
use Rattle.isa.specs.Blocks.{pushed_from}
use Rattle.block_words.proofs.stores.push_words.Given as goal

abbrev pub invariant-loop-i : goal.invariant-loop-i
invariant-loop-i l = sets l.initial.buf 0 (pushed_from l.regs l.b l.k 0) ≡ sets l.buf l.i (pushed_from l.regs l.b (l.k - l.i) l.i)
