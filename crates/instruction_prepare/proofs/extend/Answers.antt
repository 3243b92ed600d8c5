-- The answers to the goals of `instruction_prepare::extend`. Assumes nothing.
use Rattle.std.proofs.Common.{Err, ap}
use Rattle.instruction_prepare.proofs.PrepareLaws.{granted-second}
use Rattle.machine.specs.Instructions.{extended}
use Rattle.machine.specs.State.{advanced}
use mathlib.Core.Path.{refl}
use Rattle.instruction_prepare.proofs.extend.Goals as goal

pub second_word-second-requires : goal.second_word-second-requires
second_word-second-requires c = (c.requires.0.group-small, c.requires.1)

pub returns-in-Ok : goal.returns-in-Ok
unfolding extended advanced
returns-in-Ok c = rw (granted-second _ _ _ _ _ _, ← c.requires.0.key-is, ← c.requires.0.group-is, ← c.second_word-second.ensures, c.in-Ok.is, c.requires.0.key-is, c.requires.0.group-is) c.derive.ensures

pub returns-in-Err : goal.returns-in-Err
unfolding extended advanced
returns-in-Err c = rw (granted-second _ _ _ _ _ _, ← c.requires.0.key-is, ← c.requires.0.group-is, ← c.second_word-second.ensures, c.in-Err.is, ← c.advance.ensures) (ap Err c.denied.ensures)
