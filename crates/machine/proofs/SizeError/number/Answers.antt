-- The answers to the goals of `machine::SizeError::number`. Assumes nothing.
use Rattle.std.proofs.Common.{refl}
use Rattle.machine.specs.Runs.{size_number}
use Rattle.machine.proofs.SizeError.number.Goals as goal

pub returns-in-BadMemory : goal.returns-in-BadMemory
unfolding size_number
returns-in-BadMemory c = rw c.in-BadMemory.is refl

pub returns-in-BadPages : goal.returns-in-BadPages
unfolding size_number
returns-in-BadPages c = rw c.in-BadPages.is refl

pub returns-in-BadPorts : goal.returns-in-BadPorts
unfolding size_number
returns-in-BadPorts c = rw c.in-BadPorts.is refl
