-- The answers to the goals of `image::Target::size`. Assumes nothing.
use Rattle.std.proofs.Common.{refl}
use Rattle.image.specs.Image.{target_size}
use Rattle.image.proofs.Target.size.Goals as goal

pub returns-in-Memory : goal.returns-in-Memory
unfolding target_size
returns-in-Memory c = rw c.in-Memory.is refl

pub returns-in-Pages : goal.returns-in-Pages
unfolding target_size
returns-in-Pages c = rw c.in-Pages.is refl

pub returns-in-Registers : goal.returns-in-Registers
unfolding target_size
returns-in-Registers c = rw c.in-Registers.is refl

pub returns-in-Control : goal.returns-in-Control
unfolding target_size
returns-in-Control c = rw c.in-Control.is refl
