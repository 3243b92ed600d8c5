-- The answers to the goals of `image_load::write_control`. Assumes nothing.
use Rattle.std.proofs.Common.{refl}
use Rattle.image.specs.Image.{control_of, with_control}
use Rattle.machine.specs.State.{with_ic, with_sw, with_mk, with_pi, with_faults, with_ft}
use Rattle.image_load.proofs.write_control.Goals as goal

pub returns : goal.returns
unfolding with_ic with_sw with_mk with_pi with_ft with_faults control_of with_control
returns c = rw (← c.write_words.ensures) refl
