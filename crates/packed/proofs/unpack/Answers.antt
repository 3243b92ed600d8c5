-- The answers to the goals of `packed::unpack`. Assumes nothing.
use Rattle.std.proofs.Common.{refl}
use Rattle.packed.proofs.PackLaws.{from_parts}
use Rattle.packed.specs.Packed.{marked}
use Rattle.packed.proofs.unpack.Goals as goal

pub returns : goal.returns
unfolding marked
returns c = from_parts _ _ (record { regs-is = c.copy_from_slice.ensures.after; ic-is = refl; sw-is = refl; mk-is = refl; pi-is = refl; ft-is = refl; mfs-is = refl; enabled-is = c.marked.ensures; hold-is = c.marked-2.ensures; taon-is = c.marked-3.ensures; tbon-is = c.marked-4.ensures; ta-is = refl; tb-is = refl; rema-is = refl; remb-is = refl; count-is = rw (c.from.ensures, c.from-2.ensures) refl })
