-- A permitted instruction whose second word is 0 where it has none. Assumes nothing.
use Rattle.std.proofs.Common.{Ok}
use Prim.Native.Nat.{ℕ}
use mathlib.Core.Path.{◌≡◌, refl}
use mathlib.Core.Bool.{Bool, true, false, cond}
use Rattle.machine.specs.State.{Processor, advanced}
use Rattle.machine.specs.Machine.{Isa}
use Rattle.machine.specs.Instructions.{View, extended, granted}

pub granted-second : (isa : Isa) (p : Processor) (v : View) (f w : ℕ) (l : Bool)
    → granted isa p v f w true l ≡ extended isa p v f w (cond l (v.fetch (advanced p.core 1)) (Ok 0))
unfolding granted extended
granted-second isa p v f w true = refl
granted-second isa p v f w false = refl
