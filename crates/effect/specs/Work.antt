-- What an operation on at most three words does, as the code keeps it. Assumes nothing.
use Rattle.std.specs.Prelude.{ℕ, List, [], ◌∷◌}
use Rattle.machine.specs.Machine.{Effect}
use Rattle.isa.specs.Fields.{with_registers}
use Rattle.isa.specs.Effects.{Context}
use Rattle.effect.specs.declared.Before.{Before}
use Rattle.effect.specs.declared.Registers.{Registers}
use Rattle.effect.specs.declared.Registers.TheVariants.{Kept, One, Two, Three}
use Rattle.effect.specs.declared.Work.{Work}

-- what the operation sees: registers, SW and PI
abbrev pub context : List ℕ → ℕ → ℕ → Context
context regs sw pi = record { regs = regs; sw = sw; pi = pi }

-- the same, from what the code hands on
abbrev pub seen : List ℕ → Before → Context
seen regs b = context regs b.sw b.pi

-- the first register that gets a value, and the values
abbrev pub first_of : Registers → ℕ
first_of Kept = 0
first_of (One k x) = k
first_of (Two k x y) = k
first_of (Three k x y z) = k

abbrev pub values_of : Registers → List ℕ
values_of Kept = []
values_of (One k x) = x ∷ []
values_of (Two k x y) = x ∷ y ∷ []
values_of (Three k x y z) = x ∷ y ∷ z ∷ []

-- the registers after it: values go to the first register and those after it
unfoldable pub filled : List ℕ → Work → List ℕ
filled regs e = with_registers regs (first_of e.registers) (values_of e.registers)

-- the effect that it has on the registers
unfoldable pub worked : List ℕ → Work → Effect
worked regs e = record { regs = filled regs e; ic = e.ic; cs = e.cs; pi = e.pi; words = e.words }
