-- The MIL-STD-1750A as an instruction set of the machine. Assumes nothing.
use Rattle.std.specs.Prelude.{ℕ, false, cond, eqb}
use Rattle.choice.specs.Select.{select}
use Rattle.decode.specs.Forms.{privileged_operations}
use Rattle.decode.specs.Decode.{decode_of}
use Rattle.machine.specs.declared.Class.{Class}
use Rattle.machine.specs.declared.Class.TheVariants.{User, Supervisor, Executive}
use Rattle.machine.specs.State.{Processor}
use Rattle.machine.specs.Machine.{Isa}
use Rattle.isa.specs.Addressing.{derived_from}
use Rattle.isa.specs.Accesses.{reads_of, writes_of}
use Rattle.isa.specs.Effects.{Context}
use Rattle.isa.specs.Execute.{executed}
use Rattle.isa.specs.Commands.{supervised_by}

-- BEX (5.30) calls the executive; XIO and LST are privileged
unfoldable pub class_of : ℕ → Class
class_of operation = cond (eqb operation 30) Executive (cond (select operation privileged_operations false) Supervisor User)

-- what a user's operation sees of the processor
unfoldable pub context_of : Processor → Context
context_of p = record { regs = p.regs; sw = p.core.sw; pi = p.core.pi }

unfoldable pub mil1750 : Isa
mil1750 =
    record {
      decode = decode_of;
      class = class_of;
      base = λ mode p first second. derived_from mode p.regs p.core.ic first second;
      reads = reads_of;
      writes = writes_of;
      execute = λ p n ws. executed (context_of p) n ws;
      supervise = supervised_by;
    }
