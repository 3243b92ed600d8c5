-- Two wrong answers of each contract that other crates call, beside the right one, which the checker computes. Assumes nothing.
use Prim.Native.Nat.{ℕ}
use mathlib.Core.Bool.{true, false}
use mathlib.Core.List.{List, [], ◌∷◌}
use lib.Dec.{T, eqb}
use Rattle.choice.proofs.Rows.{Row, some, hold, flag}
use Rattle.page.specs.Pages.{refusal}
use Rattle.machine.specs.declared.Core.{Core}
use Rattle.machine.specs.Step.{faulted}
use Rattle.machine.proofs.Opened.{machinery}
use Rattle.instruction_retired.specs.declared.Retired.{Retired}
use Rattle.instruction_retired.specs.declared.TimerCommand.{TimerCommand}
use Rattle.std.specs.Prelude.{Option, Some, None, ◌++◌}
use Rattle.instruction_retired.specs.Settled.{retired_with}

abbrev c : Core
c = record { ic = 0x0100; sw = 0; mk = 0; pi = 0x0400; faults = record { ft = 0x0100; mfs = 0xC005 }; enabled = true; hold = false }

-- a timer command and its first word, where one is left to do
abbrev left : Option TimerCommand → List ℕ
left None = []
left (Some t) = t.command ∷ t.first ∷ []

-- settled, what is left to do; IC, PI, FT and the memory fault status of the core
abbrev shown : Retired → List ℕ
shown v = flag v.settled ∷ left v.timer ++ v.core.ic ∷ v.core.pi ∷ v.core.faults.ft ∷ v.core.faults.mfs ∷ []

pub rows : List Row
unfolding machinery
rows =
    -- unsettled: settled; a timer command left to do
    some (shown (retired_with false c)) (0 ∷ 0x0100 ∷ 0x0400 ∷ 0x0100 ∷ 0xC005 ∷ []) (1 ∷ 0x0100 ∷ 0x0400 ∷ 0x0100 ∷ 0xC005 ∷ []) (0 ∷ 0x4008 ∷ 0 ∷ 0x0100 ∷ 0x0400 ∷ 0x0100 ∷ 0xC005 ∷ [])
    -- weighed: settled where PI was 0500; the old PI kept
    ∷ some (shown (retired_with (eqb c.pi 0x0500) c)) (0 ∷ 0x0100 ∷ 0x0400 ∷ 0x0100 ∷ 0xC005 ∷ []) (1 ∷ 0x0100 ∷ 0x0400 ∷ 0x0100 ∷ 0xC005 ∷ []) (0 ∷ 0x0100 ∷ 0x0500 ∷ 0x0100 ∷ 0xC005 ∷ [])
    -- deny: the memory fault status as IC; PI kept
    ∷ some (shown (retired_with false (faulted c (refusal 0x0080 0x1003) 0x0102)))
    (0 ∷ 0x0102 ∷ 0x4400 ∷ 0x0180 ∷ 0x1003 ∷ []) (0 ∷ 0x1003 ∷ 0x4400 ∷ 0x0180 ∷ 0x0102 ∷ []) (0 ∷ 0x0102 ∷ 0x0400 ∷ 0x0180 ∷ 0x1003 ∷ [])
    ∷ []

pub rows-hold : T (hold rows)
unfolding rows machinery
rows-hold = tt
