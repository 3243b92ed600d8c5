-- Two wrong answers of each contract that other crates call, beside the right one, which the checker computes. Assumes nothing.
use mathlib.Core.List.{List, [], ◌∷◌}
use lib.Dec.{T}
use lib.ListN.{take, drop}
use Rattle.choice.specs.Table.{table_of}
use Rattle.choice.proofs.Rows.{Row, some, hold}
use Rattle.machine.specs.declared.State.{State}
use Rattle.machine.proofs.Opened.{machinery}
use Rattle.machine.proofs.Samples.{state_at}
use Rattle.text.specs.Texts.{digit, hex, leading, decimal}
use Rattle.report.specs.Report.{steps_line, named, control_line, registers, registers_line, report_of}

-- each register holds its number
abbrev s : State
s = state_at (table_of (λ k. k) 0 16) 0 0

pub rows : List Row
unfolding machinery digit hex leading decimal steps_line named control_line registers registers_line report_of
rows =
    -- put_report: the steps counted from 0; the line of the steps left out
    some (take 8 (report_of 5 s))
    (115 ∷ 116 ∷ 101 ∷ 112 ∷ 115 ∷ 32 ∷ 53 ∷ 10 ∷ [])
    (115 ∷ 116 ∷ 101 ∷ 112 ∷ 115 ∷ 32 ∷ 52 ∷ 10 ∷ [])
    (105 ∷ 99 ∷ 32 ∷ 48 ∷ 48 ∷ 48 ∷ 48 ∷ 32 ∷ [])
    -- report: the line of R8 to R15 starts with R7; the line of R8 to R15 shows R0 to R7 again
    ∷ some (take 12 (drop 91 (report_of 5 s)))
    (114 ∷ 56 ∷ 32 ∷ 48 ∷ 48 ∷ 48 ∷ 56 ∷ 32 ∷ 48 ∷ 48 ∷ 48 ∷ 57 ∷ [])
    (114 ∷ 55 ∷ 32 ∷ 48 ∷ 48 ∷ 48 ∷ 55 ∷ 32 ∷ 48 ∷ 48 ∷ 48 ∷ 56 ∷ [])
    (114 ∷ 56 ∷ 32 ∷ 48 ∷ 48 ∷ 48 ∷ 48 ∷ 32 ∷ 48 ∷ 48 ∷ 48 ∷ 49 ∷ [])
    ∷ []

pub rows-hold : T (hold rows)
unfolding rows machinery digit hex leading decimal steps_line named control_line registers registers_line report_of
rows-hold = tt
