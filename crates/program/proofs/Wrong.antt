-- Wrong answers of the contract that users call, beside the right one, which the checker computes. Assumes nothing.
use Prim.Native.Nat.{ℕ}
use mathlib.Core.List.{List, [], ◌∷◌, ◌++◌}
use lib.Dec.{T}
use lib.ListN.{take, replicate}
use Rattle.choice.proofs.Rows.{Row, some, hold}
use Rattle.machine.proofs.Opened.{machinery}
use Rattle.isa.proofs.OpenWords.{words}
use Rattle.isa.proofs.OpenFloats.{floats}
use Rattle.isa.proofs.OpenDecoder.{decoder}
use Rattle.isa.proofs.OpenInstructions.{instructions}
use Rattle.image.proofs.Opened.{images}
use Rattle.text.specs.Texts.{digit, hex, leading, decimal}
use Rattle.report.specs.Report.{steps_line, named, control_line, registers, registers_line, report_of, refusal_of}
use Rattle.program.specs.Printed.{unless, length_number, load_number, ran_text, printed}
use Rattle.program.proofs.Rows.{example}

-- opens the definitions of texts at once
unfoldable texts : Unit {0}
unfolding digit hex leading decimal steps_line named control_line registers registers_line report_of refusal_of unless length_number load_number ran_text printed
texts = tt

-- "refused 12", "refused 13"
abbrev refused12 : List ℕ
refused12 = 114 ∷ 101 ∷ 102 ∷ 117 ∷ 115 ∷ 101 ∷ 100 ∷ 32 ∷ 49 ∷ 50 ∷ 10 ∷ []

abbrev refused13 : List ℕ
refused13 = 114 ∷ 101 ∷ 102 ∷ 117 ∷ 115 ∷ 101 ∷ 100 ∷ 32 ∷ 49 ∷ 51 ∷ 10 ∷ []

pub rows : List Row
unfolding words floats decoder instructions machinery images texts
rows =
    -- text_for: an input that is too long is refused by 12; an input of 32,768 bytes is refused by its length
    some (printed (replicate 32768 0) ++ printed (replicate 32769 0)) (refused12 ++ refused13) (refused12 ++ refused12) (refused13 ++ refused13)
    -- text_for: the report shows the state before the run; 1,000 steps are run, and 999 are reported
    ∷ some (take 18 (printed example))
    (115 ∷ 116 ∷ 101 ∷ 112 ∷ 115 ∷ 32 ∷ 49 ∷ 48 ∷ 48 ∷ 48 ∷ 10 ∷ 105 ∷ 99 ∷ 32 ∷ 48 ∷ 48 ∷ 48 ∷ 49 ∷ [])
    (115 ∷ 116 ∷ 101 ∷ 112 ∷ 115 ∷ 32 ∷ 49 ∷ 48 ∷ 48 ∷ 48 ∷ 10 ∷ 105 ∷ 99 ∷ 32 ∷ 48 ∷ 48 ∷ 48 ∷ 48 ∷ [])
    (115 ∷ 116 ∷ 101 ∷ 112 ∷ 115 ∷ 32 ∷ 57 ∷ 57 ∷ 57 ∷ 10 ∷ 105 ∷ 99 ∷ 32 ∷ 48 ∷ 48 ∷ 48 ∷ 49 ∷ 32 ∷ [])
    ∷ []

pub rows-hold : T (hold rows)
unfolding rows words floats decoder instructions machinery images texts
rows-hold = tt
