-- What the program prints, computed: for the sixteen bytes of the Scope's example, for no bytes, for no entries, and for one byte. Assumes nothing.
use Prim.Native.Nat.{ℕ}
use mathlib.Core.List.{List, [], ◌∷◌, ◌++◌}
use mathlib.Core.Path.{◌≡◌, refl}
use Rattle.machine.proofs.Opened.{machinery}
use Rattle.isa.proofs.OpenWords.{words}
use Rattle.isa.proofs.OpenFloats.{floats}
use Rattle.isa.proofs.OpenDecoder.{decoder}
use Rattle.isa.proofs.OpenInstructions.{instructions}
use Rattle.image.proofs.Opened.{images}
use Rattle.text.specs.Texts.{digit, hex, leading, decimal}
use Rattle.report.specs.Report.{steps_line, named, control_line, registers, registers_line, report_of, refusal_of}
use Rattle.report.proofs.Rows.{line1, line4, example_lines}
use Rattle.program.specs.Printed.{unless, length_number, load_number, ran_text, printed}

-- one entry: the words 823F, 7900 from word 0 of memory on
abbrev pub example : List ℕ
example = 0 ∷ 1 ∷ 0 ∷ 1 ∷ 0 ∷ 0 ∷ 0 ∷ 0 ∷ 0 ∷ 0 ∷ 0 ∷ 2 ∷ 130 ∷ 63 ∷ 121 ∷ 0 ∷ []

-- the Scope's four lines
example-lines : printed example ≡ example_lines
unfolding words floats decoder instructions machinery digit hex leading decimal steps_line named control_line registers registers_line report_of refusal_of unless length_number load_number ran_text printed images
example-lines = refl

-- the text of the reset machine after 1,000 steps: "ic 03E8 sw 2000 mk 0000 pi 0000 ft 0000", and registers of 0
abbrev bare_control : List ℕ
bare_control = 105 ∷ 99 ∷ 32 ∷ 48 ∷ 51 ∷ 69 ∷ 56 ∷ 32 ∷ 115 ∷ 119 ∷ 32 ∷ 50 ∷ 48 ∷ 48 ∷ 48 ∷ 32 ∷ 109 ∷ 107 ∷ 32 ∷ 48 ∷ 48 ∷ 48 ∷ 48 ∷ 32 ∷ 112 ∷ 105 ∷ 32 ∷ 48 ∷ 48 ∷ 48 ∷ 48 ∷ 32 ∷ 102 ∷ 116 ∷ 32 ∷ 48 ∷ 48 ∷ 48 ∷ 48 ∷ 10 ∷ []

abbrev bare_registers : List ℕ
bare_registers = 114 ∷ 48 ∷ 32 ∷ 48 ∷ 48 ∷ 48 ∷ 48 ∷ 32 ∷ 48 ∷ 48 ∷ 48 ∷ 48 ∷ 32 ∷ 48 ∷ 48 ∷ 48 ∷ 48 ∷ 32 ∷ 48 ∷ 48 ∷ 48 ∷ 48 ∷ 32 ∷ 48 ∷ 48 ∷ 48 ∷ 48 ∷ 32 ∷ 48 ∷ 48 ∷ 48 ∷ 48 ∷ 32 ∷ 48 ∷ 48 ∷ 48 ∷ 48 ∷ 32 ∷ 48 ∷ 48 ∷ 48 ∷ 48 ∷ 10 ∷ []

abbrev bare_lines : List ℕ
bare_lines = line1 ++ (bare_control ++ (bare_registers ++ line4))

bare-lines : printed [] ≡ bare_lines
unfolding words floats decoder instructions machinery digit hex leading decimal steps_line named control_line registers registers_line report_of refusal_of unless length_number load_number ran_text printed images
bare-lines = refl

-- the same for the two bytes of no entries
counted-lines : printed (0 ∷ 0 ∷ []) ≡ bare_lines
unfolding words floats decoder instructions machinery digit hex leading decimal steps_line named control_line registers registers_line report_of refusal_of unless length_number load_number ran_text printed images
counted-lines = refl

-- "refused 6" for one byte
byte-refused : printed (0 ∷ []) ≡ 114 ∷ 101 ∷ 102 ∷ 117 ∷ 115 ∷ 101 ∷ 100 ∷ 32 ∷ 54 ∷ 10 ∷ []
unfolding machinery digit hex leading decimal steps_line named control_line registers registers_line report_of refusal_of unless length_number load_number ran_text printed images
byte-refused = refl
