-- Known texts, computed: the Scope's report and refusal byte for byte. Assumes nothing.
use Prim.Native.Nat.{ℕ}
use mathlib.Core.List.{List, [], ◌∷◌, ◌++◌}
use mathlib.Core.Path.{◌≡◌, refl}
use Rattle.machine.specs.declared.State.{State}
use Rattle.machine.proofs.Opened.{machinery}
use Rattle.machine.proofs.Samples.{state_at, steps_on}
use Rattle.text.specs.Texts.{digit, hex, leading, decimal}
use Rattle.report.specs.Report.{steps_line, named, control_line, registers, registers_line, report_of, refusal_of}

-- the Scope's example after its 1,000 steps: R3 = 0010, IC 0001, SW 4000 (the report shows neither marks, timers nor counter)
abbrev example : State
example = steps_on 1000 (state_at (0 ∷ 0 ∷ 0 ∷ 16 ∷ 0 ∷ 0 ∷ 0 ∷ 0 ∷ 0 ∷ 0 ∷ 0 ∷ 0 ∷ 0 ∷ 0 ∷ 0 ∷ 0 ∷ []) 1 0x4000)

-- "steps 1000"
abbrev pub line1 : List ℕ
line1 = 115 ∷ 116 ∷ 101 ∷ 112 ∷ 115 ∷ 32 ∷ 49 ∷ 48 ∷ 48 ∷ 48 ∷ 10 ∷ []

-- "ic 0001 sw 4000 mk 0000 pi 0000 ft 0000"
abbrev pub line2 : List ℕ
line2 = 105 ∷ 99 ∷ 32 ∷ 48 ∷ 48 ∷ 48 ∷ 49 ∷ 32 ∷ 115 ∷ 119 ∷ 32 ∷ 52 ∷ 48 ∷ 48 ∷ 48 ∷ 32 ∷ 109 ∷ 107 ∷ 32 ∷ 48 ∷ 48 ∷ 48 ∷ 48 ∷ 32 ∷ 112 ∷ 105 ∷ 32 ∷ 48 ∷ 48 ∷ 48 ∷ 48 ∷ 32 ∷ 102 ∷ 116 ∷ 32 ∷ 48 ∷ 48 ∷ 48 ∷ 48 ∷ 10 ∷ []

-- "r0 0000 0000 0000 0010 0000 0000 0000 0000"
abbrev pub line3 : List ℕ
line3 = 114 ∷ 48 ∷ 32 ∷ 48 ∷ 48 ∷ 48 ∷ 48 ∷ 32 ∷ 48 ∷ 48 ∷ 48 ∷ 48 ∷ 32 ∷ 48 ∷ 48 ∷ 48 ∷ 48 ∷ 32 ∷ 48 ∷ 48 ∷ 49 ∷ 48 ∷ 32 ∷ 48 ∷ 48 ∷ 48 ∷ 48 ∷ 32 ∷ 48 ∷ 48 ∷ 48 ∷ 48 ∷ 32 ∷ 48 ∷ 48 ∷ 48 ∷ 48 ∷ 32 ∷ 48 ∷ 48 ∷ 48 ∷ 48 ∷ 10 ∷ []

-- "r8 0000 0000 0000 0000 0000 0000 0000 0000"
abbrev pub line4 : List ℕ
line4 = 114 ∷ 56 ∷ 32 ∷ 48 ∷ 48 ∷ 48 ∷ 48 ∷ 32 ∷ 48 ∷ 48 ∷ 48 ∷ 48 ∷ 32 ∷ 48 ∷ 48 ∷ 48 ∷ 48 ∷ 32 ∷ 48 ∷ 48 ∷ 48 ∷ 48 ∷ 32 ∷ 48 ∷ 48 ∷ 48 ∷ 48 ∷ 32 ∷ 48 ∷ 48 ∷ 48 ∷ 48 ∷ 32 ∷ 48 ∷ 48 ∷ 48 ∷ 48 ∷ 32 ∷ 48 ∷ 48 ∷ 48 ∷ 48 ∷ 10 ∷ []

-- the Scope's four lines
abbrev pub example_lines : List ℕ
example_lines = line1 ++ (line2 ++ (line3 ++ line4))

example-lines : report_of 1000 example ≡ example_lines
unfolding machinery digit hex leading decimal steps_line named control_line registers registers_line report_of
example-lines = refl

-- "refused 13"
refused-13 : refusal_of 13 ≡ 114 ∷ 101 ∷ 102 ∷ 117 ∷ 115 ∷ 101 ∷ 100 ∷ 32 ∷ 49 ∷ 51 ∷ 10 ∷ []
unfolding leading decimal refusal_of
refused-13 = refl
