-- The program's text (Scope, "The program"): the report of a run, and a refusal. A text is the list of its bytes. Assumes nothing.
use Rattle.std.specs.Prelude.{ℕ, zero, suc, ◌+◌, List, [], ◌∷◌, ◌++◌, get_or}
use Rattle.machine.specs.declared.State.{State}
use Rattle.machine.specs.declared.Core.{Core}
use Rattle.text.specs.Texts.{newline, blank, digit, hex, decimal}

-- ---- the report, line by line

-- the steps of this run, after the word "steps "
unfoldable pub steps_line : ℕ → List ℕ
steps_line n = (115 ∷ 116 ∷ 101 ∷ 112 ∷ 115 ∷ 32 ∷ []) ++ (decimal n ++ (newline ∷ []))

-- a register after its name, and what ends it
unfoldable pub named : List ℕ → ℕ → ℕ → List ℕ
named name w end = name ++ (hex w ++ (end ∷ []))

-- five registers by name: "ic ", "sw ", "mk ", "pi ", "ft "
unfoldable pub control_line : Core → List ℕ
control_line c =
    named (105 ∷ 99 ∷ 32 ∷ []) c.ic blank
    ++ (named (115 ∷ 119 ∷ 32 ∷ []) c.sw blank
    ++ (named (109 ∷ 107 ∷ 32 ∷ []) c.mk blank
    ++ (named (112 ∷ 105 ∷ 32 ∷ []) c.pi blank
    ++ named (102 ∷ 116 ∷ 32 ∷ []) c.faults.ft newline)))

-- n general registers from the given one on, each after a blank
unfoldable pub registers : List ℕ → ℕ → ℕ → List ℕ
registers regs first zero = []
registers regs first (suc n) = registers regs first n ++ (blank ∷ hex (get_or regs (first + n) 0))

-- eight of them after the name of the first: "r0" or "r8"
unfoldable pub registers_line : List ℕ → ℕ → List ℕ
registers_line regs first = 114 ∷ digit first ∷ (registers regs first 8 ++ (newline ∷ []))

unfoldable pub report_of : ℕ → State → List ℕ
report_of steps s = steps_line steps ++ (control_line s.core ++ (registers_line s.regs 0 ++ registers_line s.regs 8))

-- ---- a refusal: its number after the word "refused "

unfoldable pub refusal_of : ℕ → List ℕ
refusal_of n = (114 ∷ 101 ∷ 102 ∷ 117 ∷ 115 ∷ 101 ∷ 100 ∷ 32 ∷ []) ++ (decimal n ++ (newline ∷ []))
