-- The words that an operation reads and those that it writes, by its paragraph of section 5: one span of each. Assumes nothing.
use Rattle.std.specs.Prelude.{ℕ, ◌+◌, ◌-◌, cond, List, [], ◌∷◌, eqb}
use Rattle.choice.specs.Select.{select}
use Rattle.page.specs.declared.Span.{Span}
use Rattle.page.specs.Spans.{wrapped}
use Rattle.decode.specs.Forms.{mode_of, operation_of}
use Rattle.machine.specs.declared.Instruction.{Instruction}
use Rattle.machine.specs.Machine.{span_from}
use Rattle.isa.specs.Fields.{field_a, field_b, register, registers_from}
use Rattle.isa.specs.Addressing.{in_memory}

-- how many words an operation reads at its derived address
unfoldable pub words_read : ℕ → ℕ
words_read operation =
    select operation
    ((3, 1) ∷ (4, 1) ∷ (5, 1) ∷ (6, 1) ∷
    (35, 3) ∷ (38, 1) ∷ (39, 2) ∷ (41, 3) ∷ (42, 1) ∷ (43, 1) ∷
    (49, 1) ∷ (52, 1) ∷ (53, 1) ∷
    (55, 1) ∷ (56, 1) ∷ (59, 2) ∷ (60, 2) ∷ (61, 3) ∷
    (63, 1) ∷ (64, 1) ∷ (67, 2) ∷ (68, 2) ∷ (69, 3) ∷
    (71, 1) ∷ (72, 1) ∷ (73, 2) ∷ (74, 2) ∷ (75, 3) ∷
    (76, 1) ∷ (77, 1) ∷ (78, 2) ∷ (79, 2) ∷ (80, 3) ∷
    (81, 1) ∷ (82, 1) ∷ (83, 1) ∷ (84, 1) ∷
    (91, 1) ∷ (92, 2) ∷ (93, 2) ∷ (94, 2) ∷ (95, 3) ∷
    [])
    0

-- how many words an operation writes at its derived address
unfoldable pub words_written : ℕ → ℕ
words_written operation =
    select operation
    ((3, 1) ∷ (4, 1) ∷ (6, 1) ∷
    (45, 1) ∷ (46, 1) ∷ (48, 2) ∷ (49, 1) ∷ (51, 3) ∷ (52, 1) ∷ (53, 1) ∷
    (56, 1) ∷ (64, 1) ∷
    [])
    0

-- the words at the derived address, where the mode's operand is in memory
unfoldable pub at_operand : Instruction → ℕ → Span
at_operand n k = span_from n.address (cond (in_memory (mode_of n.form)) k 0)

-- 5.40, 5.50: one word a register from R0 to RN
unfoldable pub all_from : Instruction → Span
all_from n = span_from n.address (field_a n.first + 1)

-- 5.44: the words from R15 on upwards, one a register from RA to RB; the one for R15 is passed over
unfoldable pub popped_span : List ℕ → Instruction → Span
popped_span regs n =
    record { start = register regs 15; count = registers_from (field_a n.first) (field_b n.first); stride = 1; hole = 15 - field_a n.first }

-- 5.54: the words below R15 downwards, one a register from RB to RA
unfoldable pub pushed_span : List ℕ → Instruction → Span
pushed_span regs n =
    record { start = wrapped (register regs 15 + 65535); count = registers_from (field_a n.first) (field_b n.first); stride = 65535; hole = 16 }

-- 5.47: one word at the address in register k, none when the count, in the register after RA, is 0
unfoldable pub moved_span : List ℕ → Instruction → ℕ → Span
moved_span regs n k = span_from (register regs k) (cond (eqb (register regs (field_a n.first + 1)) 0) 0 1)

-- the words read
unfoldable pub reads_of : List ℕ → Instruction → Span
reads_of regs n =
    select (operation_of n.form)
    ((37, span_from (register regs (field_a n.first)) 1) ∷
    (40, all_from n) ∷
    (44, popped_span regs n) ∷
    (47, moved_span regs n (field_b n.first)) ∷
    [])
    (at_operand n (words_read (operation_of n.form)))

-- the words written
unfoldable pub writes_of : List ℕ → Instruction → Span
writes_of regs n =
    select (operation_of n.form)
    ((36, span_from (wrapped (register regs (field_a n.first) + 65535)) 1) ∷
    (47, moved_span regs n (field_a n.first)) ∷
    (50, all_from n) ∷
    (54, pushed_span regs n) ∷
    [])
    (at_operand n (words_written (operation_of n.form)))
