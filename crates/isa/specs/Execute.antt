-- A user's operation, chosen by its paragraph: by ranges, then by number. Assumes nothing.
use Rattle.std.specs.Prelude.{ℕ, ◌+◌, List, [], ◌∷◌, eqb, get_or}
use Rattle.choice.specs.Select.{select, up_to}
use Rattle.decode.specs.Forms.{operation_of}
use Rattle.machine.specs.declared.Instruction.{Instruction}
use Rattle.machine.specs.Machine.{Effect}
use Rattle.isa.specs.Fields.{field_a, register}
use Rattle.isa.specs.Effects.{Context, nothing}
use Rattle.isa.specs.Words.{bit_operation, shift_operation, jump_operation, load_operation, store_operation}
use Rattle.isa.specs.Blocks.{loaded_all, popped_all, moved_word, stored_all, pushed_all, exchanged_words}
use Rattle.isa.specs.Integers.{integer_operation, logical_operation}
use Rattle.isa.specs.Floats.{float_operation}

-- the operations on at most three words, x, y and z read; each number ends a range of paragraphs
unfoldable pub ordinary : Context → Instruction → ℕ → ℕ → ℕ → ℕ → Effect
ordinary v n x y z operation =
    let integer = integer_operation v n x y operation in
    let float = float_operation v n x y z operation in
    let logical = logical_operation v n x y operation in
    up_to operation
    ((9, bit_operation v n x operation) ∷
    (23, shift_operation v n operation) ∷
    (37, jump_operation v n x operation) ∷
    (44, load_operation v n x y z operation) ∷
    (54, store_operation v n x operation) ∷
    (59, integer) ∷
    (62, float) ∷
    (67, integer) ∷
    (70, float) ∷
    (73, integer) ∷
    (75, float) ∷
    (78, integer) ∷
    (80, float) ∷
    (84, logical) ∷
    (88, float) ∷
    (93, logical) ∷
    (95, float) ∷
    [])
    (nothing v n)

-- all operations: those on blocks first
unfoldable pub executed : Context → Instruction → List ℕ → Effect
executed v n ws =
    select (operation_of n.form)
    ((40, loaded_all v n ws) ∷
    (44, popped_all v n ws) ∷
    (47, moved_word v n (get_or ws 0 0) (eqb (register v.regs (field_a n.first + 1)) 0)) ∷
    (50, stored_all v n) ∷
    (54, pushed_all v n) ∷
    (90, exchanged_words v n) ∷
    [])
    (ordinary v n (get_or ws 0 0) (get_or ws 1 0) (get_or ws 2 0) (operation_of n.form))
