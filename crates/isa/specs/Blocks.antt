-- Operations on several registers or words at once (5.40, 5.44, 5.47, 5.50, 5.54, 5.90): what each does.
-- v is what the operation sees, n the instruction, ws the words read. Assumes nothing.
use Rattle.std.specs.Prelude.{ℕ, zero, suc, ◌+◌, ◌-◌, ◌%◌, Bool, true, false, cond, List, [], ◌∷◌, eqb, get_or, take}
use Rattle.word.specs.Status.{status}
use Rattle.page.specs.Spans.{wrapped}
use Rattle.machine.specs.declared.Instruction.{Instruction}
use Rattle.machine.specs.State.{cs_of}
use Rattle.machine.specs.Machine.{Effect, next_of}
use Rattle.isa.specs.Fields.{field_a, field_b, register, with_register, with_registers, registers_from}
use Rattle.isa.specs.Effects.{Context, nothing}

-- the registers become regs, on to the address a, and words are stored
unfoldable pub rearranged : Context → List ℕ → ℕ → ℕ → List ℕ → Effect
rearranged v regs a cs ws = record { regs = regs; ic = a; cs = cs; pi = v.pi; words = ws }

-- LM: R0 to RN get the words read (5.40)
unfoldable pub loaded_all : Context → Instruction → List ℕ → Effect
loaded_all v n ws = rearranged v (with_registers v.regs 0 (take (field_a n.first + 1) ws)) (next_of n) (cs_of v.sw) []

-- k words, of which the first has the number i, go to the registers from a + i on, but none to R15
unfoldable pub popped_from : ℕ → List ℕ → ℕ → ℕ → List ℕ → List ℕ
popped_from a ws zero i regs = regs
popped_from a ws (suc k) i regs =
    popped_from a ws k (suc i) (cond (eqb ((a + i) % 16) 15) regs (with_register regs (a + i) (get_or ws i 0)))

-- POPM: RA to RB get the words read, and R15 rises by their number (5.44)
unfoldable pub popped_all : Context → Instruction → List ℕ → Effect
popped_all v n ws =
    let k = registers_from (field_a n.first) (field_b n.first) in
    rearranged v
    (with_register (popped_from (field_a n.first) ws k 0 v.regs) 15 (wrapped (register v.regs 15 + k)))
    (next_of n)
    (cs_of v.sw)
    []

-- register k changes by d, modulo 65,536
unfoldable pub changed_by : ℕ → ℕ → List ℕ → List ℕ
changed_by k d regs = with_register regs k (wrapped (register regs k + d))

-- RA and RB rise by one and the count, in the register after RA, falls by one, one after another
unfoldable pub moved_on : List ℕ → ℕ → ℕ → List ℕ
moved_on regs a b = changed_by (a + 1) 65535 (changed_by b 1 (changed_by a 1 regs))

-- MOV: the word read is stored; IC stays at the instruction while the count is then not zero; a count of zero moves nothing (5.47)
unfoldable pub moved_word : Context → Instruction → ℕ → Bool → Effect
moved_word v n x true = nothing v n
moved_word v n x false =
    let a = field_a n.first in
    let regs = moved_on v.regs a (field_b n.first) in
    rearranged v regs (cond (eqb (register regs (a + 1)) 0) (next_of n) n.ic) (cs_of v.sw) (x ∷ [])

-- STM: R0 to RN are stored (5.50)
unfoldable pub stored_all : Context → Instruction → Effect
stored_all v n = rearranged v v.regs (next_of n) (cs_of v.sw) v.regs

-- register j as PSHM stores it as word number i: R15 has fallen by one a word by then
unfoldable pub pushed_word : List ℕ → ℕ → ℕ → ℕ
pushed_word regs j i = cond (eqb j 15) (wrapped (register regs 15 + (65535 - i))) (register regs j)

-- k words, of which the first has the number i: the registers from b - i on downwards
unfoldable pub pushed_from : List ℕ → ℕ → ℕ → ℕ → List ℕ
pushed_from regs b zero i = []
pushed_from regs b (suc k) i = pushed_word regs ((16 + b - i) % 16) i ∷ pushed_from regs b k (suc i)

-- PSHM: RB down to RA are stored, and R15 falls by their number (5.54)
unfoldable pub pushed_all : Context → Instruction → Effect
pushed_all v n =
    let k = registers_from (field_a n.first) (field_b n.first) in
    rearranged v
    (with_register v.regs 15 (wrapped (register v.regs 15 + (65536 - k))))
    (next_of n)
    (cs_of v.sw)
    (pushed_from v.regs (field_b n.first) k 0)

-- XWR: RA and RB exchange their contents; CS is RA's new status (5.90)
unfoldable pub exchanged_words : Context → Instruction → Effect
exchanged_words v n =
    let a = field_a n.first in
    let b = field_b n.first in
    let ra = register v.regs a in
    let rb = register v.regs b in
    rearranged v (with_register (with_register v.regs a rb) b ra) (next_of n) (status 16 rb) []
