-- Two wrong answers of each contract that other crates call, each beside the right one, which the checker computes. Assumes nothing.
use Prim.Native.Nat.{ℕ, ◌+◌}
use mathlib.Core.List.{List, [], ◌∷◌}
use lib.Dec.{T}
use lib.ListN.{set}
use Rattle.choice.specs.Table.{table_of}
use Rattle.choice.proofs.Rows.{Row, some, hold}
use Rattle.page.specs.declared.Span.{Span}
use Rattle.page.specs.Spans.{wrapped}
use Rattle.machine.specs.declared.Instruction.{Instruction}
use Rattle.machine.specs.Machine.{span_from}
use Rattle.isa.specs.Accesses.{all_from, pushed_span, moved_span, reads_of, writes_of}
use Rattle.isa.proofs.OpenInstructions.{instructions}

-- start, count, stride and hole
abbrev parts : Span → List ℕ
parts p = p.start ∷ p.count ∷ p.stride ∷ p.hole ∷ []

-- R0 has 1000, R1 has 1001, and so on
abbrev regs : List ℕ
regs = table_of (λ k. 0x1000 + k) 0 16

-- an instruction by its form and its first word, with the address 200
abbrev coded : ℕ → ℕ → Instruction
coded form first = record { ic = 0x0100; form = form; first = first; second = 0; address = 0x0200 }

pub rows : List Row
unfolding wrapped instructions
rows =
    -- span_from: the first word as the hole; the words downwards
    some (parts (span_from 0x0100 3)) (0x0100 ∷ 3 ∷ 1 ∷ 16 ∷ []) (0x0100 ∷ 3 ∷ 1 ∷ 0 ∷ []) (0x0100 ∷ 3 ∷ 65535 ∷ 16 ∷ [])
    -- all_from: one word less than registers; the count from bits 12 to 15
    ∷ some (parts (all_from (coded 0x2628 0x8935))) (0x0200 ∷ 4 ∷ 1 ∷ 16 ∷ []) (0x0200 ∷ 3 ∷ 1 ∷ 16 ∷ []) (0x0200 ∷ 6 ∷ 1 ∷ 16 ∷ [])
    -- pushed_span: from the word at R15; the words upwards
    ∷ some (parts (pushed_span regs (coded 0x1036 0x9F24))) (0x100E ∷ 3 ∷ 65535 ∷ 16 ∷ []) (0x100F ∷ 3 ∷ 65535 ∷ 16 ∷ []) (0x100E ∷ 3 ∷ 1 ∷ 16 ∷ [])
    -- moved_span: one word at a count of zero; the word at RA
    ∷ some (parts (moved_span (set regs 2 0) (coded 0x102F 0x9313) 3)) (0x1003 ∷ 0 ∷ 1 ∷ 16 ∷ []) (0x1003 ∷ 1 ∷ 1 ∷ 16 ∷ []) (0x1001 ∷ 0 ∷ 1 ∷ 16 ∷ [])
    -- reads: POPM with no hole; POPM with the hole one word late
    ∷ some (parts (reads_of regs (coded 0x102C 0x8FD1))) (0x100F ∷ 5 ∷ 1 ∷ 2 ∷ []) (0x100F ∷ 5 ∷ 1 ∷ 16 ∷ []) (0x100F ∷ 5 ∷ 1 ∷ 3 ∷ [])
    -- writes: no word for STM; one word less than registers for STM
    ∷ some (parts (writes_of regs (coded 0x2632 0x9930))) (0x0200 ∷ 4 ∷ 1 ∷ 16 ∷ []) (0x0200 ∷ 0 ∷ 1 ∷ 16 ∷ []) (0x0200 ∷ 3 ∷ 1 ∷ 16 ∷ [])
    ∷ []

pub rows-hold : T (hold rows)
unfolding rows wrapped instructions
rows-hold = tt
