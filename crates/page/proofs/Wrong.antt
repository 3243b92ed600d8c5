-- Two wrong answers of each contract that other crates call, each beside the right one, which the checker computes. Assumes nothing.
use Rattle.std.proofs.Common.{ℕ, T, List, [], ◌∷◌, set, replicate, Err, Ok, Result}
use Rattle.choice.proofs.Rows.{Row, some, hold}
use Rattle.page.specs.declared.Access.TheVariants.{Fetch, Read, Write}
use Rattle.page.specs.declared.Refusal.{Refusal}
use Rattle.page.specs.declared.Span.{Span}
use Rattle.page.specs.Pages.{lock_of, protect_of, frame_of, set_of, register_at, ioi_of, mfs_at, refusal, admits, barred, physical, placed, through, present, lookup}
use Rattle.page.specs.Spans.{wrapped, and_then, passed, checked_from, checked}

-- a refusal: its FT bit and its status
abbrev both : Refusal → List ℕ
both b = b.ft ∷ b.mfs ∷ []

-- a place: the physical address, or the refusal
abbrev parts : Result ℕ Refusal → List ℕ
parts (Ok p) = p ∷ []
parts (Err b) = both b

-- a verdict: nothing where it is clear, or the refusal
abbrev fault_of : Result (Unit {0}) Refusal → List ℕ
fault_of (Ok u) = []
fault_of (Err b) = both b

-- frames 7, 9 and 5 for page 2: of group 3 in the operand set and in the instruction set, of group 0 in the operand set; W for page 1 of group 0
abbrev pages : List ℕ
pages = set (set (set (set (replicate 512 0) 306 7) 50 9) 258 5) 257 0x0801

-- two words, the last of page 0 and the first of page 1
abbrev pair : Span
pair = record { start = 0x0FFF; count = 2; stride = 1; hole = 16 }

pub rows : List Row
unfolding lock_of protect_of frame_of set_of register_at ioi_of mfs_at admits barred physical placed through present lookup wrapped and_then passed checked_from checked
rows =
    -- lookup::look_up: a read through the instruction set; a register of group 0 in place of group 3
    some (parts (lookup Read 0 3 pages 65536 0x2ABC)) (0x7ABC ∷ []) (0x9ABC ∷ []) (0x5ABC ∷ [])
    -- lookup::look_up: the operand set in the status of a fetch; LPA and AS exchanged
    ∷ some (parts (lookup Fetch 5 3 pages 65536 0x2ABC)) (0x8000 ∷ 0x2013 ∷ []) (0x8000 ∷ 0x2003 ∷ []) (0x8000 ∷ 0x3012 ∷ [])
    -- lookup::refuse: the group left out; the page of the next address
    ∷ some (both (refusal 0x0080 (mfs_at Write 3 15))) (0x0080 ∷ 0xF003 ∷ []) (0x0080 ∷ 0xF000 ∷ []) (0x0080 ∷ 0x0003 ∷ [])
    -- lookup::check_span: only the first word of a pair checked; the memory's end tested before W
    ∷ some (fault_of (checked 0 0 pages 4096 pair Write)) (0x8000 ∷ 0x1000 ∷ []) [] (0x0080 ∷ 0x1000 ∷ [])
    ∷ []

pub rows-hold : T (hold rows)
unfolding rows lock_of protect_of frame_of set_of register_at ioi_of mfs_at admits barred physical placed through present lookup wrapped and_then passed checked_from checked
rows-hold = tt
