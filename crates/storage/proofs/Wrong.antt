-- Two wrong answers of each contract that other crates call, each beside the right one, which the checker computes. Assumes nothing.
use Rattle.std.proofs.Common.{ℕ, T, List, [], ◌∷◌, take, set, replicate, Err, Ok, Result}
use Rattle.page.specs.declared.Refusal.{Refusal}
use Rattle.choice.proofs.Rows.{Row, some, hold}
use Rattle.page.specs.declared.Access.TheVariants.{Read, Write}
use Rattle.page.specs.declared.Span.{Span}
use Rattle.page.specs.Pages.{lock_of, protect_of, frame_of, set_of, register_at, ioi_of, mfs_at, refusal, admits, barred, physical, placed, through, present, lookup}
use Rattle.page.specs.Spans.{wrapped, got_at, word_of, put_at, passed, read_from, written_from, written}

-- what was got: 1 and the word, or 0, the FT bit and the status
abbrev parts : Result ℕ Refusal → List ℕ
parts (Ok w) = 1 ∷ w ∷ []
parts (Err b) = 0 ∷ b.ft ∷ b.mfs ∷ []

abbrev memory : List ℕ
memory = 10 ∷ 11 ∷ 12 ∷ 13 ∷ []

-- page 0 for every page; the same with W in the operand set of group 0
abbrev pages : List ℕ
pages = replicate 512 0

abbrev protected : List ℕ
protected = set pages 256 0x0800

-- three words from address 3 downwards, the second of them the hole
abbrev span : Span
span = record { start = 3; count = 3; stride = 65535; hole = 1 }

-- opens the definition of a lookup
unfoldable pub places : Unit {0}
unfolding lock_of protect_of frame_of set_of register_at ioi_of mfs_at admits barred physical placed through present lookup
places = tt

pub rows : List Row
unfolding places wrapped got_at word_of put_at passed read_from written_from written
rows =
    -- read::read_word: FT bit 0 for a word past the memory; a word past the memory read as 0
    some (parts (got_at memory (lookup Read 0 3 pages 4 0x1005))) (0 ∷ 0x0080 ∷ 0x1003 ∷ []) (0 ∷ 0x8000 ∷ 0x1003 ∷ []) (1 ∷ 0 ∷ [])
    -- read::read_span: the hole read too; the words read upwards
    ∷ some (take 4 (read_from 0 0 pages 4 span memory 3 0 3 (replicate 16 9)))
    (13 ∷ 9 ∷ 11 ∷ 9 ∷ []) (13 ∷ 12 ∷ 11 ∷ 9 ∷ []) (13 ∷ 9 ∷ 0 ∷ 9 ∷ [])
    -- write::write_word: a store on a page with W; 0 stored where the word is refused
    ∷ some (put_at memory (lookup Write 0 0 protected 4 1) 7) (10 ∷ 11 ∷ 12 ∷ 13 ∷ []) (10 ∷ 7 ∷ 12 ∷ 13 ∷ []) (10 ∷ 0 ∷ 12 ∷ 13 ∷ [])
    -- write::write_span: the hole stored too; the word after the hole from the place of the hole
    ∷ some (written 0 0 pages 4 span (7 ∷ 8 ∷ 9 ∷ replicate 13 0) memory) (10 ∷ 9 ∷ 12 ∷ 7 ∷ []) (10 ∷ 9 ∷ 8 ∷ 7 ∷ []) (10 ∷ 8 ∷ 12 ∷ 7 ∷ [])
    ∷ []

pub rows-hold : T (hold rows)
unfolding rows places wrapped got_at word_of put_at passed read_from written_from written
rows-hold = tt
