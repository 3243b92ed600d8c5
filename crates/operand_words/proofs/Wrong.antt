-- Two wrong answers of each contract that other crates call, each beside the right one, which the checker computes. Assumes nothing.
use Rattle.std.proofs.Common.{ℕ, T, List, [], ◌∷◌, replicate, Ok, Err, Result}
use Rattle.choice.proofs.Rows.{Row, some, hold}
use Rattle.page.specs.declared.Access.TheVariants.{Read}
use Rattle.page.specs.declared.Refusal.{Refusal}
use Rattle.page.specs.Spans.{checked, words_of, written}
use Rattle.machine.specs.State.{key_of, group_of}
use Rattle.machine.specs.Machine.{span_from}
use Rattle.machine.proofs.Opened.{machinery}
use Rattle.isa.specs.Effects.{three}
use Rattle.operand_words.specs.declared.Words.{Words}
use Rattle.operand_words.specs.Gathers.{gathered}

-- 1 and the words, or 0, the FT bit and the status
abbrev parts : Result Words Refusal → List ℕ
parts (Ok r) = 1 ∷ r.x ∷ r.y ∷ r.z ∷ []
parts (Err b) = 0 ∷ b.ft ∷ b.mfs ∷ []

abbrev memory : List ℕ
memory = 10 ∷ 11 ∷ 12 ∷ 13 ∷ []

-- page 0 for every page, with lock 3
abbrev pages : List ℕ
pages = replicate 512 0x3000

pub rows : List Row
unfolding machinery gathered
rows =
    -- gather: only the first word of a pair checked; the refusal lost
    some (parts (gathered (checked 3 0 pages 4 (span_from 3 2) Read) (words_of 3 0 pages 4 (span_from 3 2) memory)))
    (0 ∷ 0x0080 ∷ 0 ∷ []) (1 ∷ 13 ∷ 0 ∷ 0 ∷ []) (1 ∷ 0 ∷ 0 ∷ 0 ∷ [])
    -- store_words: the third word at the address of the second; the group in place of the key
    ∷ some (written (key_of 0x0031) (group_of 0x0031) pages 4 (span_from 1 3) (three 7 8 9) memory)
    (10 ∷ 7 ∷ 8 ∷ 9 ∷ []) (10 ∷ 7 ∷ 9 ∷ 13 ∷ []) (10 ∷ 11 ∷ 12 ∷ 13 ∷ [])
    ∷ []

pub rows-hold : T (hold rows)
unfolding rows machinery gathered
rows-hold = tt
