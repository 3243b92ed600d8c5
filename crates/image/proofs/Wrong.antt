-- Two wrong answers of each contract that other crates call, beside the right one, which the checker computes. Assumes nothing.
use Prim.Native.Nat.{ℕ}
use mathlib.Core.List.{List, [], ◌∷◌, ◌++◌}
use lib.Dec.{T}
use Rattle.choice.specs.Table.{table_of}
use Rattle.choice.proofs.Rows.{Row, one, some, hold}
use Rattle.machine.proofs.Opened.{machinery}
use Rattle.std.specs.Prelude.{Ok, Err, map}
use Rattle.machine.specs.declared.SizeError.TheVariants.{BadMemory, BadPages, BadPorts}
use Rattle.image.specs.declared.LoadError.TheVariants.{BadSize, NoCount, ManyEntries, ShortTable, BadKind, BadRange, SharedWord, BadBodies}
use Rattle.image.specs.Image.{word_at, count_of, entry_at, number_of, admission}
use Rattle.image.proofs.Opened.{images}

-- each byte is its number
abbrev image : List ℕ
image = table_of (λ k. k) 0 22

-- the number of the answer to an image
abbrev asked_of : List ℕ → ℕ
asked_of b = number_of (admission b 4096 512 1024)

-- the same, of one entry from word 0 on, of a kind and a number of words, with a body of these bytes
abbrev answered : ℕ → ℕ → List ℕ → ℕ
answered kind n body = asked_of ((0 ∷ 1 ∷ 0 ∷ kind ∷ 0 ∷ 0 ∷ 0 ∷ 0 ∷ 0 ∷ 0 ∷ 0 ∷ n ∷ []) ++ body)

pub rows : List Row
unfolding machinery images
rows =
    -- table::word_at: the least significant byte first; the word before
    one (word_at image 3) 0x0304 0x0403 0x0203
    -- table::count: the first byte alone; the second byte first
    ∷ one (count_of (1 ∷ 2 ∷ 3 ∷ [])) 0x0102 1 0x0201
    -- table::entry_at: the entry before; start and length exchanged
    ∷ some (let e = entry_at image 1 in e.kind ∷ e.start ∷ e.words ∷ [])
    (0x0C0D ∷ 0x0E0F1011 ∷ 0x12131415 ∷ []) (0x0203 ∷ 0x04050607 ∷ 0x08090A0B ∷ []) (0x0C0D ∷ 0x12131415 ∷ 0x0E0F1011 ∷ [])
    -- questions::number: an image of more than 64 entries is answered by 6, as one without the two bytes of their number; words outside the target are 11, and a shared word is 10
    ∷ some
    (number_of (Ok tt) ∷ map (λ e. number_of (Err e)) (BadSize BadMemory ∷ BadSize BadPages ∷ BadSize BadPorts ∷ NoCount ∷ ManyEntries ∷ ShortTable ∷ BadKind ∷ BadRange ∷ SharedWord ∷ BadBodies ∷ []))
    (0 ∷ 1 ∷ 2 ∷ 3 ∷ 6 ∷ 7 ∷ 8 ∷ 9 ∷ 10 ∷ 11 ∷ 12 ∷ []) (0 ∷ 1 ∷ 2 ∷ 3 ∷ 6 ∷ 6 ∷ 8 ∷ 9 ∷ 10 ∷ 11 ∷ 12 ∷ []) (0 ∷ 1 ∷ 2 ∷ 3 ∷ 6 ∷ 7 ∷ 8 ∷ 9 ∷ 11 ∷ 10 ∷ 12 ∷ [])
    -- questions::check: an image of no bytes is refused by 6; one byte alone is accepted
    ∷ some (asked_of [] ∷ asked_of (0 ∷ []) ∷ asked_of (0 ∷ 0 ∷ []) ∷ asked_of (0 ∷ 1 ∷ []) ∷ []) (0 ∷ 6 ∷ 0 ∷ 8 ∷ []) (6 ∷ 6 ∷ 0 ∷ 8 ∷ []) (0 ∷ 0 ∷ 0 ∷ 8 ∷ [])
    -- questions::check: an entry of kind 5 is accepted; an entry of no words is accepted
    ∷ some (answered 4 1 (0 ∷ 7 ∷ []) ∷ answered 5 1 (0 ∷ 7 ∷ []) ∷ answered 4 0 [] ∷ []) (0 ∷ 9 ∷ 10 ∷ []) (0 ∷ 0 ∷ 10 ∷ []) (0 ∷ 9 ∷ 0 ∷ [])
    -- questions::check: bodies of one byte a word are accepted, and bodies of two bytes a word are not; bytes after the bodies are accepted
    ∷ some (answered 1 1 (7 ∷ []) ∷ answered 1 1 (0 ∷ 7 ∷ []) ∷ answered 1 1 (0 ∷ 7 ∷ 0 ∷ []) ∷ []) (12 ∷ 0 ∷ 12 ∷ []) (0 ∷ 12 ∷ 12 ∷ []) (12 ∷ 0 ∷ 0 ∷ [])
    ∷ []

pub rows-hold : T (hold rows)
unfolding rows machinery images
rows-hold = tt
