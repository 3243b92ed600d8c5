-- Two wrong answers of each contract that other crates call, beside the right one, which the checker computes. Assumes nothing.
use Prim.Native.Nat.{ℕ, ◌+◌, ◌*◌}
use mathlib.Core.List.{List, [], ◌∷◌, ◌++◌, map}
use lib.Dec.{T}
use Rattle.std.proofs.Common.{Option, None, Some}
use Rattle.choice.proofs.Rows.{Row, one, some, flag, hold}
use Rattle.text.specs.Texts.{bytes_of}
use Rattle.decode.specs.Pages.{pages}
use Rattle.line_operand.specs.declared.Place.TheVariants.{Second}
use Rattle.line_operand.specs.declared.Shape.{Shape}
use Rattle.line_operand.specs.Shapes.{meets, covers, shapes, shape_of}
use Rattle.line_table.specs.declared.Entry.{Entry}
use Rattle.line_table.specs.Boxes.{same_text, named, box_of, box_named}
use Rattle.line_table.specs.Entries.{filled, three, entry, entry_in, entry_of, letter, letters, shapes_in}

-- the parts of an entry, nothing where there is none
abbrev name : Option Entry → List ℕ
name None = []
name (Some e) = letters e.name

abbrev base : Option Entry → ℕ
base None = 0
base (Some e) = e.base

abbrev operands : Option Entry → List Shape
operands None = []
operands (Some e) = shapes_in e

pub rows : List Row
unfolding bytes_of pages meets covers shapes shape_of same_text named box_of box_named filled three entry entry_in entry_of letter letters shapes_in
rows =
    -- by_word: the entry of LBX for every base-indexed instruction; none under 43
    some (name (entry_of 0x4317)) (bytes_of "DLBX") (bytes_of "LBX") []
    -- by_word: the entry of AIM for every word under 4A; an illegal extension has one
    ∷ some (name (entry_of 0x4A3C) ++ (0 ∷ name (entry_of 0x4A3B))) (0 ∷ bytes_of "NIM") (0 ∷ bytes_of "AIM") (bytes_of "NIM" ++ (0 ∷ bytes_of "NIM"))
    -- by_word: the opcode alone as the first word; without its extension
    ∷ one (base (entry_of 0x4A3B)) 0x4A0B 0x4A 0x4A00
    -- by_name: the box of the first three letters; a misprint of the scan has a box
    ∷ some (base (entry_in (box_named (bytes_of "SUBI"))) ∷ base (entry_in (box_named (bytes_of "SDR"))) ∷ []) (0x9D00 ∷ 0 ∷ []) (0x9B00 ∷ 0 ∷ []) (0x9D00 ∷ 0x5100 ∷ [])
    -- name::letters: the blanks that fill up a name are put too; its bytes from the last to the first
    ∷ some (name (entry_of 0x8210)) (bytes_of "LISP") (bytes_of "LISP ") (bytes_of "PSIL")
    -- parts::shapes: the last operand first; the third operand missing
    ∷ some (map (λ (s : Shape). s.low) (operands (entry_of 0x0000))) (12 ∷ 0 ∷ 0 ∷ []) (0 ∷ 0 ∷ 12 ∷ []) (12 ∷ 0 ∷ [])
    -- parts::two_words: an instruction with an operand in its second word has one word; every instruction has two
    ∷ one (flag (covers (operands (entry_of 0x8000)) Second) + 2 * flag (covers (operands (entry_of 0x8100)) Second)) 1 0 3
    ∷ []

pub rows-hold : T (hold rows)
unfolding rows bytes_of pages meets covers shapes shape_of same_text named box_of box_named filled three entry entry_in entry_of letter letters shapes_in
rows-hold = tt
