-- Known cases and readings, computed (docs/TEST-CASES.md). Assumes nothing.
use Rattle.std.proofs.Common.{◌≡◌, [], ◌∷◌, ◌++◌, refl}
use Rattle.text.specs.Texts.{digit, hex, leading, decimal, numbered_line, digit_of, word_by, word_of}
use Rattle.test_case_line.specs.Lent.{lent_of}
use Rattle.test_case_line.specs.Kinds.{kind_of}
use Rattle.test_case_line.specs.Lines.{entry_of, entry_by, line_of}
use Rattle.test_case_line.specs.Texts.{entry_line}
use Rattle.test_case.specs.Case.{lengths, lending, change_line, changes_to, changes}
use Rattle.test_case.specs.Session.{one_more, begun, on_line, next_line, on_end, with_byte, on_byte}

-- of four words the second and the last have changed: "M 0001 0009", "M 0003 0008"
changed-words : changes 77 (1 ∷ 2 ∷ 3 ∷ 4 ∷ []) (1 ∷ 9 ∷ 3 ∷ 8 ∷ [])
    ≡ (77 ∷ 32 ∷ 48 ∷ 48 ∷ 48 ∷ 49 ∷ 32 ∷ 48 ∷ 48 ∷ 48 ∷ 57 ∷ 10 ∷ []) ++ (77 ∷ 32 ∷ 48 ∷ 48 ∷ 48 ∷ 51 ∷ 32 ∷ 48 ∷ 48 ∷ 48 ∷ 56 ∷ 10 ∷ [])
unfolding digit hex entry_line change_line changes_to changes
changed-words = refl

-- "L 0002 0003": three ports
three-ports : lending (lengths 16384 512 1024 257) (lent_of 2) 3 ≡ lengths 16384 512 3 257
three-ports = refl

-- "x" and a newline: "malformed line 1"
malformed : (on_byte (on_byte (begun 0 0) 120).session 10).text
    ≡ 109 ∷ 97 ∷ 108 ∷ 102 ∷ 111 ∷ 114 ∷ 109 ∷ 101 ∷ 100 ∷ 32 ∷ 108 ∷ 105 ∷ 110 ∷ 101 ∷ 32 ∷ 49 ∷ 10 ∷ []
unfolding leading decimal numbered_line digit_of word_by word_of kind_of entry_of entry_by line_of one_more begun on_line next_line on_end with_byte on_byte
malformed = refl

-- "#" and a newline: nothing is written, and the line is counted
remark : (on_byte (on_byte (begun 6 0) 35).session 10).session.lines ≡ 7
unfolding line_of one_more begun on_line next_line on_end with_byte on_byte
remark = refl
