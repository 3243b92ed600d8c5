-- Two wrong answers of each contract that other crates call, beside the right one, which the checker computes. Assumes nothing.
use Prim.Native.Nat.{ℕ, ◌+◌}
use mathlib.Core.List.{List, [], ◌∷◌, ◌++◌}
use lib.Dec.{T, eqb}
use lib.ListN.{length, take, drop}
use Rattle.std.specs.Option.{option_to_list}
use Rattle.choice.proofs.Rows.{Row, one, some, hold, flag}
use Rattle.text.specs.Texts.{digit, hex, leading, decimal, numbered_line, digit_of, word_by, word_of}
use Rattle.text.specs.FirstBytes.{kept}

-- a buffer of four bytes with a text at its start, as `Text` has it
abbrev shown : List ℕ → List ℕ
shown text = text ++ drop (length text) (1 ∷ 2 ∷ 3 ∷ 4 ∷ [])

-- a buffer of four bytes after a text from byte `at` on, as `Wrote` has it
abbrev over : ℕ → List ℕ → List ℕ
over at text = let before : List ℕ = 1 ∷ 2 ∷ 3 ∷ 4 ∷ [] in take at before ++ (text ++ drop (at + length text) before)

pub rows : List Row
unfolding digit hex leading decimal numbered_line digit_of word_by word_of kept
rows =
    -- put_bytes: the bytes in the other order; a text put before what is there
    some ((1 ∷ 2 ∷ []) ++ (65 ∷ 66 ∷ [])) (1 ∷ 2 ∷ 65 ∷ 66 ∷ []) (1 ∷ 2 ∷ 66 ∷ 65 ∷ []) (65 ∷ 66 ∷ 1 ∷ 2 ∷ [])
    -- copy: one place before; a byte behind it written too
    ∷ some (over 2 (65 ∷ [])) (1 ∷ 2 ∷ 65 ∷ 4 ∷ []) (1 ∷ 65 ∷ 3 ∷ 4 ∷ []) (1 ∷ 2 ∷ 65 ∷ 33 ∷ [])
    -- copy: the last byte left out; the bytes behind the text moved on
    ∷ some (over 0 (65 ∷ 66 ∷ [])) (65 ∷ 66 ∷ 3 ∷ 4 ∷ []) (65 ∷ 2 ∷ 3 ∷ 4 ∷ []) (65 ∷ 66 ∷ 1 ∷ 2 ∷ [])
    -- show: the last byte left out; the bytes behind the text moved on
    ∷ some (shown (65 ∷ 66 ∷ [])) (65 ∷ 66 ∷ 3 ∷ 4 ∷ []) (65 ∷ 2 ∷ 3 ∷ 4 ∷ []) (65 ∷ 66 ∷ 1 ∷ 2 ∷ [])
    -- digit: a small letter; the character after "9"
    ∷ one (digit 10) 65 97 58
    -- put_hex: small letters; the last digit first
    ∷ some (hex 0x0A3F) (48 ∷ 65 ∷ 51 ∷ 70 ∷ []) (48 ∷ 97 ∷ 51 ∷ 102 ∷ []) (70 ∷ 51 ∷ 65 ∷ 48 ∷ [])
    -- put_decimal: zeros inside the number left out; a leading zero
    ∷ some (decimal 10203) (49 ∷ 48 ∷ 50 ∷ 48 ∷ 51 ∷ []) (49 ∷ 50 ∷ 51 ∷ []) (48 ∷ 49 ∷ 48 ∷ 50 ∷ 48 ∷ 51 ∷ [])
    -- put_numbered_line: a blank before the number; the newline left out
    ∷ some (numbered_line (110 ∷ 111 ∷ 32 ∷ []) 12)
    (110 ∷ 111 ∷ 32 ∷ 49 ∷ 50 ∷ 10 ∷ [])
    (110 ∷ 111 ∷ 32 ∷ 32 ∷ 49 ∷ 50 ∷ 10 ∷ [])
    (110 ∷ 111 ∷ 32 ∷ 49 ∷ 50 ∷ [])
    -- read::word: the last digit first; the letters A to F as 11 to 16
    ∷ some (option_to_list (word_of 49 65 50 70)) (0x1A2F ∷ []) (0xF2A1 ∷ []) (0x1B30 ∷ [])
    -- read::word: a byte that is no digit read as 16; small letters read too
    ∷ some (option_to_list (word_of 48 48 48 97)) [] (16 ∷ []) (10 ∷ [])
    -- first_bytes::new: a byte of 0 before the first of the line; no room for it
    ∷ some (kept 2 [] 65) (65 ∷ []) (0 ∷ 65 ∷ []) (0 ∷ 0 ∷ [])
    -- first_bytes::keep: a byte put before those of the line; in the place of the last
    ∷ some (kept 3 (65 ∷ 66 ∷ []) 67) (65 ∷ 66 ∷ 67 ∷ []) (67 ∷ 65 ∷ 66 ∷ []) (65 ∷ 67 ∷ [])
    -- first_bytes::keep: a byte kept where there is no room; the last bytes of the line kept
    ∷ some (kept 2 (65 ∷ 66 ∷ []) 67) (65 ∷ 66 ∷ []) (65 ∷ 66 ∷ 67 ∷ []) (66 ∷ 67 ∷ [])
    -- first_bytes::is_empty: a line of one byte is called empty too; one of none is not
    ∷ some (flag (eqb (length (kept 2 [] 65)) 0) ∷ flag (eqb (length (kept 0 [] 65)) 0) ∷ []) (0 ∷ 1 ∷ []) (1 ∷ 1 ∷ []) (0 ∷ 0 ∷ [])
    -- first_bytes::as_slice: the room behind the line shown too; the last byte left out
    ∷ some (take 2 (65 ∷ 66 ∷ 0 ∷ [])) (65 ∷ 66 ∷ []) (65 ∷ 66 ∷ 0 ∷ []) (65 ∷ [])
    -- first_bytes::clear: the line before it stays; its first byte does
    ∷ some (kept 3 [] 67) (67 ∷ []) (65 ∷ 66 ∷ 67 ∷ []) (65 ∷ 67 ∷ [])
    ∷ []

pub rows-hold : T (hold rows)
unfolding rows digit hex leading decimal numbered_line digit_of word_by word_of kept
rows-hold = tt
