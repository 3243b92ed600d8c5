-- A line of the input of the program `lines` (docs/USING.md) as a request, and the text that answers it. Texts are lists of bytes. Assumes nothing.
use Rattle.std.specs.Prelude.{ℕ, cond, ◌&&◌, List, [], ◌∷◌, ◌++◌, length, drop, ◌==◌, nat_lt, slice_index, Option, None, Some, Ok, Err}
use Rattle.choice.specs.Select.{select}
use Rattle.text.specs.Texts.{newline, blank, bytes_of, hex, numbered_line, word_of}
use Rattle.line.specs.declared.Words.TheVariants.{One, Two}
use Rattle.line.specs.declared.LineError.TheVariants.{UnknownMnemonic, BadOperands, OutsideField}
use Rattle.line.specs.Lines.{Answer, line_of, read_line}
use Rattle.line_request.specs.declared.Request.{Request}
use Rattle.line_request.specs.declared.Request.TheVariants.{Print, Read}

-- ---- requests

-- two words to print, where both have four digits; none is a malformed line
unfoldable pub printing : Option ℕ → Option ℕ → Option Request
printing None v = None
printing (Some w) None = None
printing (Some w) (Some v) = Some (Print w v)

-- "W", a blank, four digits, a blank, four digits
unfoldable pub words_asked : List ℕ → Option Request
words_asked l =
    cond (length l == 11 && slice_index l 6 == blank)
    (printing (word_of (slice_index l 2) (slice_index l 3) (slice_index l 4) (slice_index l 5)) (word_of (slice_index l 7) (slice_index l 8) (slice_index l 9) (slice_index l 10)))
    None

-- a letter and a blank: 87 is "W", 76 is "L", which asks to read all behind the blank. A line of more than 65,536 bytes asks nothing
unfoldable pub request_of : List ℕ → Option Request
request_of l =
    cond (nat_lt 65536 (length l)) None
    (cond (slice_index l 1 == blank) (select (slice_index l 0) ((87, words_asked l) ∷ (76, Some Read) ∷ []) None) None)

-- ---- answers

unfoldable pub refused : ℕ → List ℕ
refused n = numbered_line (bytes_of "refused ") n

-- a printed line; none is refused by 14
unfoldable pub print_text : List ℕ → List ℕ
print_text [] = refused 14
print_text (b ∷ t) = (b ∷ t) ++ (newline ∷ [])

-- the words of a line
unfoldable pub words_text : Answer → List ℕ
words_text (Ok (One w)) = hex w ++ (newline ∷ [])
words_text (Ok (Two w v)) = hex w ++ ((blank ∷ []) ++ (hex v ++ (newline ∷ [])))
words_text (Err UnknownMnemonic) = refused 14
words_text (Err BadOperands) = refused 15
words_text (Err OutsideField) = refused 16

-- the answer to the line l, which is the n-th
unfoldable pub answer_by : Option Request → ℕ → List ℕ → List ℕ
answer_by (Some (Print w v)) n l = print_text (line_of w v)
answer_by (Some Read) n l = words_text (read_line (drop 2 l))
answer_by None n l = numbered_line (bytes_of "malformed line ") n

unfoldable pub answer_to : ℕ → List ℕ → List ℕ
answer_to n l = answer_by (request_of l) n l
