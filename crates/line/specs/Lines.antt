-- Mnemonic lines (change request 2): the line of an instruction's words w and v, and the words of a line. A line is the list of its bytes; n is both words as
-- one number, w + 65,536 v. Assumes nothing.
use Rattle.std.specs.Prelude.{ℕ, ◌+◌, ◌*◌, ◌/◌, ◌%◌, Bool, cond, List, [], ◌∷◌, ◌++◌, ◌≡◌, length, drop, Option, None, Some, Result, Ok, Err}
use Rattle.std.proofs.Math.Option.{Option as Box, none, some}
use Rattle.choice.specs.Table.{among}
use Rattle.text.specs.Texts.{blank, bytes_of}
use Rattle.decode.specs.Operands.{Z8, Z12}
use Rattle.decode.specs.Pages.{Line}
use Rattle.line_operand.specs.declared.Place.TheVariants.{Second}
use Rattle.arrayvec.specs.ArrayVec.{ArrayVec}
use Rattle.line_operand.specs.declared.OperandError.{OperandError}
use Rattle.line_operand.specs.declared.OperandError.TheVariants.{Malformed, Outside}
use Rattle.line_operand.specs.Numerals.{before, onward}
use Rattle.line_operand.specs.Shapes.{covers}
use Rattle.line_operand.specs.Operands.{Parsed, tail, reads}
use Rattle.line_table.specs.Boxes.{box_of, box_named, base_of, shapes_of}
use Rattle.line.specs.declared.Words.{Words}
use Rattle.line.specs.declared.Words.TheVariants.{One, Two}
use Rattle.line.specs.declared.LineError.{LineError}
use Rattle.line.specs.declared.LineError.TheVariants.{UnknownMnemonic, BadOperands, OutsideField}

-- ---- printing

-- a box's line of the instruction n: the mnemonic, and the operands, a blank before the first, a comma before every other
unfoldable pub line_by : Box Line → ℕ → List ℕ
line_by none n = []
line_by (some l) n = bytes_of l.name ++ tail blank (shapes_of l) n

-- no bytes where w begins no legal instruction
unfoldable pub line_of : ℕ → ℕ → List ℕ
line_of w v = line_by (box_of w) (w + 65536 * v)

-- the length of a line, or that there is none
unfoldable pub printed : List ℕ → Option ℕ
printed [] = None
printed (b ∷ l) = Some (length (b ∷ l))

-- the number of a refusal; 0 is a line
unfoldable pub print_number : Option ℕ → ℕ
print_number (Some n) = 0
print_number None = 14

-- ---- reading

-- what is read of a line: words, or why it is refused
abbrev pub Answer : Type 0
Answer = Result Words LineError

-- why operands refuse a line
unfoldable pub refusal_of : OperandError → LineError
refusal_of Malformed = BadOperands
refusal_of Outside = OutsideField

-- the words of the number that the operands came to: two where an operand is in the second word
unfoldable pub words_from : Bool → Parsed → Answer
words_from two (Err e) = Err (refusal_of e)
words_from two (Ok n) = Ok (cond two (Two (n % 65536) (n / 65536 % 65536)) (One (n % 65536)))

-- the operands t of a box, which are nothing or start with a blank
unfoldable pub read_by : Box Line → List ℕ → Answer
read_by none t = Err UnknownMnemonic
read_by (some l) t = words_from (covers (shapes_of l) Second) (reads (Ok (base_of l)) (shapes_of l) t)

-- the mnemonic is all that stands before the first blank or the end
unfoldable pub read_line : List ℕ → Answer
read_line t = read_by (box_named (before blank t)) (onward blank t)

-- the number of a refusal; 0 is words
unfoldable pub read_number : Answer → ℕ
read_number (Ok p) = 0
read_number (Err UnknownMnemonic) = 14
read_number (Err BadOperands) = 15
read_number (Err OutsideField) = 16

-- ---- there and back

-- the words that were read print as the line t; after one word any second word may stand
abbrev pub Prints : Answer → List ℕ → Type 0
Prints (Ok (One w)) t = (v : ℕ) → line_of w v ≡ t
Prints (Ok (Two w v)) t = line_of w v ≡ t
Prints (Err e) t = Unit {0}

-- a first word with bits 8 to 11, or bits 12 to 15, as 0 where its box does not look at them
unfoldable pub cleared_word : Line → ℕ → ℕ
cleared_word l w = w / 256 * 256 + 16 * cond (among Z8 l.operands) 0 (w / 16 % 16) + cond (among Z12 l.operands) 0 (w % 16)

unfoldable pub cleared_by : Box Line → ℕ → ℕ → Answer
cleared_by none w v = Err UnknownMnemonic
cleared_by (some l) w v = Ok (cond (covers (shapes_of l) Second) (Two (cleared_word l w) v) (One (cleared_word l w)))

-- the words of an instruction with the fields that are not looked at as 0
unfoldable pub cleared : ℕ → ℕ → Answer
cleared w v = cleared_by (box_of w) w v

-- ---- what the code ensures

-- a text, or that there is none
unfoldable pub text_of : List ℕ → Option (List ℕ)
text_of [] = None
text_of (b ∷ l) = Some (b ∷ l)

-- the bytes of a text that is handed out
abbrev pub text_in : Option (ArrayVec ℕ) → Option (List ℕ)
text_in None = None
text_in (Some t) = Some t.items

-- the answer, and the line at the start of the buffer, whose other bytes are as they were
pub record Shows (text was is : List ℕ) (r : Option ℕ) : Type 0 where
  pub answer : r ≡ printed text
  pub bytes : is ≡ text ++ drop (length text) was
