-- The two calls of the C interface on mnemonic lines: what they answer and leave. Assumes nothing.
use Rattle.std.specs.Prelude.{ℕ, cond, List, [], ◌∷◌, ◌++◌, ◌≡◌, eqb, length, drop, Ok, Err}
use Rattle.line.specs.declared.Words.TheVariants.{One, Two}
use Rattle.line.specs.Lines.{Answer, printed, print_number, read_number}

-- printing the line `text`: 0 or 14; the line at the start of the buffer, whose other bytes are as they were, and its length; a refusal keeps both
pub record LinePrinted (text was is : List ℕ) (long longer answer : ℕ) : Type 0 where
  pub answer-is : answer ≡ print_number (printed text)
  pub bytes-is : is ≡ text ++ drop (length text) was
  pub length-is : longer ≡ cond (eqb (print_number (printed text)) 0) (length text) long

-- the two words that are left, the second of an instruction of one word 0, and how many there are; a refusal keeps them
unfoldable pub words_left : Answer → List ℕ → List ℕ
words_left (Ok (One w)) was = w ∷ 0 ∷ []
words_left (Ok (Two w v)) was = w ∷ v ∷ []
words_left (Err e) was = was

unfoldable pub count_left : Answer → ℕ → ℕ
count_left (Ok (One w)) was = 1
count_left (Ok (Two w v)) was = 2
count_left (Err e) was = was

-- reading a line with an answer: 0, 14, 15 or 16
pub record LineRead (words : Answer) (was is : List ℕ) (count counted answer : ℕ) : Type 0 where
  pub answer-is : answer ≡ read_number words
  pub words-is : is ≡ words_left words was
  pub count-is : counted ≡ count_left words count
