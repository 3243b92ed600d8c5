-- Text in a buffer, and numbers as text, written and read. A text is the list of its bytes. Assumes nothing.
use Rattle.std.specs.Prelude.{ℕ, ◌+◌, ◌*◌, ◌-◌, ◌/◌, ◌%◌, ◌≤◌, cond, List, [], ◌∷◌, ◌++◌, ◌≡◌, ltb, length, take, drop, Option, None, Some}
use Prim.Native.Char.{code}
use Prim.Native.String.{String, [] as []ₛ, ◌∷◌ as ◌∷ₛ◌}

-- ---- characters: their numbers in ASCII

abbrev pub newline : ℕ
newline = 10

abbrev pub blank : ℕ
blank = 32

-- the bytes of a text that is written out
unfoldable pub bytes_of : String → List ℕ
bytes_of []ₛ = []
bytes_of (c ∷ₛ s) = code c ∷ bytes_of s

-- a digit of a number to the base sixteen, letters capital
unfoldable pub digit : ℕ → ℕ
digit n = cond (ltb n 10) (48 + n) (55 + n)

-- ---- numbers, written

-- a word: four hexadecimal digits
unfoldable pub hex : ℕ → List ℕ
hex w = digit (w / 4096) ∷ digit (w / 256 % 16) ∷ digit (w / 16 % 16) ∷ digit (w % 16) ∷ []

-- the decimal digit of a unit (10, 100 and so on); none where the number is below the unit
unfoldable pub leading : ℕ → ℕ → List ℕ
leading n unit = cond (ltb n unit) [] ((48 + n / unit % 10) ∷ [])

-- a number of at most ten digits in decimal, without leading zeros
unfoldable pub decimal : ℕ → List ℕ
decimal n =
    leading n 1000000000
    ++ (leading n 100000000
    ++ (leading n 10000000
    ++ (leading n 1000000
    ++ (leading n 100000
    ++ (leading n 10000
    ++ (leading n 1000
    ++ (leading n 100
    ++ (leading n 10
    ++ ((48 + n % 10) ∷ [])))))))))

-- a message and a number, as a line
unfoldable pub numbered_line : List ℕ → ℕ → List ℕ
numbered_line m n = m ++ (decimal n ++ (newline ∷ []))

-- ---- numbers, read

-- the value of a hexadecimal digit, "0" to "9" or "A" to "F"; none for any other byte
unfoldable pub digit_of : ℕ → Option ℕ
digit_of b = cond (ltb b 48) None (cond (ltb b 58) (Some (b - 48)) (cond (ltb b 65) None (cond (ltb b 71) (Some (b - 55)) None)))

-- the word of four digits; none where one of them is none
unfoldable pub word_by : Option ℕ → Option ℕ → Option ℕ → Option ℕ → Option ℕ
word_by None b c d = None
word_by (Some a) None c d = None
word_by (Some a) (Some b) None d = None
word_by (Some a) (Some b) (Some c) None = None
word_by (Some a) (Some b) (Some c) (Some d) = Some (a * 4096 + b * 256 + c * 16 + d)

unfoldable pub word_of : ℕ → ℕ → ℕ → ℕ → Option ℕ
word_of a b c d = word_by (digit_of a) (digit_of b) (digit_of c) (digit_of d)

-- ---- what the code ensures

-- a text stands in a buffer from byte `at` on and ends before byte r; the bytes before it and behind it are as they were
pub record Wrote (before : List ℕ) (at : ℕ) (text after : List ℕ) (r : ℕ) : Type 0 where
  pub end : r ≡ at + length text
  pub is : after ≡ take at before ++ (text ++ drop r before)

-- a text stands at the start of a buffer and ends before byte r; the bytes behind it are as they were.
-- So its r bytes lie in the buffer, which one who shows them asks: the last two fields follow from the first two
pub record Text (before text after : List ℕ) (r : ℕ) : Type 0 where
  pub end : r ≡ length text
  pub is : after ≡ text ++ drop r before
  pub count : r ≡ length (take r after)
  pub within : r ≤ length after
