-- Operands by their shapes: how each is spelt, and what is read of it. A text is the list of its bytes. Assumes nothing.
use Rattle.std.specs.Prelude.{ℕ, ◌+◌, ◌*◌, ◌-◌, Bool, true, false, cond, ◌&&◌, List, [], ◌∷◌, ◌++◌, eqb, ltb, leb, length, get_or, drop, Option, None, Some, Result, Ok, Err}
use Rattle.text.specs.Texts.{decimal, hex, word_of}
use Rattle.line_operand.specs.declared.Place.{Place}
use Rattle.line_operand.specs.declared.Kind.{Kind}
use Rattle.line_operand.specs.declared.Kind.TheVariants.{Register, Number, Label, Word, Index, Unread}
use Rattle.line_operand.specs.declared.Shape.{Shape}
use Rattle.line_operand.specs.declared.OperandError.{OperandError}
use Rattle.line_operand.specs.declared.OperandError.TheVariants.{Malformed, Outside}
use Rattle.line_operand.specs.Numerals.{numeral, value, before, onward}
use Rattle.line_operand.specs.Shapes.{unit_of, count_of, field_of}

-- ---- printing

-- the field f of an operand, whose numbers start with low; 82 is "R", 45 the minus sign
unfoldable pub spell : Kind → ℕ → ℕ → List ℕ
spell Register low f = 82 ∷ decimal (low + f)
spell Number low f = decimal (low + f)
spell Label low f = cond (ltb f 128) (decimal f) (45 ∷ decimal (256 - f))
spell Word low f = hex f
spell Index low f = 82 ∷ decimal (low + f)
spell Unread low f = []

-- whether an operand is left out
unfoldable pub omitted : Kind → ℕ → Bool
omitted Register f = false
omitted Number f = false
omitted Label f = false
omitted Word f = false
omitted Index f = eqb f 0
omitted Unread f = true

-- an operand of the instruction n after what separates it from the text before it; what separates the next; 44 is the comma
unfoldable pub piece : Shape → ℕ → ℕ → List ℕ
piece s sep n = cond (omitted s.kind (field_of s.place n)) [] (sep ∷ spell s.kind s.low (field_of s.place n))

unfoldable pub sep_after : Shape → ℕ → ℕ → ℕ
sep_after s sep n = cond (omitted s.kind (field_of s.place n)) sep 44

-- all operands
unfoldable pub tail : ℕ → List Shape → ℕ → List ℕ
tail sep [] n = []
tail sep (s ∷ ss) n = piece s sep n ++ tail (sep_after s sep n) ss n

-- ---- reading

-- what is read of operands: a number, or why it is none
abbrev pub Parsed : Type 0
Parsed = Result ℕ OperandError

-- a number from low on, of count numbers
unfoldable pub inside : ℕ → ℕ → ℕ → Parsed
inside low count v = cond (leb low v && ltb v (low + count)) (Ok (v - low)) (Err Outside)

unfoldable pub ranged : ℕ → ℕ → List ℕ → Parsed
ranged low count t = cond (numeral t) (inside low count (value 0 t)) (Err Malformed)

-- the same after "R"
unfoldable pub marked : ℕ → ℕ → List ℕ → Parsed
marked low count t = cond (eqb (get_or t 0 0) 82) (ranged low count (drop 1 t)) (Err Malformed)

-- a field that is not 0
unfoldable pub nonzero : Parsed → Parsed
nonzero (Err e) = Err e
nonzero (Ok f) = cond (eqb f 0) (Err Malformed) (Ok f)

-- a number after a minus sign, which is not 0, in eight bits
unfoldable pub negated : Parsed → Parsed
negated (Err e) = Err e
negated (Ok f) = cond (eqb f 0) (Err Malformed) (Ok (256 - f))

-- a displacement from -128 to 127
unfoldable pub labelled : List ℕ → Parsed
labelled t = cond (eqb (get_or t 0 0) 45) (negated (ranged 0 129 (drop 1 t))) (ranged 0 128 t)

-- four hexadecimal digits
unfoldable pub word_in : Option ℕ → Parsed
word_in None = Err Malformed
word_in (Some w) = Ok w

unfoldable pub worded : List ℕ → Parsed
worded t = cond (eqb (length t) 4) (word_in (word_of (get_or t 0 0) (get_or t 1 0) (get_or t 2 0) (get_or t 3 0))) (Err Malformed)

-- a text as an operand of a kind, whose numbers start with low and are so many
unfoldable pub taken_as : Kind → ℕ → ℕ → List ℕ → Parsed
taken_as Register low count t = marked low count t
taken_as Number low count t = ranged low count t
taken_as Label low count t = labelled t
taken_as Word low count t = worded t
taken_as Index low count t = nonzero (marked low count t)
taken_as Unread low count t = Err Malformed

-- a field at its place
unfoldable pub placed : Place → Parsed → Parsed
placed p (Err e) = Err e
placed p (Ok f) = Ok (unit_of p * f)

unfoldable pub taken : Shape → List ℕ → Parsed
taken s t = placed s.place (taken_as s.kind s.low (count_of s.place) t)

-- two operands: what is malformed comes before what lies outside its field
unfoldable pub joined : Parsed → Parsed → Parsed
joined (Err Malformed) o = Err Malformed
joined (Err Outside) (Err Malformed) = Err Malformed
joined (Err Outside) (Err Outside) = Err Outside
joined (Err Outside) (Ok b) = Err Outside
joined (Ok a) (Err Malformed) = Err Malformed
joined (Ok a) (Err Outside) = Err Outside
joined (Ok a) (Ok b) = Ok (a + b)

-- shapes that no text shows, and those that may be missing at the end
unfoldable pub hidden : Kind → Bool
hidden Register = false
hidden Number = false
hidden Label = false
hidden Word = false
hidden Index = false
hidden Unread = true

unfoldable pub optional : Kind → Bool
optional Register = false
optional Number = false
optional Label = false
optional Word = false
optional Index = true
optional Unread = true

-- an operand of the given shape is taken from what is left of a line, which is nothing or starts with a separator: the sum so far, and what is left then
unfoldable pub sum_after : Shape → Parsed → List ℕ → Parsed
sum_after s a [] = cond (optional s.kind) a (Err Malformed)
sum_after s a (x ∷ t) = cond (hidden s.kind) a (joined a (taken s (before 44 t)))

unfoldable pub rest_after : Kind → List ℕ → List ℕ
rest_after k [] = []
rest_after k (x ∷ t) = cond (hidden k) (x ∷ t) (onward 44 t)

-- nothing may be left at the end
unfoldable pub finished : Parsed → List ℕ → Parsed
finished a [] = a
finished a (x ∷ t) = Err Malformed

unfoldable pub reads : Parsed → List Shape → List ℕ → Parsed
reads a [] t = finished a t
reads a (s ∷ ss) t = reads (sum_after s a t) ss (rest_after s.kind t)
