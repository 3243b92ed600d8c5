-- What the code of reading keeps: a number up to a limit, and a bound of what is read. Assumes nothing.
use Rattle.std.specs.Prelude.{ℕ, cond, List, ltb, Option, None, Some, Ok, Err}
use Rattle.line_operand.specs.Operands.{Parsed}
use Rattle.line_operand.specs.Numerals.{digits, value}

-- a number, or 100,000 where it is larger
unfoldable pub capped : ℕ → ℕ
capped v = cond (ltb v 100000) v 100000

-- the number of a text of digits, capped; none where a byte is no digit
unfoldable pub scanned : List ℕ → Option ℕ
scanned t = cond (digits t) (Some (capped (value 0 t))) None

-- the number of an operand, 0 where there is none
abbrev pub amount : Parsed → ℕ
amount (Err e) = 0
amount (Ok n) = n
