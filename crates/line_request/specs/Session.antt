-- The input of the program `lines` read byte by byte: where the reading stands, and the text that is written for each byte. Assumes nothing.
use Rattle.std.specs.Prelude.{◌≡◌, ℕ, ◌+◌, ◌%◌, cond, List, [], ◌∷◌, ◌++◌, length, ◌==◌, nat_lt}
use Rattle.text.specs.Texts.{newline, Text}
use Rattle.line_request.specs.declared.input.Reading.{Reading}
use Rattle.line_request.specs.Requests.{answer_to}

-- the bytes of the present line, of which 65,537 are kept, so that one of more than 65,536 is seen; how many are kept; and how many lines were before it
pub record Session : Type 0 where
  pub line : List ℕ
  pub at : ℕ
  pub lines : ℕ

abbrev pub session : List ℕ → ℕ → ℕ → Session
session l at n = record { line = l; at = at; lines = n }

-- the start of the input
unfoldable pub begun : Session
begun = session [] 0 0

-- what comes of a part of the input: where the reading stands after it, and the text that is written for it
pub record Heard : Type 0 where
  pub session : Session
  pub text : List ℕ

abbrev pub heard : Session → List ℕ → Heard
heard x t = record { session = x; text = t }

-- the number of the present line, counted from 1, in 32 bits
unfoldable pub number_of : Session → ℕ
number_of x = (x.lines + 1) % 4294967296

-- the end of a line
unfoldable pub on_end : Session → Heard
on_end x = heard (session [] 0 (number_of x)) (answer_to (number_of x) x.line)

-- a byte of it
unfoldable pub with_byte : Session → ℕ → Session
with_byte x b = cond (nat_lt x.at 65537) (session (x.line ++ (b ∷ [])) (x.at + 1) x.lines) x

unfoldable pub on_byte : Session → ℕ → Heard
on_byte x b = cond (b == newline) (on_end x) (heard (with_byte x b) [])

-- the end of the input: a last line may be without its newline
unfoldable pub on_last : Session → Heard
on_last x = cond (x.at == 0) (heard x []) (on_end x)

-- ---- what the code ensures

-- the session of a reading
unfoldable pub session_of : Reading → Session
session_of r = session r.line.items (length r.line.items) r.lines

-- a reading after a turn, and the text of so many bytes that it leaves in a buffer, are what is heard
pub record Turned (h : Heard) (was : List ℕ) (r : Reading) (is : List ℕ) (end : ℕ) : Type 0 where
  pub session-is : session_of r ≡ h.session
  pub text-is : Text was h.text is end
