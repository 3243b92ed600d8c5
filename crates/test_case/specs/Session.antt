-- The input read byte by byte (docs/TEST-CASES.md): where the reading stands, and the text that is written for each byte. Assumes nothing.
use Rattle.std.specs.Prelude.{◌≡◌, ℕ, ◌+◌, ◌*◌, ◌%◌, Bool, true, false, cond, List, [], ◌∷◌, ◌++◌, length, ◌==◌, nat_lt, Result, Ok, Err, Option, Some, None}
use Rattle.text.specs.Texts.{newline, numbered_line, Text}
use Rattle.test_case_line.specs.declared.Entry.{Entry}
use Rattle.test_case_line.specs.declared.Malformed.{Malformed}
use Rattle.test_case_line.specs.declared.kind.Kind.{Kind}
use Rattle.test_case_line.specs.declared.kind.Kind.TheVariants.{Run}
use Rattle.test_case_line.specs.Lines.{line_of}
use Rattle.test_case.specs.declared.input.Reading.{Reading}
use Rattle.test_case.specs.Case.{Case, case_of, fresh, entered, case_text}

-- the bytes of the present line, of which twelve are kept; the lines and the cases before it; whether the present case has an entry; the case
pub record Session : Type 0 where
  pub line : List ℕ
  pub lines : ℕ
  pub cases : ℕ
  pub started : Bool
  pub present : Case

-- what comes of a part of the input: where the reading stands after it, and the text that is written for it
pub record Heard : Type 0 where
  pub session : Session
  pub text : List ℕ

abbrev pub heard : Session → List ℕ → Heard
heard x t = record { session = x; text = t }

-- one more, in 32 bits
unfoldable pub one_more : ℕ → ℕ
one_more n = (n + 1) % 4294967296

-- a new case after so many lines and cases
unfoldable pub begun : ℕ → ℕ → Session
begun lines cases = record { line = []; lines = lines; cases = cases; started = false; present = fresh }

-- ---- a line

-- any entry but a run
unfoldable pub with_entry : Session → Kind → ℕ → ℕ → Session
with_entry x k n w = record { line = x.line; lines = x.lines; cases = x.cases; started = true; present = entered x.present k n w }

-- the run of the case, of a budget b; then a new case
unfoldable pub on_run : Session → ℕ → Heard
on_run x b = heard (begun x.lines (one_more x.cases)) (case_text (one_more x.cases) b x.present)

-- an entry
unfoldable pub on_entry : Session → Kind → ℕ → ℕ → Heard
on_entry x Run n w = on_run x (n * 65536 + w)
on_entry x k n w = heard (with_entry x k n w) []

-- a line that is read: a remark, an entry, or "malformed line " and its number
unfoldable pub on_line : Session → Result (Option Entry) Malformed → Heard
on_line x (Ok None) = heard x []
on_line x (Ok (Some e)) = on_entry x e.kind e.number e.word
on_line x (Err e) = heard x (numbered_line (109 ∷ 97 ∷ 108 ∷ 102 ∷ 111 ∷ 114 ∷ 109 ∷ 101 ∷ 100 ∷ 32 ∷ 108 ∷ 105 ∷ 110 ∷ 101 ∷ 32 ∷ []) x.lines)

-- the line is counted, and the next one starts
unfoldable pub next_line : Session → Session
next_line x = record { line = []; lines = one_more x.lines; cases = x.cases; started = x.started; present = x.present }

unfoldable pub on_end : Session → Heard
on_end x = on_line (next_line x) (line_of x.line)

-- ---- a byte

-- kept as the next byte of the line
unfoldable pub with_byte : Session → ℕ → Session
with_byte x b = record { line = x.line ++ (b ∷ []); lines = x.lines; cases = x.cases; started = x.started; present = x.present }

-- a newline ends the line; of its other bytes twelve are kept, so that one of more than eleven, which is no entry, is seen
unfoldable pub on_byte : Session → ℕ → Heard
on_byte x b = cond (b == newline) (on_end x) (heard (cond (nat_lt (length x.line) 12) (with_byte x b) x) [])

-- ---- the end of the input

-- a last line without its newline
unfoldable pub on_last : Session → Heard
on_last x = cond (length x.line == 0) (heard x []) (on_end x)

-- a message and a number, where it is to be said
unfoldable pub said_if : Bool → List ℕ → ℕ → List ℕ
said_if said message n = cond said (numbered_line message n) []

-- "unfinished case " and the number of a case that has an entry and no run; "unread after line " where more input is left
unfoldable pub closing : Bool → ℕ → Bool → ℕ → List ℕ
closing started cases unread lines =
    said_if started (117 ∷ 110 ∷ 102 ∷ 105 ∷ 110 ∷ 105 ∷ 115 ∷ 104 ∷ 101 ∷ 100 ∷ 32 ∷ 99 ∷ 97 ∷ 115 ∷ 101 ∷ 32 ∷ []) (one_more cases)
    ++ said_if unread (117 ∷ 110 ∷ 114 ∷ 101 ∷ 97 ∷ 100 ∷ 32 ∷ 97 ∷ 102 ∷ 116 ∷ 101 ∷ 114 ∷ 32 ∷ 108 ∷ 105 ∷ 110 ∷ 101 ∷ 32 ∷ []) lines

-- ---- what the code ensures

-- the session of a reading
unfoldable pub session_of : Reading → Session
session_of r = record { line = r.line.items; lines = r.lines; cases = r.cases; started = r.started; present = case_of r.present }

-- a reading after a turn, and the text of so many bytes that it leaves in a buffer, are what is heard
pub record Turned (h : Heard) (was : List ℕ) (r : Reading) (is : List ℕ) (end : ℕ) : Type 0 where
  pub session-is : session_of r ≡ h.session
  pub text-is : Text was h.text is end
