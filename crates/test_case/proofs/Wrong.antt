-- Two wrong answers of each contract that other crates call, beside the right one, which the checker computes. Assumes nothing.
use Rattle.std.proofs.Common.{ℕ, true, false, T, List, [], ◌∷◌, length, get_or, take}
use Rattle.choice.proofs.Rows.{Row, some, hold, flag}
use Rattle.machine.proofs.Opened.{machinery}
use Rattle.reset.specs.Reset.{cycle, reset_pages, reset_machine}
use Rattle.text.specs.Texts.{leading, decimal, numbered_line, digit_of, word_by, word_of}
use Rattle.report.specs.Report.{steps_line, report_of}
use Rattle.test_case_line.specs.Kinds.{kind_of}
use Rattle.test_case_line.specs.Lines.{entry_of, entry_by, line_of}
use Rattle.test_case_line.specs.Texts.{case_line}
use Rattle.test_case.specs.Case.{fresh, with_duration, changed, entered, lent, rejoined, ran, state_lines, case_text}
use Rattle.test_case.specs.Session.{Session, one_more, begun, with_entry, on_run, on_entry, on_line, next_line, on_end, with_byte, on_byte, on_last, said_if, closing}

-- opens the definitions of readings at once, and those of cases and of texts
unfoldable readings : Unit {0}
unfolding digit_of word_by word_of kind_of entry_of entry_by line_of one_more begun with_entry on_run on_entry on_line next_line on_end with_byte on_byte on_last said_if closing
readings = tt

unfoldable cases : Unit {0}
unfolding cycle reset_pages reset_machine leading decimal steps_line report_of case_line numbered_line fresh with_duration changed entered lent rejoined ran state_lines case_text
cases = tt

-- the reading after so many lines and cases, with eleven bytes of a line: a kind letter, two blanks, and the last digit of a number and of a word, whose other digits are 0
abbrev at : Session → ℕ → ℕ → ℕ → Session
at x k n w =
    record {
      line = k ∷ 32 ∷ 48 ∷ 48 ∷ 48 ∷ n ∷ 32 ∷ 48 ∷ 48 ∷ 48 ∷ w ∷ [];
      lines = x.lines;
      cases = x.cases;
      started = x.started;
      present = x.present;
    }

-- the words of memory, page registers, ports and durations that the present case lends
abbrev lends : Session → List ℕ
lends x = let l = x.present.lengths in l.memory ∷ l.pages ∷ l.ports ∷ l.durations ∷ []

-- the second word of memory, page register and port of the present case
abbrev seconds : Session → List ℕ
seconds x = let y = x.present.before in get_or y.memory 1 9 ∷ get_or y.pages 1 9 ∷ get_or y.ports 1 9 ∷ []

pub rows : List Row
unfolding machinery readings cases
rows =
    -- input::begin: the lines before the case taken for the cases before it; all words of memory but the last lent
    some (let x = begun 3 5 in x.lines ∷ x.cases ∷ lends x) (3 ∷ 5 ∷ 16384 ∷ 512 ∷ 1024 ∷ 257 ∷ []) (5 ∷ 3 ∷ 16384 ∷ 512 ∷ 1024 ∷ 257 ∷ []) (3 ∷ 5 ∷ 16383 ∷ 512 ∷ 1024 ∷ 257 ∷ [])
    -- input::take: "L 0002 0003" as the number of page registers that are lent; as the number of words of memory
    ∷ some (lends (on_byte (at (begun 0 0) 76 50 51) 10).session) (16384 ∷ 512 ∷ 3 ∷ 257 ∷ []) (16384 ∷ 3 ∷ 1024 ∷ 257 ∷ []) (3 ∷ 512 ∷ 1024 ∷ 257 ∷ [])
    -- input::take: "D 0001 0007" sets a port; the duration after it
    ∷ some (let x = (on_byte (at (begun 0 0) 68 49 55) 10).session in get_or x.present.durations 1 9 ∷ get_or x.present.durations 2 9 ∷ get_or x.present.before.ports 1 9 ∷ flag x.present.timed ∷ [])
    (7 ∷ 100 ∷ 0 ∷ 1 ∷ []) (100 ∷ 100 ∷ 7 ∷ 1 ∷ []) (100 ∷ 7 ∷ 0 ∷ 1 ∷ [])
    -- input::take: "O 0001 0007" sets a page register; a word of memory
    ∷ some (seconds (on_byte (at (begun 0 0) 79 49 55) 10).session) (0 ∷ 1 ∷ 7 ∷ []) (0 ∷ 7 ∷ 0 ∷ []) (7 ∷ 1 ∷ 0 ∷ [])
    -- input::take: a refused run reported with its budget as its steps; with the answer of one that is made
    ∷ some (take 24 (on_byte (at (on_byte (at (begun 0 0) 76 48 51) 10).session 71 48 50) 10).text)
    (99 ∷ 97 ∷ 115 ∷ 101 ∷ 32 ∷ 49 ∷ 32 ∷ 97 ∷ 110 ∷ 115 ∷ 119 ∷ 101 ∷ 114 ∷ 32 ∷ 49 ∷ 10 ∷ 115 ∷ 116 ∷ 101 ∷ 112 ∷ 115 ∷ 32 ∷ 48 ∷ 10 ∷ [])
    (99 ∷ 97 ∷ 115 ∷ 101 ∷ 32 ∷ 49 ∷ 32 ∷ 97 ∷ 110 ∷ 115 ∷ 119 ∷ 101 ∷ 114 ∷ 32 ∷ 49 ∷ 10 ∷ 115 ∷ 116 ∷ 101 ∷ 112 ∷ 115 ∷ 32 ∷ 50 ∷ 10 ∷ [])
    (99 ∷ 97 ∷ 115 ∷ 101 ∷ 32 ∷ 49 ∷ 32 ∷ 97 ∷ 110 ∷ 115 ∷ 119 ∷ 101 ∷ 114 ∷ 32 ∷ 48 ∷ 10 ∷ 115 ∷ 116 ∷ 101 ∷ 112 ∷ 115 ∷ 32 ∷ 48 ∷ 10 ∷ [])
    -- input::finish: the last line, "M 0001 0007", not read; read twice
    ∷ some (let x = (on_last (at (begun 3 0) 77 49 55)).session in x.lines ∷ seconds x) (4 ∷ 7 ∷ 1 ∷ 0 ∷ []) (3 ∷ 0 ∷ 1 ∷ 0 ∷ []) (5 ∷ 7 ∷ 1 ∷ 0 ∷ [])
    -- input::finish: a byte written where no line is left; a line counted there
    ∷ some (let h = on_last (begun 3 0) in length h.text ∷ h.session.lines ∷ []) (0 ∷ 3 ∷ []) (1 ∷ 3 ∷ []) (0 ∷ 4 ∷ [])
    -- input::close: the case after the unfinished one told; input said to be left unread where a case is unfinished
    ∷ some (closing true 4 false 7)
    (117 ∷ 110 ∷ 102 ∷ 105 ∷ 110 ∷ 105 ∷ 115 ∷ 104 ∷ 101 ∷ 100 ∷ 32 ∷ 99 ∷ 97 ∷ 115 ∷ 101 ∷ 32 ∷ 53 ∷ 10 ∷ [])
    (117 ∷ 110 ∷ 102 ∷ 105 ∷ 110 ∷ 105 ∷ 115 ∷ 104 ∷ 101 ∷ 100 ∷ 32 ∷ 99 ∷ 97 ∷ 115 ∷ 101 ∷ 32 ∷ 54 ∷ 10 ∷ [])
    (117 ∷ 110 ∷ 102 ∷ 105 ∷ 110 ∷ 105 ∷ 115 ∷ 104 ∷ 101 ∷ 100 ∷ 32 ∷ 99 ∷ 97 ∷ 115 ∷ 101 ∷ 32 ∷ 53 ∷ 10 ∷
    117 ∷ 110 ∷ 114 ∷ 101 ∷ 97 ∷ 100 ∷ 32 ∷ 97 ∷ 102 ∷ 116 ∷ 101 ∷ 114 ∷ 32 ∷ 108 ∷ 105 ∷ 110 ∷ 101 ∷ 32 ∷ 55 ∷ 10 ∷ [])
    ∷ []

pub rows-hold : T (hold rows)
unfolding rows machinery readings cases
rows-hold = tt
