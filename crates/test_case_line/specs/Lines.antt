-- Input lines (docs/TEST-CASES.md). A line is the list of its bytes, of which no more than twelve are looked at. Assumes nothing.
use Rattle.std.specs.Prelude.{ℕ, cond, List, length, eqb, ltb, leb, get_or, Result, Ok, Err, Option, Some, None}
use Rattle.text.specs.Texts.{word_of}
use Rattle.test_case_line.specs.declared.Entry.{Entry}
use Rattle.test_case_line.specs.declared.Malformed.{Malformed}
use Rattle.test_case_line.specs.declared.kind.Kind.{Kind}
use Rattle.test_case_line.specs.declared.kind.Kind.TheVariants.{State, Memory, Page, Port, Duration, Length, Run}
use Rattle.test_case_line.specs.Kinds.{malformed, kind_of, size_of}
use Rattle.test_case_line.specs.Lent.{lent_of, words_of}

abbrev pub entry : Kind → ℕ → ℕ → Entry
entry k n w = record { kind = k; number = n; word = w }

-- the largest word: a length is at most the words that there are (memory, page registers, ports, durations)
abbrev pub limit_of : Kind → ℕ → ℕ
limit_of State n = 65535
limit_of Memory n = 65535
limit_of Page n = 65535
limit_of Port n = 65535
limit_of Duration n = 65535
limit_of Length n = words_of (lent_of n)
limit_of Run n = 65535

-- an entry, if its kind has the number and its word is not too large
unfoldable pub entry_of : Kind → ℕ → ℕ → Result (Option Entry) Malformed
entry_of k n w = cond (leb (size_of k) n) (Err malformed) (cond (ltb (limit_of k n) w) (Err malformed) (Ok (Some (entry k n w))))

-- the same, if its letter has a kind, and its number and its word have four digits
unfoldable pub entry_by : Result Kind Malformed → Option ℕ → Option ℕ → Result (Option Entry) Malformed
entry_by (Err e) n w = Err e
entry_by (Ok k) None w = Err malformed
entry_by (Ok k) (Some n) None = Err malformed
entry_by (Ok k) (Some n) (Some w) = entry_of k n w

-- none for a remark, which "#" starts; of an entry blanks stand at 1 and 6, digits at 2 to 5 and 7 to 10
unfoldable pub line_of : List ℕ → Result (Option Entry) Malformed
line_of l =
    cond (eqb (length l) 0) (Err malformed)
    (cond (eqb (get_or l 0 0) 35) (Ok None)
    (cond (eqb (length l) 11)
    (cond (eqb (get_or l 1 0) 32)
    (cond (eqb (get_or l 6 0) 32)
    (entry_by (kind_of (get_or l 0 0))
    (word_of (get_or l 2 0) (get_or l 3 0) (get_or l 4 0) (get_or l 5 0))
    (word_of (get_or l 7 0) (get_or l 8 0) (get_or l 9 0) (get_or l 10 0)))
    (Err malformed)) (Err malformed)) (Err malformed)))
