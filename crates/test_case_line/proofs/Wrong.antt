-- Two wrong answers of each contract that other crates call, beside the right one, which the checker computes. Assumes nothing.
use Rattle.std.proofs.Common.{ℕ, true, false, List, [], ◌∷◌, ◌++◌, T, set, replicate, Option, Some, None, Result, Ok, Err}
use Rattle.choice.proofs.Rows.{Row, some, hold}
use Rattle.machine.specs.declared.State.{State}
use Rattle.machine.proofs.Opened.{machinery}
use Rattle.text.specs.Texts.{bytes_of, digit, hex, leading, decimal, digit_of, word_by, word_of}
use Rattle.packed.specs.Packed.{marks, marked, mark_at, marks_of, with_marks, layout, unpacked, packed}
use Rattle.test_case_line.specs.declared.Entry.{Entry}
use Rattle.test_case_line.specs.declared.Malformed.{Malformed}
use Rattle.test_case_line.specs.declared.kind.Kind.{Kind}
use Rattle.test_case_line.specs.declared.kind.Kind.TheVariants.{State as StateWord, Memory, Page, Port, Duration, Length, Run}
use Rattle.test_case_line.specs.Kinds.{kind_of}
use Rattle.test_case_line.specs.Lent.{lent_of, words_of}
use Rattle.test_case_line.specs.Lines.{entry_of, entry_by, line_of}
use Rattle.test_case_line.specs.Fields.{place_of, with_word}
use Rattle.test_case_line.specs.Texts.{case_line, time_line, remainder_line, mfs_line, entry_line}

abbrev s : State
s =
    record {
      regs = replicate 16 0;
      core = record { ic = 1; sw = 2; mk = 3; pi = 4; faults = record { ft = 5; mfs = 6 }; enabled = true; hold = false };
      clock = record { ta = 10; tb = 20; rema = 30; remb = 40; taon = true; tbon = false; count = 12 };
    }

-- opens the definitions of lines at once, and those of the state and of texts
unfoldable lines : Unit {0}
unfolding digit_of word_by word_of kind_of entry_of entry_by line_of
lines = tt

unfoldable texts : Unit {0}
unfolding bytes_of place_of with_word marks marked mark_at marks_of with_marks layout unpacked packed digit hex leading decimal case_line time_line remainder_line mfs_line entry_line
texts = tt

-- the letter of a kind
abbrev letter : Kind → ℕ
letter StateWord = 83
letter Memory = 77
letter Page = 80
letter Port = 79
letter Duration = 68
letter Length = 76
letter Run = 71

-- an entry's kind, number and word; 1 for a remark, 2 for neither
abbrev parts : Result (Option Entry) Malformed → List ℕ
parts (Ok None) = 1 ∷ []
parts (Ok (Some e)) = letter e.kind ∷ e.number ∷ e.word ∷ []
parts (Err e) = 2 ∷ []

pub rows : List Row
unfolding machinery lines texts
rows =
    -- lines::read: number and word exchanged; the letters A to F as 11 to 16
    some (parts (line_of (77 ∷ 32 ∷ 48 ∷ 48 ∷ 49 ∷ 50 ∷ 32 ∷ 48 ∷ 48 ∷ 65 ∷ 66 ∷ [])))
    (77 ∷ 0x0012 ∷ 0x00AB ∷ []) (77 ∷ 0x00AB ∷ 0x0012 ∷ []) (77 ∷ 0x0012 ∷ 0x00BC ∷ [])
    -- lines::read: the letter of a port read as that of a page register; as that of a word of the state
    ∷ some (parts (line_of (79 ∷ 32 ∷ 48 ∷ 48 ∷ 49 ∷ 50 ∷ 32 ∷ 48 ∷ 48 ∷ 65 ∷ 66 ∷ [])))
    (79 ∷ 0x0012 ∷ 0x00AB ∷ []) (80 ∷ 0x0012 ∷ 0x00AB ∷ []) (83 ∷ 0x0012 ∷ 0x00AB ∷ [])
    -- kind::of: the page registers for the ports; the durations for them
    ∷ some (words_of (lent_of 2) ∷ []) (1024 ∷ []) (512 ∷ []) (257 ∷ [])
    -- set::put: the word before; the word after
    ∷ some (set (5 ∷ 6 ∷ 7 ∷ []) 1 9) (5 ∷ 9 ∷ 7 ∷ []) (9 ∷ 6 ∷ 7 ∷ []) (5 ∷ 6 ∷ 9 ∷ [])
    -- set::state: PI set by the number of MK; SW set by the number of MK
    ∷ some (let t = with_word s 18 9 in t.core.sw ∷ t.core.mk ∷ t.core.pi ∷ []) (2 ∷ 9 ∷ 4 ∷ []) (2 ∷ 3 ∷ 9 ∷ []) (9 ∷ 3 ∷ 4 ∷ [])
    -- set::state: the remainder of timer B set by the number of timer A's; the high word of the counter set by it
    ∷ some (let t = with_word s 26 9 in t.clock.rema ∷ t.clock.remb ∷ t.clock.count ∷ []) (9 ∷ 40 ∷ 12 ∷ []) (30 ∷ 9 ∷ 12 ∷ []) (30 ∷ 40 ∷ 589836 ∷ [])
    -- set::state: the counter's high word set by the number of its low word; the counter left as it was
    ∷ some ((with_word s 25 9).clock.count ∷ []) (9 ∷ []) (589836 ∷ []) (12 ∷ [])
    -- set::state: the memory fault status left as it was; FT set by its number
    ∷ some (let t = with_word s 28 9 in t.core.faults.ft ∷ t.core.faults.mfs ∷ []) (5 ∷ 9 ∷ []) (5 ∷ 6 ∷ []) (9 ∷ 6 ∷ [])
    -- output::case_line: number and answer exchanged; the newline left out
    ∷ some (case_line 7 5)
    (99 ∷ 97 ∷ 115 ∷ 101 ∷ 32 ∷ 55 ∷ 32 ∷ 97 ∷ 110 ∷ 115 ∷ 119 ∷ 101 ∷ 114 ∷ 32 ∷ 53 ∷ 10 ∷ [])
    (99 ∷ 97 ∷ 115 ∷ 101 ∷ 32 ∷ 53 ∷ 32 ∷ 97 ∷ 110 ∷ 115 ∷ 119 ∷ 101 ∷ 114 ∷ 32 ∷ 55 ∷ 10 ∷ [])
    (99 ∷ 97 ∷ 115 ∷ 101 ∷ 32 ∷ 55 ∷ 32 ∷ 97 ∷ 110 ∷ 115 ∷ 119 ∷ 101 ∷ 114 ∷ 32 ∷ 53 ∷ [])
    -- output::time_line: the timers exchanged; the counter in hexadecimal
    ∷ some (time_line s)
    (116 ∷ 97 ∷ 32 ∷ 48 ∷ 48 ∷ 48 ∷ 65 ∷ 32 ∷ 116 ∷ 98 ∷ 32 ∷ 48 ∷ 48 ∷ 49 ∷ 52 ∷ 32 ∷ 109 ∷ 97 ∷ 114 ∷ 107 ∷ 115 ∷ 32 ∷ 48 ∷ 48 ∷
    48 ∷ 53 ∷ 32 ∷ 99 ∷ 111 ∷ 117 ∷ 110 ∷ 116 ∷ 32 ∷ 49 ∷ 50 ∷ 10 ∷ [])
    (116 ∷ 97 ∷ 32 ∷ 48 ∷ 48 ∷ 49 ∷ 52 ∷ 32 ∷ 116 ∷ 98 ∷ 32 ∷ 48 ∷ 48 ∷ 48 ∷ 65 ∷ 32 ∷ 109 ∷ 97 ∷ 114 ∷ 107 ∷ 115 ∷ 32 ∷ 48 ∷ 48 ∷
    48 ∷ 53 ∷ 32 ∷ 99 ∷ 111 ∷ 117 ∷ 110 ∷ 116 ∷ 32 ∷ 49 ∷ 50 ∷ 10 ∷ [])
    (116 ∷ 97 ∷ 32 ∷ 48 ∷ 48 ∷ 48 ∷ 65 ∷ 32 ∷ 116 ∷ 98 ∷ 32 ∷ 48 ∷ 48 ∷ 49 ∷ 52 ∷ 32 ∷ 109 ∷ 97 ∷ 114 ∷ 107 ∷ 115 ∷ 32 ∷ 48 ∷ 48 ∷
    48 ∷ 53 ∷ 32 ∷ 99 ∷ 111 ∷ 117 ∷ 110 ∷ 116 ∷ 32 ∷ 67 ∷ 10 ∷ [])
    -- output::remainder_line: the remainders exchanged; the timers in their place
    ∷ some (remainder_line s) (bytes_of "remainders 30 40" ++ (10 ∷ [])) (bytes_of "remainders 40 30" ++ (10 ∷ [])) (bytes_of "remainders 10 20" ++ (10 ∷ []))
    -- output::mfs_line: FT in its place; without its zeros
    ∷ some (mfs_line s) (bytes_of "mfs 0006" ++ (10 ∷ [])) (bytes_of "mfs 0005" ++ (10 ∷ [])) (bytes_of "mfs 6" ++ (10 ∷ []))
    -- output::entry_line: number and word exchanged; the kind without a blank after it
    ∷ some (entry_line 77 0x0012 0x00AB)
    (77 ∷ 32 ∷ 48 ∷ 48 ∷ 49 ∷ 50 ∷ 32 ∷ 48 ∷ 48 ∷ 65 ∷ 66 ∷ 10 ∷ [])
    (77 ∷ 32 ∷ 48 ∷ 48 ∷ 65 ∷ 66 ∷ 32 ∷ 48 ∷ 48 ∷ 49 ∷ 50 ∷ 10 ∷ [])
    (77 ∷ 48 ∷ 48 ∷ 49 ∷ 50 ∷ 32 ∷ 48 ∷ 48 ∷ 65 ∷ 66 ∷ 10 ∷ [])
    ∷ []

pub rows-hold : T (hold rows)
unfolding rows machinery lines texts
rows-hold = tt
