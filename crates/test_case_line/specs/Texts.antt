-- The lines of a case's text that the report does not have (docs/TEST-CASES.md). A text is the list of its bytes. Assumes nothing.
use Rattle.std.specs.Prelude.{ℕ, List, [], ◌∷◌, ◌++◌}
use Rattle.machine.specs.declared.State.{State}
use Rattle.text.specs.Texts.{newline, blank, hex, decimal, bytes_of}
use Rattle.packed.specs.Packed.{marks_of}

-- "case ", the case's number, " answer ", the number of the run's answer
unfoldable pub case_line : ℕ → ℕ → List ℕ
case_line n a =
    (99 ∷ 97 ∷ 115 ∷ 101 ∷ 32 ∷ [])
    ++ (decimal n
    ++ ((32 ∷ 97 ∷ 110 ∷ 115 ∷ 119 ∷ 101 ∷ 114 ∷ 32 ∷ [])
    ++ (decimal a ++ (newline ∷ []))))

-- timers, marks and counter: "ta ", " tb ", " marks ", " count "
unfoldable pub time_line : State → List ℕ
time_line s =
    (116 ∷ 97 ∷ 32 ∷ [])
    ++ (hex s.clock.ta
    ++ ((32 ∷ 116 ∷ 98 ∷ 32 ∷ [])
    ++ (hex s.clock.tb
    ++ ((32 ∷ 109 ∷ 97 ∷ 114 ∷ 107 ∷ 115 ∷ 32 ∷ [])
    ++ (hex (marks_of s)
    ++ ((32 ∷ 99 ∷ 111 ∷ 117 ∷ 110 ∷ 116 ∷ 32 ∷ [])
    ++ (decimal s.clock.count ++ (newline ∷ []))))))))

-- the remainders of timers A and B: "remainders "
unfoldable pub remainder_line : State → List ℕ
remainder_line s = bytes_of "remainders " ++ (decimal s.clock.rema ++ ((blank ∷ []) ++ (decimal s.clock.remb ++ (newline ∷ []))))

-- the memory fault status: "mfs "
unfoldable pub mfs_line : State → List ℕ
mfs_line s = bytes_of "mfs " ++ (hex s.core.faults.mfs ++ (newline ∷ []))

-- an entry: its kind letter, its number, its word
unfoldable pub entry_line : ℕ → ℕ → ℕ → List ℕ
entry_line k n w = (k ∷ []) ++ ((blank ∷ []) ++ (hex n ++ ((blank ∷ []) ++ (hex w ++ (newline ∷ [])))))
