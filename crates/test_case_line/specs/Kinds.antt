-- The kinds of entries (docs/TEST-CASES.md): "S" a word of the state, "M" of memory, "P" a page register, "O" a port, "D" a duration, "L" a length, "G" a run.
-- Assumes nothing.
use Rattle.std.specs.Prelude.{ℕ, [], ◌∷◌, Result, Ok, Err}
use Rattle.choice.specs.Select.{select}
use Rattle.test_case_line.specs.declared.Malformed.{Malformed}
use Rattle.test_case_line.specs.declared.kind.Kind.{Kind}
use Rattle.test_case_line.specs.declared.kind.Kind.TheVariants.{State, Memory, Page, Port, Duration, Length, Run}

-- the error of a line that is neither a remark nor an entry
abbrev pub malformed : Malformed
malformed = record {}

-- the kind of a letter
unfoldable pub kind_of : ℕ → Result Kind Malformed
kind_of k = select k ((83, Ok State) ∷ (77, Ok Memory) ∷ (80, Ok Page) ∷ (79, Ok Port) ∷ (68, Ok Duration) ∷ (76, Ok Length) ∷ (71, Ok Run) ∷ []) (Err malformed)

-- how many numbers a kind has
abbrev pub size_of : Kind → ℕ
size_of State = 29
size_of Memory = 16384
size_of Page = 512
size_of Port = 1024
size_of Duration = 258
size_of Length = 4
size_of Run = 65536
