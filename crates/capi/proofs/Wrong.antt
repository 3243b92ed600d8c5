-- Wrong answers of the calls, beside the right ones, which the checker computes. Assumes nothing.
use Prim.Native.Nat.{ℕ}
use mathlib.Core.List.{List, [], ◌∷◌}
use lib.Dec.{T}
use lib.ListN.{replicate}
use Rattle.choice.proofs.Rows.{Row, some, hold}
use Rattle.machine.proofs.Opened.{machinery}
use Rattle.image.proofs.Opened.{images}
use Rattle.packed.specs.Packed.{marks, marked, mark_at, marks_of, with_marks, layout, unpacked, packed}
use Rattle.capi.specs.Calls.{reply, sized, given, loading, running}

-- opens the definitions of the calls at once
unfoldable calls : Unit {0}
unfolding marks marked mark_at marks_of with_marks layout unpacked packed reply sized given loading running
calls = tt

-- the answer to loading an image of no entries, and to a run of no steps, with so many packed words and page registers
abbrev loads : ℕ → ℕ → ℕ
loads words pages = (loading (replicate words 0) (replicate 4096 0) (replicate pages 0) (replicate 1024 0) (0 ∷ 0 ∷ [])).answer

abbrev runs : ℕ → ℕ → ℕ
runs words pages = (running (replicate words 0) (replicate 4096 0) (replicate pages 0) (replicate 1024 0) 0 (replicate 257 0)).answer

-- the answer to a run of no steps with so many page registers and durations
abbrev timed : ℕ → ℕ → ℕ
timed pages durations = (running (replicate 256 0) (replicate 4096 0) (replicate pages 0) (replicate 1024 0) 0 (replicate durations 0)).answer

pub rows : List Row
unfolding machinery images calls
rows =
    -- call_load::twin1750_load: another number of packed words is refused by 12; 257 packed words are accepted
    some (loads 256 512 ∷ loads 255 512 ∷ loads 257 512 ∷ []) (0 ∷ 100 ∷ 100 ∷ []) (0 ∷ 12 ∷ 12 ∷ []) (0 ∷ 100 ∷ 0 ∷ [])
    -- call_run::twin1750_run: a refused run answers 0; the packed words are asked for last
    ∷ some (runs 256 512 ∷ runs 256 511 ∷ runs 255 511 ∷ []) (0 ∷ 2 ∷ 100 ∷ []) (0 ∷ 0 ∷ 100 ∷ []) (0 ∷ 2 ∷ 2 ∷ [])
    -- call_run::twin1750_run: the durations are asked for before the page registers; 256 durations are not refused
    ∷ some (timed 511 256 ∷ timed 512 256 ∷ timed 512 257 ∷ []) (2 ∷ 17 ∷ 0 ∷ []) (17 ∷ 17 ∷ 0 ∷ []) (2 ∷ 0 ∷ 0 ∷ [])
    ∷ []

pub rows-hold : T (hold rows)
unfolding rows machinery images calls
rows-hold = tt
