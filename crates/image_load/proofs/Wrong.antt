-- Wrong answers of the contract that users call, beside the right one, which the checker computes. Assumes nothing.
use mathlib.Core.List.{List, [], ◌∷◌}
use lib.Dec.{T}
use Rattle.choice.proofs.Rows.{Row, some, hold}
use Rattle.machine.proofs.Opened.{machinery}
use Rattle.image.specs.Image.{control_of, after_loading}
use Rattle.image.proofs.Opened.{images}
use Rattle.image_load.proofs.Rows.{given, entry, image}

pub rows : List Row
unfolding machinery images
rows =
    -- load: MK is loaded from the word of PI; a body is written from word 0 of its target on
    some (control_of (after_loading (image 1 (entry 4 1 2) (5 ∷ 6 ∷ [])) (given 4096 512 1024)).state.core) (0 ∷ 5 ∷ 6 ∷ 0 ∷ 0 ∷ []) (0 ∷ 5 ∷ 0 ∷ 0 ∷ 0 ∷ []) (5 ∷ 6 ∷ 0 ∷ 0 ∷ 0 ∷ [])
    ∷ []

pub rows-hold : T (hold rows)
unfolding rows machinery images
rows-hold = tt
