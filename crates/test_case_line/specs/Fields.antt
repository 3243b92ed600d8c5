-- The words of the state by their numbers (docs/TEST-CASES.md). Assumes nothing.
use Rattle.std.specs.Prelude.{ℕ, [], ◌∷◌, set}
use Rattle.choice.specs.Select.{select}
use Rattle.machine.specs.declared.State.{State}
use Rattle.packed.specs.Packed.{unpacked, packed}

-- the packed word that a number names: 24 and 25 are the counter's words, 26 and 27 the remainders of timers A and B, 28 the
-- memory fault status, any other is its own
unfoldable pub place_of : ℕ → ℕ
place_of n = select n ((24, 32) ∷ (25, 33) ∷ (26, 24) ∷ (27, 25) ∷ (28, 26) ∷ []) n

-- the state with the word of a number changed
unfoldable pub with_word : State → ℕ → ℕ → State
with_word s n w = unpacked (set (packed s) (place_of n) w)
