-- Three words, one by one. Assumes nothing.
use Rattle.std.proofs.Common.{◌≡◌, ℕ, List, [], ◌∷◌, length, get_or, refl, arith}

pub three-are : (ws : List ℕ) → length ws ≡ 3 → get_or ws 0 0 ∷ get_or ws 1 0 ∷ get_or ws 2 0 ∷ [] ≡ ws
three-are [] e = absurd (omega (arith, e))
three-are (x ∷ []) e = absurd (omega (arith, e))
three-are (x ∷ y ∷ []) e = absurd (omega (arith, e))
three-are (x ∷ y ∷ z ∷ []) e = refl
three-are (x ∷ y ∷ z ∷ w ∷ ws) e = absurd (omega (arith, e))
