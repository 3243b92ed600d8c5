-- Decimal numbers read, and a text cut at a byte. A text is the list of its bytes. Assumes nothing.
use Rattle.std.specs.Prelude.{ℕ, ◌+◌, ◌*◌, ◌-◌, Bool, true, false, cond, not, ◌&&◌, List, [], ◌∷◌, eqb, leb, length, get_or}

-- whether every byte is a decimal digit
unfoldable pub digits : List ℕ → Bool
digits [] = true
digits (b ∷ t) = (leb 48 b && leb b 57) && digits t

-- the number of some digits after the number v, of any size
unfoldable pub value : ℕ → List ℕ → ℕ
value v [] = v
value v (b ∷ t) = value (10 * v + (b - 48)) t

-- whether a text is neither empty nor starts with a needless zero
unfoldable pub plain : List ℕ → Bool
plain t = cond (eqb (length t) 0) false (cond (eqb (get_or t 0 0) 48) (eqb (length t) 1) true)

-- whether a text is a decimal number without needless zeros
unfoldable pub numeral : List ℕ → Bool
numeral t = plain t && digits t

-- the text before the first byte b, and the text from it on; all and nothing where there is none
unfoldable pub before : ℕ → List ℕ → List ℕ
before b [] = []
before b (x ∷ t) = cond (eqb x b) [] (x ∷ before b t)

unfoldable pub onward : ℕ → List ℕ → List ℕ
onward b [] = []
onward b (x ∷ t) = cond (eqb x b) (x ∷ t) (onward b t)

-- whether a text has no byte b
unfoldable pub lacks : ℕ → List ℕ → Bool
lacks b [] = true
lacks b (x ∷ t) = not (eqb x b) && lacks b t
