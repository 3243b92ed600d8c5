-- Known numbers as text, computed. Assumes nothing.
use mathlib.Core.List.{[], ◌∷◌, ◌++◌}
use mathlib.Core.Path.{◌≡◌, refl}
use Rattle.text.specs.Texts.{digit, hex, leading, decimal}

-- the letters of "FEDC BA98", and of "0A5F"
letters : hex 65244 ++ (hex 47768 ++ hex 2655) ≡ 70 ∷ 69 ∷ 68 ∷ 67 ∷ 66 ∷ 65 ∷ 57 ∷ 56 ∷ 48 ∷ 65 ∷ 53 ∷ 70 ∷ []
unfolding digit hex
letters = refl

-- the least number, one with a zero inside, and the largest of 32 bits
decimal-0 : decimal 0 ≡ 48 ∷ []
unfolding leading decimal
decimal-0 = refl

decimal-1005 : decimal 1005 ≡ 49 ∷ 48 ∷ 48 ∷ 53 ∷ []
unfolding leading decimal
decimal-1005 = refl

decimal-largest : decimal 4294967295 ≡ 52 ∷ 50 ∷ 57 ∷ 52 ∷ 57 ∷ 54 ∷ 55 ∷ 50 ∷ 57 ∷ 53 ∷ []
unfolding leading decimal
decimal-largest = refl
