-- The boxes of section 5 by first words and by mnemonics: the mnemonic's bytes, the first word with its fields 0, and the shapes of the operands.
-- Assumes nothing.
use Rattle.std.specs.Prelude.{ℕ, ◌+◌, ◌*◌, ◌/◌, ◌%◌, Bool, true, false, ◌&&◌, List, [], ◌∷◌, map, eqb}
use Rattle.std.proofs.Math.Option.{Option}
use Rattle.choice.specs.Search.{found}
use Rattle.text.specs.Texts.{bytes_of}
use Rattle.decode.specs.Pages.{Field, free, fixed, Line, pages}
use Rattle.decode.specs.Decode.{claims}
use Rattle.line_operand.specs.declared.Shape.{Shape}
use Rattle.line_operand.specs.Shapes.{shape_of}

-- whether two texts are the same
unfoldable pub same_text : List ℕ → List ℕ → Bool
same_text [] [] = true
same_text [] (y ∷ u) = false
same_text (x ∷ t) [] = false
same_text (x ∷ t) (y ∷ u) = eqb x y && same_text t u

-- whether t is a box's mnemonic
unfoldable pub named : List ℕ → Line → Bool
named t l = same_text (bytes_of l.name) t

-- whether a box claims the first word w, as the decoder asks it
abbrev pub claims_word : ℕ → Line → Bool
claims_word w l = claims (w / 256) (w / 16 % 16) (w % 16) l

-- the box that claims a first word, and the box with a mnemonic, if there is one
unfoldable pub box_of : ℕ → Option Line
box_of w = found (claims_word w) pages

unfoldable pub box_named : List ℕ → Option Line
box_named t = found (named t) pages

-- a box's first word with its fields 0: the first of its opcodes, and the extensions
abbrev pub extension : Field → ℕ
extension free = 0
extension (fixed x) = x

abbrev pub base_of : Line → ℕ
base_of l = 256 * l.first + 16 * extension l.upper + extension l.lower

-- the shapes of a box's operands
abbrev pub shapes_of : Line → List Shape
shapes_of l = map shape_of l.operands
