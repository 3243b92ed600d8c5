-- A box as an entry of the table, which the code keeps of it. Assumes nothing.
use Rattle.std.specs.Prelude.{ℕ, ◌+◌, ◌*◌, ◌-◌, ◌<◌, ◌≡◌, cond, List, [], ◌∷◌, ◌++◌, length, eqb, ltb, get_or, Option, None, Some}
use Rattle.std.proofs.Math.Option.{Option as Box, none, some}
use Rattle.text.specs.Texts.{bytes_of}
use Rattle.decode.specs.Pages.{Line}
use Rattle.line_operand.specs.declared.Shape.{Shape}
use Rattle.line_operand.specs.Shapes.{shape_of}
use Rattle.line_table.specs.declared.Entry.{Entry}
use Rattle.line_table.specs.Boxes.{box_of, box_named, base_of}

-- ---- an entry

-- a text of at most four bytes, filled up with blanks
unfoldable pub filled : List ℕ → List ℕ
filled t = get_or t 0 32 ∷ get_or t 1 32 ∷ get_or t 2 32 ∷ get_or t 3 32 ∷ []

-- three operands by their numbers; 0 is no operand
unfoldable pub three : List ℕ → List ℕ
three os = get_or os 0 0 ∷ get_or os 1 0 ∷ get_or os 2 0 ∷ []

unfoldable pub entry : Line → Entry
entry l = record { name = filled (bytes_of l.name); operands = three l.operands; base = base_of l }

unfoldable pub entry_in : Box Line → Option Entry
entry_in none = None
entry_in (some l) = Some (entry l)

-- the entry of the box that claims a first word
unfoldable pub entry_of : ℕ → Option Entry
entry_of w = entry_in (box_of w)

-- ---- the parts of an entry

-- a letter of a mnemonic, unless it is a blank
unfoldable pub letter : ℕ → List ℕ
letter b = cond (eqb b 32) [] (b ∷ [])

-- the letters of a name that is filled up
unfoldable pub letters : List ℕ → List ℕ
letters [] = []
letters (b ∷ t) = letter b ++ letters t

-- the shapes of its three operands
unfoldable pub shapes_in : Entry → List Shape
shapes_in e = shape_of (get_or e.operands 0 0) ∷ shape_of (get_or e.operands 1 0) ∷ shape_of (get_or e.operands 2 0) ∷ []

-- ---- the table's places: the opcodes, the extensions under 40 to 43, those under 4A, and FFFF

-- the first word of a place
unfoldable pub word_at : ℕ → ℕ
word_at k = cond (ltb k 256) (256 * k) (cond (ltb k 272) (16384 + 16 * (k - 256)) (cond (ltb k 288) (18944 + (k - 272)) 65535))

-- whether an entry has a name that is filled up
abbrev pub Has : List ℕ → Option Entry → Type 0
Has name None = ⊥
Has name (Some e) = e.name ≡ name

-- names that are filled up, each with the place of an entry that has it; among them that of each mnemonic t that begins with the byte x
pub record Listed (x : ℕ) (ns : List (List ℕ × ℕ)) : Type 0 where
  pub right : (i : ℕ) → i < length ns → ((get_or ns i ([], 0)).1 < 289) × Has (get_or ns i ([], 0)).0 (entry_of (word_at (get_or ns i ([], 0)).1))
  pub every : (t : List ℕ) (l : Line) → box_named t ≡ some l → get_or t 0 32 ≡ x → (i : ℕ) × (i < length ns) × ((get_or ns i ([], 0)).0 ≡ filled t)
