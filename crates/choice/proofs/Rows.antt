-- Rows that the checker computes: a test of every row of a table; and rows of what a definition gives, the right answer, and two wrong answers, which it therefore does not give.
-- Assumes nothing.
use Prim.Native.Nat.{ℕ}
use mathlib.Core.Bool.{Bool, true, false, ◌&&◌, not, cond}
use mathlib.Core.List.{List, [], ◌∷◌}
use lib.Dec.{eqb}

-- whether two lists of numbers are equal
abbrev pub equal : List ℕ → List ℕ → Bool
equal [] [] = true
equal [] (y ∷ ys) = false
equal (x ∷ xs) [] = false
equal (x ∷ xs) (y ∷ ys) = eqb x y && equal xs ys

-- a mark as a number
abbrev pub flag : Bool → ℕ
flag b = cond b 1 0

-- whether every row of a table passes a test
abbrev pub all_of : {A : Type 0} → (A → Bool) → List A → Bool
all_of f [] = true
all_of f (r ∷ rs) = f r && all_of f rs

-- what a definition gives, the right answer, and two wrong ones: of a number, and of several
pub data Row : Type 0 where
  one : ℕ → ℕ → ℕ → ℕ → Row
  some : List ℕ → List ℕ → List ℕ → List ℕ → Row

abbrev pub right : Row → Bool
right (one got answer wrong other) = eqb got answer && not (eqb got wrong) && not (eqb got other)
right (some got answer wrong other) = equal got answer && not (equal got wrong) && not (equal got other)

abbrev pub hold : List Row → Bool
hold rs = all_of right rs
