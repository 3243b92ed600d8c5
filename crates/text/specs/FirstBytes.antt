-- The first bytes of a line, as a contract sees them. Assumes nothing.
use Rattle.std.specs.Prelude.{ℕ, ◌∷◌, [], ◌++◌, cond, nat_lt, List, length}

-- the bytes that are kept, and those of the room behind them, of which no clause says anything
pub record FirstBytes : Type 0 where
  pub items : List ℕ
  pub spare : List ℕ

-- the first n bytes of a line, of which these are kept, and of its next byte
unfoldable pub kept : ℕ → List ℕ → ℕ → List ℕ
kept n l b = cond (nat_lt (length l) n) (l ++ (b ∷ [])) l
