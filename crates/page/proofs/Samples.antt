-- Page registers to begin from, for rows that are computed. Assumes nothing.
use Rattle.std.proofs.Common.{ℕ, zero, suc, List, [], ◌∷◌}

-- n groups of page registers after reset: each register holds its page number
abbrev pub groups : ℕ → List ℕ
groups zero = []
groups (suc n) = 0 ∷ 1 ∷ 2 ∷ 3 ∷ 4 ∷ 5 ∷ 6 ∷ 7 ∷ 8 ∷ 9 ∷ 10 ∷ 11 ∷ 12 ∷ 13 ∷ 14 ∷ 15 ∷ groups n

-- both sets of sixteen groups
abbrev pub reset_pages : List ℕ
reset_pages = groups 32
