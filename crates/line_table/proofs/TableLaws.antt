-- The table is the entries of its places' first words. Assumes nothing.
use Rattle.std.proofs.Common.{◌≡◌, ℕ, zero, suc, ◌+◌, ◌<◌, List, [], ◌∷◌, get_or, Option, None, arith, ap, ◌∙◌}
use Rattle.line_table.specs.declared.Entry.{Entry}
use Rattle.line_table.specs.Entries.{entry_of, word_at}

-- the entries of n places from the k-th on
unfoldable pub entries_from : ℕ → ℕ → List (Option Entry)
entries_from k zero = []
entries_from k (suc n) = entry_of (word_at k) ∷ entries_from (suc k) n

pub entry-from : (n k i : ℕ) → i < n → get_or (entries_from k n) i None ≡ entry_of (word_at (k + i))
unfolding entries_from
entry-from zero k i h = let z : ⊥ = omega arith in absurd z
entry-from (suc n) k zero h = let e : k + 0 ≡ k = omega arith in ap (λ j. entry_of (word_at j)) (let z : k ≡ k + 0 = omega arith in z)
entry-from (suc n) k (suc i) h = let e : suc k + i ≡ k + suc i = omega arith in entry-from n (suc k) i (omega arith) ∙ ap (λ j. entry_of (word_at j)) e

pub table-entry : (i : ℕ) → i < 289 → get_or (entries_from 0 289) i None ≡ entry_of (word_at i)
table-entry i h = let e : 0 + i ≡ i = omega arith in entry-from 289 0 i h ∙ ap (λ j. entry_of (word_at j)) e
