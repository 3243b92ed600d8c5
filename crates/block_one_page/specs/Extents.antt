-- Words that lie one after another in memory. Assumes nothing.
use Rattle.std.specs.Prelude.{ℕ, zero, suc, ◌+◌, ◌-◌, ◌%◌, cond, Option, Some, None, List, ltb, get_or, set, Err, Ok, Result}
use Rattle.page.specs.declared.Refusal.{Refusal}
use Rattle.page.specs.declared.Access.{Access}
use Rattle.page.specs.Pages.{lookup}

-- the place p of the first of count words, where all of them are inside the memory; else none
unfoldable pub fitting : ℕ → ℕ → Result ℕ Refusal → Option ℕ
fitting size count (Ok p) = cond (ltb (size - p) count) None (Some p)
fitting size count (Err b) = None

-- the place of the first of count words from the logical address a on, where all of them are of one page, open and inside the memory
unfoldable pub extent_of : Access → ℕ → ℕ → List ℕ → ℕ → ℕ → ℕ → Option ℕ
extent_of k key group g size a count = cond (ltb 4096 (a % 4096 + count)) None (fitting size count (lookup k key group g size a))

-- n words of a buffer, of which the first has the number i, are stored each at the place of its number
unfoldable pub stored_at : (ℕ → ℕ) → List ℕ → ℕ → ℕ → List ℕ → List ℕ
stored_at place buf zero i m = m
stored_at place buf (suc n) i m = stored_at place buf n (suc i) (set m (place i) (get_or buf i 0))
