-- The words that an operation reads, at most three, with the check of their accesses; and one store. Assumes nothing.
use Rattle.std.specs.Prelude.{◌≡◌, ℕ, ◌+◌, cond, List, nat_lt, slice_index, Err, Ok, Result}
use Rattle.page.specs.declared.Access.TheVariants.{Read, Write}
use Rattle.page.specs.declared.Span.{Span}
use Rattle.page.specs.declared.Refusal.{Refusal}
use Rattle.page.specs.Pages.{lookup}
use Rattle.page.specs.Spans.{wrapped, got_at, put_at, passed}
use Rattle.operand_words.specs.declared.Words.{Words}

-- x, y and z are the first three of the words
pub record FirstThree (ws : List ℕ) (x y z : ℕ) : Type 0 where
  pub first-is : x ≡ slice_index ws 0
  pub second_is : y ≡ slice_index ws 1
  pub third-is : z ≡ slice_index ws 2

abbrev pub complete : ℕ → ℕ → ℕ → Result Words Refusal
complete x y z = Ok (record { x = x; y = y; z = z })

-- the first three of the words, where the check is clear
unfoldable pub gathered : Result (Unit {0}) Refusal → List ℕ → Result Words Refusal
gathered (Ok u) ws = complete (slice_index ws 0) (slice_index ws 1) (slice_index ws 2)
gathered (Err b) ws = Err b

-- a word goes on, a refusal ends
unfoldable pub with_word : Result ℕ Refusal → (ℕ → Result Words Refusal) → Result Words Refusal
with_word (Ok w) f = f w
with_word (Err b) f = Err b

-- k words, one by one
module _ (key group : ℕ) (g : List ℕ) (size : ℕ) (m : List ℕ) (k : ℕ) where
  -- from the third on, at c, after x and y
  unfoldable pub from_third : ℕ → ℕ → ℕ → Result Words Refusal
  from_third x y c = cond (nat_lt 2 k) (with_word (got_at m (lookup Read key group g size c)) (λ z. complete x y z)) (complete x y 0)

  -- from the second on, at b, after x
  unfoldable pub from_second : ℕ → ℕ → Result Words Refusal
  from_second x b = cond (nat_lt 1 k) (with_word (got_at m (lookup Read key group g size b)) (λ y. from_third x y (wrapped (b + 1)))) (complete x 0 0)

-- the memory m after v is stored as word number j of the span, at the address a, where there is one
unfoldable pub stored_one : ℕ → ℕ → List ℕ → ℕ → Span → ℕ → ℕ → ℕ → List ℕ → List ℕ
stored_one key group g size p j a v m = cond (nat_lt j p.count) (passed p j m (put_at m (lookup Write key group g size a) v)) m
