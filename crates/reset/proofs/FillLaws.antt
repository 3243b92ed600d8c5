-- A loop that fills a list from the front with the values of a function. Assumes nothing.
use Prim.Native.Nat.{ℕ, zero, suc, ◌+◌, ◌≤◌, ◌<◌}
use mathlib.Core.Path.{◌≡◌, refl, ap, ◌∙◌}
use mathlib.Core.List.{List, [], ◌∷◌, ◌++◌, append-nil}
use native.Mathlib.Omega.{arith}
use native.Mathlib.Nat.{zero-add, add-zero, add-suc, suc-add}
use native.Mathlib.Numerals.{add-one}
use lib.ListN.{length, set, drop, length-append, length-drop}
use lib.Seq.{drop-length}
use Rattle.choice.specs.Table.{table_of}

length-table : (f : ℕ → ℕ) (i n : ℕ) → length (table_of f i n) ≡ n
length-table f i zero = refl
length-table f i (suc n) = ap suc (length-table f (suc i) n)

-- one more value stored
fill_suc : (f : ℕ → ℕ) (i n : ℕ) (d : List ℕ) → n < length d → set (table_of f i n ++ drop n d) n (f (i + n)) ≡ table_of f i (suc n) ++ drop (suc n) d
fill_suc f i n [] h = absurd (omega arith)
fill_suc f i zero (x ∷ d) h = rw add-zero refl
fill_suc f i (suc n) (x ∷ d) h = rw (add-suc, ← suc-add) (ap (λ (l : List ℕ). f i ∷ l) (fill_suc f (suc i) n d (omega arith)))

-- the list xs: d with its first n elements replaced by those values
pub record Filled (f : ℕ → ℕ) (d : List ℕ) (n : ℕ) (xs : List ℕ) : Type 0 where
  pub within : n ≤ length d
  pub filled : xs ≡ table_of f 0 n ++ drop n d

module _ (f : ℕ → ℕ) (d : List ℕ) where
  pub filled_none : Filled f d 0 d
  filled_none = record { within = omega arith; filled = refl }

  pub filled-length : (n : ℕ) (xs : List ℕ) → Filled f d n xs → length xs ≡ length d
  filled-length n xs p =
      ap length p.filled ∙ simp (length-append, length-table, length-drop) (omega arith)

  pub filled_more : (n : ℕ) (xs : List ℕ) (v : ℕ) → Filled f d n xs → n < length xs → v ≡ f n → Filled f d (n + 1) (set xs n v)
  filled_more n xs v p h e =
      let l = filled-length n xs p in
      record { within = omega arith; filled = rw (p.filled, e, add-one) (rw zero-add at (fill_suc f 0 n d (omega arith))) }

  pub filled-all : (n : ℕ) (xs : List ℕ) → Filled f d n xs → length xs ≤ n → xs ≡ table_of f 0 (length d)
  filled-all n xs p h =
      let l = filled-length n xs p in
      let e : n ≡ length d = omega arith in
      p.filled ∙ rw (e, drop-length, append-nil) refl
