-- The questions to an image: the turns of their loops, and the answer at each exit. Assumes nothing.
use Prim.Native.Nat.{ℕ, zero, suc, ◌+◌, ◌-◌, ◌*◌, ◌≤◌, ◌<◌}
use mathlib.Core.Path.{◌≡◌, refl, sym, ap, ◌∙◌}
use mathlib.Core.Logic.{◌⊎◌}
use Rattle.std.proofs.Common.{inl, inr}
use mathlib.Core.Bool.{Bool, true, false, ◌||◌}
use mathlib.Core.List.{List}
use native.Mathlib.Omega.{arith}
use native.Mathlib.Numerals.{add-one, sub-one}
use lib.ListN.{length}
use lib.Dec.{eqb}
use borrow.Author.Tests.{eq-eqb, ne_eqb, le-leb, lt-leb, eqb-true, eqb-false}
use Rattle.std.specs.Prelude.{Ok, Err}
use Rattle.machine.specs.Runs.{asked}
use Rattle.image.specs.declared.Entry.{Entry}
use Rattle.image.specs.declared.Target.{Target}
use Rattle.image.specs.declared.Target.TheVariants.{Memory, Pages, Registers, Control}
use Rattle.image.specs.declared.LoadError.{LoadError}
use Rattle.image.specs.declared.LoadError.TheVariants.{NoCount, ManyEntries, ShortTable, BadKind, BadRange, SharedWord, BadBodies}
use Rattle.image.specs.Image.{count_of, entry_at, words_before, table_end, body_at, is_empty, unless_refused, kind_of, target_size, end_of, share, shares_earlier, entry_answer, entries_answer, table_answer, image_answer}

-- ---- the words of the bodies

pub words_more : (b : List ℕ) (k : ℕ) → words_before b (k + 1) ≡ words_before b k + (entry_at b k).words
unfolding words_before
words_more b k = rw add-one refl

-- ---- an entry and the earlier ones

module _ (b : List ℕ) (e : Entry) where
  pub shares-more : (k : ℕ) → share e (entry_at b k) ≡ false → shares_earlier b e k ≡ false → shares_earlier b e (k + 1) ≡ false
  unfolding shares_earlier
  shares-more k h g = rw (add-one, h) g

  pub shares-here : (k n : ℕ) → k < n → share e (entry_at b k) ≡ true → shares_earlier b e n ≡ true
  unfolding shares_earlier
  shares-here k zero l h = absurd (omega arith)
  shares-here k (suc n) l h = go (share e (entry_at b n)) refl (λ m. shares-here k n m h)
    where
      go : (t : Bool) → share e (entry_at b n) ≡ t → (k < n → shares_earlier b e n ≡ true) → t || shares_earlier b e n ≡ true
      go true q r = refl
      go false q r = r (apart (eqb k n) refl)
        where
          apart : (t : Bool) → eqb k n ≡ t → k < n
          apart true p = let z : true ≡ false = sym h ∙ ap (λ (j : ℕ). share e (entry_at b j)) (eqb-true _ _ p) ∙ q in cc
          apart false p = let z : k ≡ n → ⊥ = eqb-false _ _ p in omega arith

-- ---- the questions to one entry, e

-- the kinds of targets
pub known : (t : Target) → (1 ≤ kind_of t) × (kind_of t ≤ 4)
known Memory = (omega arith, omega arith)
known Pages = (omega arith, omega arith)
known Registers = (omega arith, omega arith)
known Control = (omega arith, omega arith)

module _ (memory : ℕ) (b : List ℕ) (k : ℕ) (e : Entry) (f : e ≡ entry_at b k) where
  pub unknown : (e.kind < 1) ⊎ (4 < e.kind) → Err BadKind ≡ entry_answer memory b k
  unfolding entry_answer asked
  unknown (inl h) = rw (← f, lt-leb _ _ h) refl
  unknown (inr h) = rw (← f, le-leb 1 e.kind (omega arith), lt-leb _ _ h) refl

  module _ (t : Target) (u : kind_of t ≡ e.kind) where
    pub no_words : e.words < 1 → Err BadRange ≡ entry_answer memory b k
    unfolding entry_answer asked
    no_words h = let i = known t in rw (← f, le-leb 1 e.kind (omega arith), le-leb e.kind 4 (omega arith), lt-leb _ _ h) refl

    module _ (some : 1 ≤ e.words) (size : ℕ) (g : size ≡ target_size memory (kind_of t)) (end : ℕ) (i : end ≡ end_of e) where
      pub outside : size < end → Err BadRange ≡ entry_answer memory b k
      unfolding entry_answer asked
      outside h = let j = known t in rw (← f, le-leb 1 e.kind (omega arith), le-leb e.kind 4 (omega arith), le-leb _ _ some, ← (g ∙ ap (target_size memory) u), ← i, lt-leb _ _ h) refl

      module _ (within : end ≤ size) (s : Bool) (j : s ≡ shares_earlier b e k) where
        pub shared : s ≡ true → Err SharedWord ≡ entry_answer memory b k
        unfolding entry_answer asked
        shared h = let l = known t in rw (← f, le-leb 1 e.kind (omega arith), le-leb e.kind 4 (omega arith), le-leb _ _ some, ← (g ∙ ap (target_size memory) u), ← i, le-leb _ _ within, ← j, h) refl

        pub entry-right : s ≡ false → Ok tt ≡ entry_answer memory b k
        unfolding entry_answer asked
        entry-right h = let l = known t in rw (← f, le-leb 1 e.kind (omega arith), le-leb e.kind 4 (omega arith), le-leb _ _ some, ← (g ∙ ap (target_size memory) u), ← i, le-leb _ _ within, ← j, h) refl

-- ---- the entries, one after another, the first of those that are left having the number k

module _ (memory : ℕ) (b : List ℕ) where
  pub entries_none : (n k : ℕ) → n ≤ 0 → entries_answer memory b n k ≡ Ok tt
  unfolding entries_answer
  entries_none zero k h = refl
  entries_none (suc n) k h = absurd (omega arith)

  pub entries-step : (n k : ℕ) → 0 < n → entries_answer memory b n k ≡ unless_refused (entry_answer memory b k) (entries_answer memory b (n - 1) (k + 1))
  unfolding entries_answer
  entries-step zero k h = absurd (omega arith)
  entries-step (suc n) k h = rw (sub-one, add-one) refl

  module _ (n k : ℕ) (h : 0 < n) where
    pub entries-on : Ok tt ≡ entry_answer memory b k → entries_answer memory b n k ≡ entries_answer memory b (n - 1) (k + 1)
    unfolding unless_refused
    entries-on e = entries-step n k h ∙ rw (← e) refl

    pub entries-out : (w : LoadError) → Err w ≡ entry_answer memory b k → entries_answer memory b n k ≡ Err w
    unfolding unless_refused
    entries-out w e = entries-step n k h ∙ rw (← e) refl

-- ---- the questions to an image, and to its table and bodies

module _ (memory : ℕ) (b : List ℕ) where
  pub no_bytes : length b ≡ 0 → Ok tt ≡ image_answer memory b
  unfolding image_answer is_empty asked
  no_bytes h = rw (eq-eqb _ _ h) refl

  module _ (some : length b ≡ 0 → ⊥) where
    pub no-count : length b < 2 → Err NoCount ≡ image_answer memory b
    unfolding image_answer is_empty asked
    no-count h = rw (ne_eqb _ _ some, lt-leb _ _ h) refl

    pub by-table : 2 ≤ length b → table_answer memory b ≡ image_answer memory b
    unfolding image_answer is_empty asked
    by-table h = rw (ne_eqb _ _ some, le-leb _ _ h) refl

  module _ (n : ℕ) (c : n ≡ count_of b) where
    pub many-entries : 64 < n → Err ManyEntries ≡ table_answer memory b
    unfolding table_answer asked
    many-entries h = rw (← c, lt-leb _ _ h) refl

    module _ (few : n ≤ 64) where
      pub short-table : length b < 2 + 10 * n → Err ShortTable ≡ table_answer memory b
      unfolding table_answer asked table_end
      short-table h = rw (← c, le-leb _ _ few, lt-leb _ _ h) refl

      module _ (table : 2 + 10 * n ≤ length b) where
        pub bad-entry : (w : LoadError) → Err w ≡ entries_answer memory b n 0 → Err w ≡ table_answer memory b
        unfolding table_answer asked table_end unless_refused
        bad-entry w e = rw (← c, le-leb _ _ few, le-leb _ _ table, ← e) refl

        module _ (e : Ok tt ≡ entries_answer memory b n 0) (w : ℕ) (g : w ≡ words_before b n) where
          pub bad-bodies : (length b ≡ 2 + 10 * n + 2 * w → ⊥) → Err BadBodies ≡ table_answer memory b
          unfolding table_answer asked table_end unless_refused body_at
          bad-bodies h = rw (← c, le-leb _ _ few, le-leb _ _ table, ← e, ← g, ne_eqb _ _ h) refl

          pub table-right : length b ≡ 2 + 10 * n + 2 * w → Ok tt ≡ table_answer memory b
          unfolding table_answer asked table_end unless_refused body_at
          table-right h = rw (← c, le-leb _ _ few, le-leb _ _ table, ← e, ← g, eq-eqb _ _ h) refl
