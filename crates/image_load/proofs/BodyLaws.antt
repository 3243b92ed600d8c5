-- The bodies of an image: turns of the loops that write them, where they lie, and their targets. Assumes nothing.
use Prim.Native.Nat.{ℕ, zero, suc, ◌+◌, ◌-◌, ◌*◌, ◌≤◌, ◌<◌}
use mathlib.Core.Path.{◌≡◌, refl, ap}
use mathlib.Core.List.{List}
use native.Mathlib.Omega.{arith}
use native.Mathlib.Nat.{add-zero, add-suc}
use native.Mathlib.Numerals.{add-one, sub-one}
use lib.ListN.{length, set}
use lib.Seq.{sets}
use borrow.Author.Tests.{eq-eqb, ne_eqb}
use Rattle.machine.specs.declared.State.{State}
use Rattle.machine.specs.declared.Core.{Core}
use Rattle.machine.specs.State.{with_regs, with_core}
use Rattle.machine.specs.Machine.{Machine, machine, Became}
use Rattle.image.specs.declared.Entry.{Entry}
use Rattle.image.specs.Image.{word_at, count_of, entry_at, words_before, table_end, body_at, words_from, target_size, end_of, control_of, with_control, with_words, with_body, with_bodies}
use Rattle.image.proofs.QuestionLaws.{words_more}
use Rattle.image.proofs.SoundLaws.{Sound}

-- ---- the words of one body

module _ (b : List ℕ) where
  pub words-none : (xs : List ℕ) (i a n : ℕ) → n ≤ 0 → sets xs i (words_from b a n) ≡ xs
  unfolding words_from
  words-none xs i a zero h = refl
  words-none xs i a (suc n) h = absurd (omega arith)

  pub words_step : (xs : List ℕ) (i a n v : ℕ) → 0 < n → v ≡ word_at b a
      → sets xs i (words_from b a n) ≡ sets (set xs i v) (i + 1) (words_from b (a + 2) (n - 1))
  unfolding words_from
  words_step xs i a zero v h e = absurd (omega arith)
  words_step xs i a (suc n) v h e = rw (sub-one, add-one, e) refl

  -- ---- one body after another: e is the first of those that are left, and its words start at byte a

  pub bodies-none : (n k : ℕ) (x : Machine) → n ≤ 0 → with_bodies b n k x ≡ x
  unfolding with_bodies
  bodies-none zero k x h = refl
  bodies-none (suc n) k x h = absurd (omega arith)

  words-grow : (k m : ℕ) → words_before b k ≤ words_before b (k + m)
  unfolding words_before
  words-grow k zero = rw add-zero (omega arith)
  words-grow k (suc m) = let h = words-grow k m in rw add-suc (omega arith)

  module _ (e : Entry) (k : ℕ) (f : e ≡ entry_at b k) (a : ℕ) (g : a ≡ body_at b k) where
    pub bodies-step : (n : ℕ) (x : Machine) → 0 < n
        → with_bodies b n k x ≡ with_bodies b (n - 1) (k + 1) (with_words e.kind e.start (words_from b a e.words) x)
    unfolding with_bodies with_body
    bodies-step zero x h = absurd (omega arith)
    bodies-step (suc n) x h = rw (sub-one, add-one, f, g) refl

    pub body-next : a + 2 * e.words ≡ body_at b (k + 1)
    unfolding body_at
    body-next = rw (f, g, words_more) (omega arith)

    -- the image has all its bytes
    pub body-inside : (memory : ℕ) → Sound memory b → (n : ℕ) → k + n ≡ count_of b → 0 < n → a + 2 * e.words ≤ length b
    unfolding body_at
    body-inside memory s n h l =
        let p : k + 1 + (n - 1) ≡ count_of b = omega arith in
        let w = rw p at (words-grow (k + 1) (n - 1)) in
        let q = body-next in
        let r = s.bodies in
        omega arith

  pub table-inside : (memory : ℕ) → Sound memory b → (k n : ℕ) → k + n ≡ count_of b → 0 < n → 12 + 10 * k ≤ length b
  unfolding table_end
  table-inside memory s k n h l = let t = s.table in omega arith

-- ---- the targets

-- the words that an entry fills, in a memory of m words
module _ (e : Entry) (m : ℕ) (h : end_of e ≤ target_size m e.kind) where
  pub within-memory : e.kind ≡ 1 → e.start + e.words ≤ m
  unfolding end_of target_size
  within-memory k = rw (eq-eqb _ _ k) at h

  module _ (n : e.kind ≡ 1 → ⊥) where
    pub within-pages : e.kind ≡ 2 → e.start + e.words ≤ 512
    unfolding end_of target_size
    within-pages k = rw (ne_eqb _ _ n, eq-eqb _ _ k) at h

    module _ (o : e.kind ≡ 2 → ⊥) where
      pub within-registers : e.kind ≡ 3 → e.start + e.words ≤ 16
      unfolding end_of target_size
      within-registers k = rw (ne_eqb _ _ n, ne_eqb _ _ o, eq-eqb _ _ k) at h

      pub within-control : (e.kind ≡ 3 → ⊥) → e.start + e.words ≤ 5
      unfolding end_of target_size
      within-control p = rw (ne_eqb _ _ n, ne_eqb _ _ o, ne_eqb _ _ p) at h

-- words written from word i of a kind on
module _ (kind i : ℕ) (ws : List ℕ) (s : State) (m g o : List ℕ) where
  pub to-memory : kind ≡ 1 → (v : List ℕ) → v ≡ sets m i ws → Became (with_words kind i ws (machine s m g o)) s v g o
  unfolding with_words
  to-memory k v e = rw (eq-eqb _ _ k) (record { state-is = refl; memory-is = e; pages-is = refl; ports-is = refl })

  module _ (n : kind ≡ 1 → ⊥) where
    pub to-pages : kind ≡ 2 → (v : List ℕ) → v ≡ sets g i ws → Became (with_words kind i ws (machine s m g o)) s m v o
    unfolding with_words
    to-pages k v e = rw (ne_eqb _ _ n, eq-eqb _ _ k) (record { state-is = refl; memory-is = refl; pages-is = e; ports-is = refl })

    module _ (l : kind ≡ 2 → ⊥) (v : State) where
      pub to-registers : kind ≡ 3 → v ≡ with_regs s (sets s.regs i ws) → Became (with_words kind i ws (machine s m g o)) v m g o
      unfolding with_words
      to-registers k e = rw (ne_eqb _ _ n, ne_eqb _ _ l, eq-eqb _ _ k) (record { state-is = e; memory-is = refl; pages-is = refl; ports-is = refl })

    pub to-control : (kind ≡ 2 → ⊥) → (kind ≡ 3 → ⊥) → (c : Core) → c ≡ with_control s.core (sets (control_of s.core) i ws)
        → Became (with_words kind i ws (machine s m g o)) (with_core s c) m g o
    unfolding with_words
    to-control l p c e =
        rw (ne_eqb _ _ n, ne_eqb _ _ l, ne_eqb _ _ p) (record { state-is = ap (with_core s) e; memory-is = refl; pages-is = refl; ports-is = refl })
