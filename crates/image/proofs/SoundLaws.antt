-- What an accepted image is known to have: every question was answered by "yes". Assumes nothing.
use Prim.Native.Nat.{ℕ, ◌+◌, ◌-◌, ◌≤◌, ◌<◌}
use mathlib.Core.Path.{◌≡◌, refl, sym}
use mathlib.Core.Bool.{Bool, true, false, ◌&&◌}
use mathlib.Core.List.{List}
use native.Mathlib.Omega.{arith}
use lib.Dec.{leb}
use lib.ListN.{length}
use borrow.Author.Tests.{eqb-true, ne_eqb, leb-true}
use Rattle.std.specs.Prelude.{Ok, Err}
use Rattle.machine.proofs.RunLaws.{asked-yes, asked_all-yes, sizes-fit}
use Rattle.machine.specs.declared.SizeError.TheVariants.{BadMemory, BadPages, BadPorts}
use Rattle.machine.specs.Runs.{size_number}
use Rattle.image.specs.declared.Entry.{Entry}
use Rattle.image.specs.declared.LoadError.{LoadError}
use Rattle.image.specs.declared.LoadError.TheVariants.{BadSize, NoCount, ManyEntries, ShortTable, BadKind, BadRange, SharedWord, BadBodies}
use Rattle.image.specs.Image.{count_of, entry_at, table_end, body_at, Answer, number_of, is_empty, unless_refused, target_size, end_of, entry_answer, entries_answer, table_answer, image_answer, admission}
use Rattle.image.proofs.QuestionLaws.{entries-step}

then-yes : (a rest : Answer) → unless_refused a rest ≡ Ok tt → (a ≡ Ok tt) × (rest ≡ Ok tt)
unfolding unless_refused
then-yes (Ok u) rest h = (refl, h)
then-yes (Err e) rest h = cc

pub and_yes : (s t : Bool) → (s && t) ≡ true → (s ≡ true) × (t ≡ true)
and_yes true t e = (refl, e)
and_yes false t e = cc

module _ (memory : ℕ) (b : List ℕ) where
  -- an entry that is accepted has a target, and lies within it
  entry-within : (k : ℕ) → entry_answer memory b k ≡ Ok tt → (1 ≤ (entry_at b k).kind) × ((entry_at b k).kind ≤ 4) × (end_of (entry_at b k) ≤ target_size memory (entry_at b k).kind)
  unfolding entry_answer
  entry-within k h =
      let p = asked-yes _ _ _ h in
      let q = and_yes (leb 1 (entry_at b k).kind) _ p.0 in
      (leb-true _ _ q.0, leb-true _ _ q.1, leb-true _ _ (and_yes (leb 1 (entry_at b k).words) _ (asked-yes _ _ _ p.1).0).1)

  module _ (n k : ℕ) (l : 0 < n) (h : entries_answer memory b n k ≡ Ok tt) where
    -- so does the first of those that are left
    pub entries-within : (e : Entry) → e ≡ entry_at b k → (m : ℕ) → m ≡ memory → (1 ≤ e.kind) × (e.kind ≤ 4) × (end_of e ≤ target_size m e.kind)
    entries-within e f m z = rw (f, z) (entry-within k (then-yes _ _ (rw (entries-step memory b n k l) at h)).0)

    pub entries-rest : entries_answer memory b (n - 1) (k + 1) ≡ Ok tt
    entries-rest = (then-yes _ _ (rw (entries-step memory b n k l) at h)).1

  -- what an accepted image of some bytes has
  pub record Sound : Type 0 where
    pub counted : 2 ≤ length b
    pub table : table_end b ≤ length b
    pub entries : entries_answer memory b (count_of b) 0 ≡ Ok tt
    pub bodies : length b ≡ body_at b (count_of b)

  pub table-sound : 2 ≤ length b → table_answer memory b ≡ Ok tt → Sound
  unfolding table_answer
  table-sound two h =
      let q = asked-yes _ _ _ h in
      let r = asked-yes _ _ _ q.1 in
      let t = then-yes _ _ r.1 in
      let u = asked-yes _ _ _ t.1 in
      record { counted = two; table = leb-true _ _ r.0; entries = t.0; bodies = eqb-true _ _ u.0 }

  by-table : (length b ≡ 0 → ⊥) → image_answer memory b ≡ Ok tt → (2 ≤ length b) × (table_answer memory b ≡ Ok tt)
  unfolding image_answer is_empty
  by-table some h = let p = asked-yes _ _ _ (rw (ne_eqb _ _ some) at h) in (leb-true _ _ p.0, p.1)

-- with page registers and ports, for an image of some bytes and lists of the same lengths
pub ready : (b : List ℕ) (memory pages ports : ℕ) → Ok tt ≡ admission b memory pages ports
    → (length b ≡ 0 → ⊥) → (m g : ℕ) → m ≡ memory → g ≡ pages → (2 ≤ length b) × (table_answer m b ≡ Ok tt) × (g ≡ 512)
unfolding admission
ready b memory pages ports e some m g k l =
    let p = asked_all-yes _ _ _ (sym e) in
    let t = by-table memory b some p.1 in
    rw (k, l) (t.0, t.1, (sizes-fit _ _ _ p.0).0)

-- no refusal has the number 0
pub number-refused : (e : LoadError) → number_of (Err e) ≡ 0 → ⊥
unfolding size_number
number-refused (BadSize BadMemory) h = omega arith
number-refused (BadSize BadPages) h = omega arith
number-refused (BadSize BadPorts) h = omega arith
number-refused NoCount h = omega arith
number-refused ManyEntries h = omega arith
number-refused ShortTable h = omega arith
number-refused BadKind h = omega arith
number-refused BadRange h = omega arith
number-refused SharedWord h = omega arith
number-refused BadBodies h = omega arith
