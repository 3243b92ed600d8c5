-- The stores of an entry whose three words lie in one page; an entry from its stores and its core. Assumes nothing.
use Rattle.std.proofs.Common.{◌≡◌, ℕ, ◌+◌, ◌-◌, ◌%◌, ◌<◌, ◌≤◌, List, length, set, sym, refl, ap, ◌∙◌, arith, Ok, Result}
use Rattle.page.specs.declared.Refusal.{Refusal}
use Rattle.page.specs.declared.Access.TheVariants.{Write}
use Rattle.page.specs.Pages.{lookup}
use Rattle.page.specs.Spans.{wrapped, put_at, and_then, passed, checked_from, checked, written_from, written}
use Rattle.page.proofs.NearLaws.{lookup-before}
use Rattle.page.proofs.ReachLaws.{located-inside}
use Rattle.machine.specs.declared.State.{State}
use Rattle.machine.specs.declared.Core.{Core}
use Rattle.machine.specs.declared.Vector.{Vector}
use Rattle.machine.specs.State.{group_of, with_core}
use Rattle.machine.specs.Machine.{Became}
use Rattle.machine.specs.Entries.{old_words, linked, link_stored, stored_after, arrived}
use Rattle.machine.specs.Step.{entered}

-- the three words from a on; the last, at end, was found at p
module _ (m g : List ℕ) (group a end p : ℕ) (f : a < 65536) (ends : end ≡ (a + 2) % 65536) (h : 2 ≤ end % 4096)
    (e : lookup Write 0 group g (length m) end ≡ Ok p) where
  first : lookup Write 0 group g (length m) a ≡ Ok (p - 2)
  first =
      let same : end - 2 ≡ a = omega arith in
      rw same at (lookup-before Write 0 group g (length m) end 2 h p e).1

  second : lookup Write 0 group g (length m) (wrapped (a + 1)) ≡ Ok (p - 1)
  unfolding wrapped
  second =
      let same : end - 1 ≡ (a + 1) % 65536 = omega arith in
      rw same at (lookup-before Write 0 group g (length m) end 1 (omega arith) p e).1

  third : lookup Write 0 group g (length m) (wrapped (wrapped (a + 1) + 1)) ≡ Ok p
  unfolding wrapped
  third =
      let same : ((a + 1) % 65536 + 1) % 65536 ≡ end = omega arith in
      rw same e

  pub two-before : 2 ≤ p
  two-before = (lookup-before Write 0 group g (length m) end 2 h p e).0

  pub inside-third : p < length m
  inside-third = located-inside Write 0 group g (length m) end (Ok p) p (sym e) refl

  pub inside-second : p - 1 < length m
  inside-second = omega (arith, inside-third)

  pub inside-first : p - 2 < length m
  inside-first = omega (arith, inside-third)

  -- all are open, and they are stored one after the other
  module _ (v : Vector) (grouped : group_of v.sw ≡ group) (from : v.link ≡ a) where
    pub linked-clear : linked m g v ≡ Ok tt
    unfolding linked checked checked_from passed and_then
    linked-clear = rw (grouped, from, first, second, third) refl

    pub linked-stored : (c : Core) → link_stored c m g v (Ok tt) ≡ set (set (set m (p - 2) c.mk) (p - 1) c.sw) p c.ic
    unfolding link_stored written written_from passed put_at old_words
    linked-stored c = rw (grouped, from, first, second, third) refl

-- ---- an entry

pub entered_by : (s : State) (c d : Core) (m m' g o : List ℕ) (n : ℕ) (v : Vector) (b : Result (Unit {0}) Refusal) → b ≡ linked m g v
    → m' ≡ link_stored c m g v (linked m g v) → d ≡ arrived c n v (stored_after v.fault b) → Became (entered s c m g o n v) (with_core s d) m' g o
unfolding entered
entered_by s c d m m' g o n v b e h f = record {
  state-is = ap (with_core s) (f ∙ ap (λ (x : Result (Unit {0}) Refusal). arrived c n v (stored_after v.fault x)) e);
  memory-is = h;
  pages-is = refl;
  ports-is = refl;
}
