-- The words of a vector of which MK, SW and IC lie in one page. Assumes nothing.
use Rattle.std.proofs.Common.{◌≡◌, ℕ, ◌+◌, ◌-◌, ◌*◌, ◌/◌, ◌%◌, ◌<◌, ◌≤◌, List, length, get_or, sym, refl, ◌∙◌, arith, Ok}
use Rattle.page.specs.declared.Access.TheVariants.{Read}
use Rattle.page.specs.Pages.{physical, through, lookup}
use Rattle.page.specs.Spans.{wrapped, got_at, word_of}
use Rattle.page.proofs.NearLaws.{lookup-before}
use Rattle.page.proofs.ReachLaws.{located-inside}
use Rattle.machine.specs.Faults.{ft_alone}
use Rattle.machine.specs.Entries.{read_after, got_zero, vector_at, vector_of}

-- words of address state 0, with key 0
module _ (m g : List ℕ) where
  abbrev Found : ℕ → ℕ → Type 0
  Found a p = lookup Read 0 0 g (length m) a ≡ Ok p

  got : (a p : ℕ) → Found a p → got_zero m g a ≡ Ok (get_or m p 0)
  unfolding got_zero got_at
  got a p e = rw e refl

  pub inside-at : (a p : ℕ) → Found a p → p < length m
  inside-at a p e = located-inside Read 0 0 g (length m) a (Ok p) p (sym e) refl

  -- only sixteen bits of an address count
  looked-wrapped : (b : ℕ) → lookup Read 0 0 g (length m) (b % 65536) ≡ lookup Read 0 0 g (length m) b
  unfolding lookup through physical
  looked-wrapped b =
      let page : b % 65536 / 4096 % 16 ≡ b / 4096 % 16 = omega arith in
      let low : b % 65536 % 4096 ≡ b % 4096 = omega arith in
      rw (page, low) refl

  -- the address a was found at p, and at least i words are before it in its page
  module _ (a p i : ℕ) (h : i ≤ a % 4096) (e : Found a p) (j : ℕ) (k : j ≤ i) where
    within : j ≤ a % 4096
    within = omega arith

    pub room-before : j ≤ p
    room-before = (lookup-before Read 0 0 g (length m) a j within p e).0

    pub inside-before : p - j < length m
    inside-before = omega (arith, inside-at a p e)

    got_before : (b : ℕ) → a - j ≡ b % 65536 → got_zero m g b ≡ Ok (get_or m (p - j) 0)
    got_before b s = got b (p - j) (sym (looked-wrapped b) ∙ (rw s at (lookup-before Read 0 0 g (length m) a j within p e).1))

  -- the service pointer was found at p, and the last word, at end, at q
  pub vector-together : (n p end q : ℕ) → n < 16 → Found (33 + 2 * n) p → end ≡ (get_or m p 0 + 2) % 65536 → 2 ≤ end % 4096 → Found end q
      → vector_of m g n ≡ record { link = get_or m (p - 1) 0; mk = get_or m (q - 2) 0; sw = get_or m (q - 1) 0; ic = get_or m q 0; fault = ft_alone 0 }
  unfolding vector_of vector_at word_of read_after wrapped
  vector-together n p end q b e ends h l =
      let same : Found ((get_or m p 0 + 2) % 65536) q = rw (← ends) l in
      let next : 32 + 2 * n + 1 ≡ 33 + 2 * n = omega arith in
      rw (
        next,
        got (33 + 2 * n) p e,
        got_before (33 + 2 * n) p 1 (omega arith) e 1 (omega arith) (32 + 2 * n) (omega arith),
        got_before end q 2 h l 2 (omega arith) (get_or m p 0) (omega arith),
        got_before end q 2 h l 1 (omega arith) ((get_or m p 0 + 1) % 65536) (omega arith),
        got ((get_or m p 0 + 2) % 65536) q same,
      ) refl
