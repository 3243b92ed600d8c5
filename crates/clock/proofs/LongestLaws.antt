-- No duration is longer than the longest. Assumes nothing.
use Rattle.std.proofs.Common.{◌≡◌, ℕ, zero, suc, ◌<◌, ◌≤◌, Bool, true, false, cond, eqb, ltb, List, length, get_or, refl, arith, ltb-false, ltb-true, eqb-true}
use borrow.Author.Tests.{eqb-false}
use Rattle.clock.specs.Deferred.{longest_to, longest_of}

-- the larger of two is none smaller
larger : (b : Bool) (x y : ℕ) → ltb x y ≡ b → (x ≤ cond (ltb x y) y x) × (y ≤ cond (ltb x y) y x)
larger true x y e = rw e (let h = ltb-true x y e in (omega arith, omega arith))
larger false x y e = rw e (let h = ltb-false x y e in (omega arith, omega arith))

longest-step : (d : List ℕ) (n i : ℕ) → i < suc n → (i < n → get_or d i 0 ≤ longest_to d n) → (b : Bool) → eqb i n ≡ b → get_or d i 0 ≤ longest_to d (suc n)
unfolding longest_to
longest-step d n i h below true e = rw (eqb-true i n e) (larger (ltb (longest_to d n) (get_or d n 0)) (longest_to d n) (get_or d n 0) refl).1
longest-step d n i h below false e =
    let before : get_or d i 0 ≤ longest_to d n = below (let z = eqb-false i n e in omega arith) in
    let kept = (larger (ltb (longest_to d n) (get_or d n 0)) (longest_to d n) (get_or d n 0) refl).0 in
    omega (arith, before, kept)

longest-to : (d : List ℕ) (n i : ℕ) → i < n → get_or d i 0 ≤ longest_to d n
longest-to d zero i h = absurd (omega arith)
longest-to d (suc n) i h = longest-step d n i h (longest-to d n i) (eqb i n) refl

pub longest-of : (d : List ℕ) (i : ℕ) → i < length d → get_or d i 0 ≤ longest_of d
unfolding longest_of
longest-of d i h = longest-to d (length d) i h
