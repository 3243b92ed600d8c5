-- A known state and its words, computed. Assumes nothing.
use Prim.Native.Nat.{ℕ}
use mathlib.Core.Bool.{true, false}
use mathlib.Core.List.{List, [], ◌∷◌, ◌++◌}
use lib.ListN.{replicate}
use mathlib.Core.Path.{◌≡◌, refl}
use Rattle.machine.specs.declared.State.{State}
use Rattle.machine.specs.State.{with_ic, with_sw, with_mk, with_pi, with_faults, with_ft, with_mfs, with_enabled, with_hold, with_ta, with_tb, with_rem_a, with_rem_b, with_ta_on, with_tb_on, with_count}
use Rattle.packed.specs.Packed.{marks, marked, mark_at, marks_of, with_marks, layout, unpacked, packed}

-- interrupts enabled, no hold mark, both timers running; the counter is 65,536 × 21 + 22
abbrev known : State
known = record {
  regs = 0 ∷ 1 ∷ 2 ∷ 3 ∷ 4 ∷ 5 ∷ 6 ∷ 7 ∷ 8 ∷ 9 ∷ 10 ∷ 11 ∷ 12 ∷ 13 ∷ 14 ∷ 15 ∷ [];
  core = record { ic = 16; sw = 17; mk = 18; pi = 19; faults = record { ft = 20; mfs = 27 }; enabled = true; hold = false };
  clock = record { ta = 23; tb = 24; rema = 25; remb = 26; taon = true; tbon = true; count = 1376278 };
}

-- its words, those that no part has being v
abbrev words : ℕ → List ℕ
words v =
    (0 ∷ 1 ∷ 2 ∷ 3 ∷ 4 ∷ 5 ∷ 6 ∷ 7 ∷ 8 ∷ 9 ∷ 10 ∷ 11 ∷ 12 ∷ 13 ∷ 14 ∷ 15 ∷ 16 ∷ 17 ∷ 18 ∷ 19 ∷ 20 ∷ 13 ∷ 23 ∷ 24 ∷ 25 ∷ 26 ∷ 27 ∷ [])
    ++ (replicate 5 v ++ ((21 ∷ 22 ∷ []) ++ replicate 222 v))

known-packed : packed known ≡ words 0
unfolding packed layout marks marks_of mark_at
known-packed = refl

known-unpacked : (v : ℕ) → unpacked (words v) ≡ known
unfolding unpacked layout marks with_marks marked with_ic with_sw with_mk with_pi with_faults with_ft with_mfs with_enabled with_hold with_ta with_tb with_rem_a with_rem_b with_ta_on with_tb_on with_count
known-unpacked v = refl
