-- The packed state: the unpacked state part by part, and packing there and back. Assumes nothing.
use Prim.Native.Nat.{ℕ, zero, suc, ◌+◌, ◌*◌, ◌/◌, ◌%◌, ◌<◌}
use mathlib.Core.Bool.{Bool, true, false, cond}
use mathlib.Core.Path.{◌≡◌, refl, sym, ap, ◌∙◌}
use mathlib.Core.List.{List, [], ◌∷◌, ◌++◌}
use native.Mathlib.Omega.{arith}
use native.Mathlib.Nat.{add_comm, mul_comm, mul-one, mul-zero, div-one, mod-lt}
use lib.Arith.{mod-mul}
use lib.Dec.{eqb}
use lib.ListN.{length, get_or, take, replicate}
use lib.Seq.{length-take-le, take_all, take_at, get_or-append-add}
use Rattle.packed.specs.Packed.{size, marks, marked, mark_at, marks_of, with_marks, layout, unpacked, packed}
use Rattle.machine.specs.declared.State.{State}
use Rattle.machine.specs.State.{with_ic, with_sw, with_mk, with_pi, with_faults, with_ft, with_mfs, with_enabled, with_hold, with_ta, with_tb, with_rem_a, with_rem_b, with_ta_on, with_tb_on, with_count}
use Rattle.bits.specs.Bits.{weight}

-- ---- the state of the words w, part by part

pub record Parts (w : List ℕ) (s : State) : Type 0 where
  pub regs-is : s.regs ≡ take 16 w
  pub ic-is : s.core.ic ≡ get_or w 16 0
  pub sw-is : s.core.sw ≡ get_or w 17 0
  pub mk-is : s.core.mk ≡ get_or w 18 0
  pub pi-is : s.core.pi ≡ get_or w 19 0
  pub ft-is : s.core.faults.ft ≡ get_or w 20 0
  pub enabled-is : s.core.enabled ≡ marked (get_or w 21 0) 15
  pub hold-is : s.core.hold ≡ marked (get_or w 21 0) 14
  pub taon-is : s.clock.taon ≡ marked (get_or w 21 0) 13
  pub tbon-is : s.clock.tbon ≡ marked (get_or w 21 0) 12
  pub ta-is : s.clock.ta ≡ get_or w 22 0
  pub tb-is : s.clock.tb ≡ get_or w 23 0
  pub rema-is : s.clock.rema ≡ get_or w 24 0
  pub remb-is : s.clock.remb ≡ get_or w 25 0
  pub mfs-is : s.core.faults.mfs ≡ get_or w 26 0
  pub count-is : s.clock.count ≡ 65536 * get_or w 32 0 + get_or w 33 0

pub from_parts : (w : List ℕ) (s : State) → Parts w s → s ≡ unpacked w
unfolding unpacked layout marks with_marks with_ic with_sw with_mk with_pi with_faults with_ft with_mfs with_enabled with_hold with_ta with_tb with_rem_a with_rem_b with_ta_on with_tb_on with_count
from_parts w s h = λ i. record {
  regs = h.regs-is i;
  core = record {
    ic = h.ic-is i;
    sw = h.sw-is i;
    mk = h.mk-is i;
    pi = h.pi-is i;
    faults = record { ft = h.ft-is i; mfs = h.mfs-is i };
    enabled = h.enabled-is i;
    hold = h.hold-is i;
  };
  clock = record {
    ta = h.ta-is i;
    tb = h.tb-is i;
    rema = h.rema-is i;
    remb = h.remb-is i;
    taon = h.taon-is i;
    tbon = h.tbon-is i;
    count = h.count-is i;
  };
}

-- ---- the marks

-- their word, one after another
pub marks-sum : (s : State) → mark_at s.core.enabled 15 + mark_at s.core.hold 14 + mark_at s.clock.taon 13 + mark_at s.clock.tbon 12 ≡ marks_of s
unfolding marks_of marks
marks-sum s = omega arith

-- a mark as a number
digit : Bool → ℕ
digit on = cond on 1 0

digit-below : (on : Bool) → digit on < 2
unfolding digit
digit-below true = omega arith
digit-below false = omega arith

digit-mark : (on : Bool) → eqb (digit on) 1 ≡ on
unfolding digit
digit-mark true = refl
digit-mark false = refl

mark-digit : (n : ℕ) → n < 2 → digit (eqb n 1) ≡ n
unfolding digit
mark-digit zero h = refl
mark-digit (suc zero) h = refl
mark-digit (suc (suc n)) h = absurd (omega arith)

weighs : (on : Bool) (n : ℕ) → mark_at on n ≡ weight n * digit on
unfolding digit mark_at
weighs true n = rw mul-one refl
weighs false n = rw mul-zero refl

-- the word of four marks
module _ (s : State) where
  marks-digits : marks_of s ≡ digit s.core.enabled + 2 * digit s.core.hold + 4 * digit s.clock.taon + 8 * digit s.clock.tbon
  marks-digits = omega (arith, marks-sum s, weighs s.core.enabled 15, weighs s.core.hold 14, weighs s.clock.taon 13, weighs s.clock.tbon 12)

  -- its bit n, by the number of the mark there
  marks-at : (n : ℕ) (on : Bool) → marks_of s / weight n % 2 ≡ digit on → marked (marks_of s) n ≡ on
  unfolding marked
  marks-at n on e = rw e (digit-mark on)

-- a bit as a number
bit-digit : (word n : ℕ) → digit (marked word n) ≡ word / weight n % 2
unfolding marked
bit-digit word n = mark-digit _ (mod-lt _ (omega arith))

-- ---- there and back

-- word n of the second of two lists, of which the first has sixteen words
later : (a b : List ℕ) → length a ≡ 16 → (n : ℕ) → get_or (a ++ b) (16 + n) 0 ≡ get_or b n 0
later a b h n = rw (← h) (get_or-append-add a b n 0)

-- the words after R0 to R15
abbrev others : State → List ℕ
others s =
    (s.core.ic ∷ s.core.sw ∷ s.core.mk ∷ s.core.pi ∷ s.core.faults.ft ∷ marks_of s ∷ s.clock.ta ∷ s.clock.tb ∷ s.clock.rema ∷ s.clock.remb ∷ s.core.faults.mfs ∷ [])
    ++ (replicate 5 0 ++ ((s.clock.count / 65536 ∷ s.clock.count % 65536 ∷ []) ++ replicate 222 0))

-- a state with sixteen registers
pub registers-first : (s : State) → length s.regs ≡ 16 → packed s ≡ s.regs ++ others s
unfolding packed layout
registers-first s h = ap (λ (l : List ℕ). l ++ others s) (take_all 16 s.regs (omega arith))

pub unpacked-packed : (s : State) → length s.regs ≡ 16 → unpacked (packed s) ≡ s
unpacked-packed s h =
    let p = registers-first s h in
    let at : (n : ℕ) → get_or (others s) n 0 ≡ get_or (packed s) (16 + n) 0 = λ n. sym (ap (λ (l : List ℕ). get_or l (16 + n) 0) p ∙ later s.regs (others s) h n) in
    let bit : (n : ℕ) (on : Bool) → marks_of s / weight n % 2 ≡ digit on → on ≡ marked (get_or (packed s) 21 0) n = λ n on e. sym (marks-at s n on e) ∙ ap (λ (m : ℕ). marked m n) (at 5) in
    let high = at 16 in
    let low = at 17 in
    let d = marks-digits s in
    let e = digit-below s.core.enabled in
    let f = digit-below s.core.hold in
    let g = digit-below s.clock.taon in
    sym
    (from_parts (packed s) s (record {
      regs-is = sym (ap (take 16) p ∙ take_at s.regs (others s) 16 h);
      ic-is = at 0;
      sw-is = at 1;
      mk-is = at 2;
      pi-is = at 3;
      ft-is = at 4;
      enabled-is = bit 15 s.core.enabled (omega arith);
      hold-is = bit 14 s.core.hold (omega arith);
      taon-is = bit 13 s.clock.taon (omega arith);
      tbon-is = bit 12 s.clock.tbon (omega (arith, digit-below s.clock.tbon));
      ta-is = at 6;
      tb-is = at 7;
      rema-is = at 8;
      remb-is = at 9;
      mfs-is = at 10;
      count-is = omega arith;
    }))

-- the lowest bits of a word, and the one above them, whose weight is c
one_more : (m c : ℕ) → 0 < c → m % (2 * c) ≡ m % c + c * (m / c % 2)
one_more m c h = mod-mul m (omega arith) h ∙ add_comm _ _ ∙ ap (λ n. m % c + n) (mul_comm _ _)

-- 256 words: what no part has is cleared, and bits 0 to 11 of the marks
module _ (w : List ℕ) where
  marks-cleared : marks_of (unpacked w) ≡ get_or w 21 0 % 16
  unfolding unpacked layout marks with_marks marked with_ic with_sw with_mk with_pi with_faults with_ft with_mfs with_enabled with_hold with_ta with_tb with_rem_a with_rem_b with_ta_on with_tb_on with_count
  marks-cleared =
      let m = get_or w 21 0 in
      marks-digits (unpacked w) ∙ rw (bit-digit m 15, bit-digit m 14, bit-digit m 13, bit-digit m 12) (rw (one_more m 8 (omega arith), one_more m 4 (omega arith), one_more m 2 (omega arith), div-one m) refl)

  pub packed-unpacked : length w ≡ size → get_or w 33 0 < 65536
      → packed (unpacked w)
      ≡ take 16 w
      ++ ((get_or w 16 0 ∷ get_or w 17 0 ∷ get_or w 18 0 ∷ get_or w 19 0 ∷ get_or w 20 0 ∷ get_or w 21 0 % 16 ∷ get_or w 22 0 ∷ get_or w 23 0 ∷ get_or w 24 0 ∷ get_or w 25 0 ∷ get_or w 26 0 ∷ [])
      ++ (replicate 5 0 ++ ((get_or w 32 0 ∷ get_or w 33 0 ∷ []) ++ replicate 222 0)))
  unfolding unpacked layout marks with_marks with_ic with_sw with_mk with_pi with_faults with_ft with_mfs with_enabled with_hold with_ta with_tb with_rem_a with_rem_b with_ta_on with_tb_on with_count
  packed-unpacked l h =
      let n = get_or w 32 0 in
      let k = get_or w 33 0 in
      let high : (65536 * n + k) / 65536 ≡ n = omega arith in
      let low : (65536 * n + k) % 65536 ≡ k = omega arith in
      registers-first (unpacked w) (length-take-le 16 w (omega arith)) ∙ rw (marks-cleared, high, low) refl
