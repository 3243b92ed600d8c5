-- The overflow lines of add, subtract, negate and absolute value, as section 5 prints them, say what the definitions say, at every width. Assumes nothing.
use mathlib.Core.Path.{◌≡◌, refl, sym, ap, ap₂, ◌∙◌}
use mathlib.Core.Bool.{Bool, true, false, not, ◌&&◌, beq}
use mathlib.Core.Logic.{⊎_elim}
use Prim.Native.Nat.{ℕ, suc, ◌+◌, ◌-◌, ◌%◌, ◌^◌, ◌≤◌, ◌<◌}
use native.Mathlib.Nat.{mod-eq_of_lt, add-mod_right}
use native.Mathlib.Omega.{arith}
use lib.IntN.{pos, neg_ℤ, nat_abs, sub_ℕ, ◌+ℤ◌, ◌-ℤ◌}
use lib.Dec.{leb, eqb}
use borrow.Author.Tests.{lt-ltb, le-leb, lt-leb, eq-eqb, ne_eqb, leb-true, eqb-true}
use Rattle.twos_complement.specs.Whole.{signed, holds}
use Rattle.twos_complement.proofs.Diff.{order, pos-diff, diff-neg, diff-add, diff-sub, diff-negate}
use Rattle.twos_complement.proofs.Laws.{half, signed_low, signed_high, holds-yes, holds-low, holds-high}
use Rattle.fixed_add.specs.declared.Outcome.{Outcome}
use Rattle.fixed_add.specs.Fixed.{outcome_of, sum, absolute, difference, negated}
use Rattle.fixed_add.proofs.SumLaws.{sum-value, difference-value, absolute-high}

-- bit 0 of w bits, the sign
abbrev pub bit0 : ℕ → ℕ → Bool
bit0 w n = leb (2 ^ (w - 1)) n

-- the number of the w bits a is a - i, and their sign s
record Side (w a i : ℕ) (s : Bool) : Type 0 where
  number : signed w a ≡ sub_ℕ a i
  sign : bit0 w a ≡ s

lower : (w a : ℕ) → a < 2 ^ (w - 1) → Side w a 0 false
lower w a l = record { number = signed_low w a l ∙ pos-diff a; sign = lt-leb (2 ^ (w - 1)) a l }

upper : (w a : ℕ) → 2 ^ (w - 1) ≤ a → a < 2 ^ w → Side w a (2 ^ w) true
upper w a l u = record { number = signed_high w a l ∙ sym (diff-neg (2 ^ w - suc a) a (2 ^ w) (omega arith)); sign = le-leb (2 ^ (w - 1)) a l }

-- the remainder by 2^w of a number below 2^w, and of one below twice 2^w
once : (w p : ℕ) → p < 2 ^ w → p % 2 ^ w ≡ p
once w p l = mod-eq_of_lt l

less : (w p : ℕ) → 2 ^ w ≤ p → p < 2 ^ w + 2 ^ w → p % 2 ^ w ≡ p - 2 ^ w
less w p l u = ap (λ (x : ℕ). x % 2 ^ w) (let e : p ≡ p - 2 ^ w + 2 ^ w = omega arith in e) ∙ add-mod_right (p - 2 ^ w) (2 ^ w) ∙ mod-eq_of_lt (omega arith)

module _ (w a b : ℕ) (p : 1 ≤ w) (la : a < 2 ^ w) (lb : b < 2 ^ w) where
  abbrev H : ℕ
  H = 2 ^ (w - 1)

  abbrev M : ℕ
  M = 2 ^ w

  -- from the signs of the operands and of the result, and whether w bits hold the exact sum
  sum_by : {i j : ℕ} {s t : Bool} (v : ℕ) (r o : Bool) → Side w a i s → Side w b j t → (a + b) % M ≡ v → bit0 w v ≡ r → holds w (sub_ℕ (a + b) (i + j)) ≡ o →
      not o ≡ (beq s t && not (beq s r)) →
      (sum w a b).overflow ≡ (beq (bit0 w a) (bit0 w b) && not (beq (bit0 w a) (bit0 w (sum w a b).value)))
  unfolding sum outcome_of
  sum_by {i} {j} v r o x y ev er eo e =
      ap (λ z. not (holds w z)) (ap₂ ◌+ℤ◌ x.number y.number ∙ diff-add a i b j) ∙ ap not eo ∙ e
      ∙ sym (rw (x.sign, y.sign, sum-value w a b la lb, ev, er) refl)

  -- 5.55, 5.59: both operands have one sign and the sum has the other
  pub sum-overflow-signs : (sum w a b).overflow ≡ (beq (bit0 w a) (bit0 w b) && not (beq (bit0 w a) (bit0 w (sum w a b).value)))
  sum-overflow-signs =
      let h = half w p in
      let s = a + b in
      ⊎_elim
      (λ x. ⊎_elim
      (λ y. ⊎_elim
      (λ l. sum_by s false true (lower w a x) (lower w b y) (once w s (omega arith)) (lt-leb H s l) (holds-yes w s (0 + 0) (omega arith) (omega arith)) refl)
      (λ l. sum_by s true false (lower w a x) (lower w b y) (once w s (omega arith)) (le-leb H s l) (holds-high w s (0 + 0) (omega arith)) refl)
      (order s H))
      (λ y. sum_by _ _ true (lower w a x) (upper w b y lb) refl refl (holds-yes w s (0 + M) (omega arith) (omega arith)) refl)
      (order b H))
      (λ x. ⊎_elim
      (λ y. sum_by _ _ true (upper w a x la) (lower w b y) refl refl (holds-yes w s (M + 0) (omega arith) (omega arith)) refl)
      (λ y. ⊎_elim
      (λ l. sum_by (s - M) false false (upper w a x la) (upper w b y lb) (less w s (omega arith) (omega arith)) (lt-leb H (s - M) l) (holds-low w s (M + M) (omega arith)) refl)
      (λ l. sum_by (s - M) true true (upper w a x la) (upper w b y lb) (less w s (omega arith) (omega arith)) (le-leb H (s - M) l) (holds-yes w s (M + M) (omega arith) (omega arith)) refl)
      (order (s - M) H))
      (order b H))
      (order a H)

  difference-by : {i j : ℕ} {s t : Bool} (v : ℕ) (r o : Bool) → Side w a i s → Side w b j t → (a + (M - b)) % M ≡ v → bit0 w v ≡ r → holds w (sub_ℕ (a + j) (i + b)) ≡ o →
      not o ≡ (not (beq s t) && beq r t) →
      (difference w a b).overflow ≡ (not (beq (bit0 w a) (bit0 w b)) && beq (bit0 w (difference w a b).value) (bit0 w b))
  unfolding difference outcome_of
  difference-by {i} {j} v r o x y ev er eo e =
      ap (λ z. not (holds w z)) (ap₂ ◌-ℤ◌ x.number y.number ∙ diff-sub a i b j) ∙ ap not eo ∙ e
      ∙ sym (rw (x.sign, y.sign, difference-value w a b la lb, ev, er) refl)

  -- 5.63, 5.67: the operands have opposite signs and the difference has that of the operand subtracted
  pub difference-overflow-signs : (difference w a b).overflow ≡ (not (beq (bit0 w a) (bit0 w b)) && beq (bit0 w (difference w a b).value) (bit0 w b))
  difference-overflow-signs =
      let h = half w p in
      let s = a + (M - b) in
      ⊎_elim
      (λ x. ⊎_elim
      (λ y. difference-by _ _ true (lower w a x) (lower w b y) refl refl (holds-yes w (a + 0) (0 + b) (omega arith) (omega arith)) refl)
      (λ y. ⊎_elim
      (λ l. difference-by s false true (lower w a x) (upper w b y lb) (once w s (omega arith)) (lt-leb H s l) (holds-yes w (a + M) (0 + b) (omega arith) (omega arith)) refl)
      (λ l. difference-by s true false (lower w a x) (upper w b y lb) (once w s (omega arith)) (le-leb H s l) (holds-high w (a + M) (0 + b) (omega arith)) refl)
      (order s H))
      (order b H))
      (λ x. ⊎_elim
      (λ y. ⊎_elim
      (λ l. difference-by (s - M) false false (upper w a x la) (lower w b y) (less w s (omega arith) (omega arith)) (lt-leb H (s - M) l) (holds-low w (a + 0) (M + b) (omega arith)) refl)
      (λ l. difference-by (s - M) true true (upper w a x la) (lower w b y) (less w s (omega arith) (omega arith)) (le-leb H (s - M) l) (holds-yes w (a + 0) (M + b) (omega arith) (omega arith)) refl)
      (order (s - M) H))
      (λ y. difference-by _ _ true (upper w a x la) (upper w b y lb) refl refl (holds-yes w (a + M) (M + b) (omega arith) (omega arith)) refl)
      (order b H))
      (order a H)

-- 5.56: the operand is above zero and the sum below it, where n is not below zero
raised : (s z r : Bool) → (z ≡ true → r ≡ false) → (beq s false && not (beq s r)) ≡ ((not s && not z) && r)
raised true z r f = refl
raised false true r f = rw (f refl)
raised false false true f = refl
raised false false false f = refl

pub increment-overflow : (w a n : ℕ) → 1 ≤ w → a < 2 ^ w → n < 2 ^ (w - 1) → (sum w a n).overflow ≡ ((not (bit0 w a) && not (eqb a 0)) && bit0 w (sum w a n).value)
increment-overflow w a n p l u =
    let h = half w p in
    let H = 2 ^ (w - 1) in
    let v : n < 2 ^ w = omega arith in
    sum-overflow-signs w a n p l v
    ∙ rw (lt-leb H n u) (raised (bit0 w a) (eqb a 0) (bit0 w (sum w a n).value) (λ e.
    let z = eqb-true a 0 e in
    ap (bit0 w) (sum-value w a n l v ∙ once w (a + n) (omega arith)) ∙ lt-leb H (a + n) (omega arith)))

-- 5.64: the operand is below zero and the difference above it, where n is not below zero
lowered : (s r z : Bool) → (s ≡ true → z ≡ false) → (not (beq s false) && beq r false) ≡ (s && (not r && not z))
lowered false r z f = refl
lowered true true z f = refl
lowered true false z f = rw (f refl)

pub decrement-overflow : (w a n : ℕ) → 1 ≤ w → a < 2 ^ w → n < 2 ^ (w - 1) → (difference w a n).overflow ≡ (bit0 w a && (not (bit0 w (difference w a n).value) && not (eqb (difference w a n).value 0)))
decrement-overflow w a n p l u =
    let h = half w p in
    let H = 2 ^ (w - 1) in
    let v : n < 2 ^ w = omega arith in
    let s = a + (2 ^ w - n) in
    difference-overflow-signs w a n p l v
    ∙ rw (lt-leb H n u) (lowered (bit0 w a) (bit0 w (difference w a n).value) (eqb (difference w a n).value 0) (λ e.
    let z = leb-true H a e in
    ap (λ (x : ℕ). eqb x 0) (difference-value w a n l v ∙ less w s (omega arith) (omega arith)) ∙ ne_eqb (s - 2 ^ w) 0 (λ x. omega arith)))

-- 5.65, 5.66 and 5.57, 5.58: the operand is the lowest number
module _ (w a : ℕ) (p : 1 ≤ w) (l : a < 2 ^ w) where
  negated-by : {i : ℕ} {s : Bool} (o : Bool) → Side w a i s → holds w (sub_ℕ i a) ≡ o → eqb a (2 ^ (w - 1)) ≡ not o → (negated w a).overflow ≡ eqb a (2 ^ (w - 1))
  unfolding negated outcome_of
  negated-by {i} o x eo e = ap (λ z. not (holds w z)) (ap neg_ℤ x.number ∙ diff-negate a i) ∙ ap not eo ∙ sym e

  pub negated-overflow : (negated w a).overflow ≡ eqb a (2 ^ (w - 1))
  negated-overflow =
      let h = half w p in
      let H = 2 ^ (w - 1) in
      ⊎_elim (λ x. negated-by true (lower w a x) (holds-yes w 0 a (omega arith) (omega arith)) (ne_eqb a H (λ e. omega arith)))
      (λ x. ⊎_elim (λ y. negated-by true (upper w a x l) (holds-yes w (2 ^ w) a (omega arith) (omega arith)) (ne_eqb a H (λ e. omega arith)))
      (λ y. negated-by false (upper w a x l) (holds-high w (2 ^ w) a (omega arith)) (eq-eqb a H (omega arith)))
      (order H a))
      (order a H)

  absolute-below : a < 2 ^ (w - 1) → (absolute w a).overflow ≡ false
  unfolding absolute outcome_of holds
  absolute-below x = ap not (ap (λ z. holds w (pos (nat_abs z))) (signed_low w a x) ∙ lt-ltb a (2 ^ (w - 1)) x)

  pub absolute-overflow : (absolute w a).overflow ≡ eqb a (2 ^ (w - 1))
  absolute-overflow =
      ⊎_elim (λ x. absolute-below x ∙ sym (ne_eqb a (2 ^ (w - 1)) (λ e. omega arith)))
      (λ x. ap (λ (o : Outcome ℕ). o.overflow) (sym (absolute-high w a x)) ∙ negated-overflow)
      (order a (2 ^ (w - 1)))
