-- Sign and magnitude at every width. Assumes nothing.
use mathlib.Core.Path.{◌≡◌, refl, sym, ap, ◌∙◌}
use mathlib.Core.Bool.{Bool, true, false, not, beq}
use mathlib.Core.Logic.{⊎_elim}
use Prim.Native.Nat.{ℕ, zero, suc, ◌-◌, ◌*◌, ◌/◌, ◌%◌, ◌^◌, ◌≤◌, ◌<◌, zero-le, suc-le-suc}
use native.Mathlib.Nat.{mul-zero, zero-mul, zero-div, zero-mod, mod-eq_of_lt}
use native.Mathlib.Omega.{arith}
use lib.IntN.{pos, neg_ℤ, nat_abs, ◌*ℤ◌}
use lib.Signed.{non_neg, quot_z, rem_z}
use lib.Dec.{ltb, leb}
use borrow.Author.Tests.{lt-ltb, le-ltb, le-leb, lt-leb}
use lib.Pow.{pow_pos}
use Rattle.twos_complement.specs.Whole.{wrap, holds, with_sign, Parts}
use Rattle.twos_complement.proofs.Diff.{order}
use Rattle.twos_complement.proofs.Laws.{half, signed_low, signed_high}

-- the magnitude of a sign and a magnitude
pub nat_abs-sign : (s : Bool) (m : ℕ) → nat_abs (with_sign s m) ≡ m
unfolding with_sign
nat_abs-sign false m = refl
nat_abs-sign true zero = refl
nat_abs-sign true (suc m) = refl

-- whether two signs differ
abbrev pub differ : Bool → Bool → Bool
differ s t = not (beq s t)

-- the product
pub mul-sign : (s t : Bool) (m n : ℕ) → with_sign s m *ℤ with_sign t n ≡ with_sign (differ s t) (m * n)
unfolding with_sign
mul-sign false false m n = refl
mul-sign false true m zero = simp mul-zero
mul-sign false true m (suc n) = refl
mul-sign true false zero n = simp zero-mul
mul-sign true false (suc m) n = refl
mul-sign true true zero zero = refl
mul-sign true true zero (suc n) = simp zero-mul
mul-sign true true (suc m) zero = simp mul-zero
mul-sign true true (suc m) (suc n) = refl

-- the quotient toward zero, and the remainder with the dividend's sign
div-sign : (s t : Bool) (m n : ℕ) → (quot_z (with_sign s m) (with_sign t (suc n)) ≡ with_sign (differ s t) (m / suc n)) × (rem_z (with_sign s m) (with_sign t (suc n)) ≡ with_sign s (m % suc n))
unfolding with_sign
div-sign false false m n = (refl, refl)
div-sign false true m n = (refl, refl)
div-sign true false zero n = (simp zero-div, simp zero-mod)
div-sign true false (suc m) n = (refl, refl)
div-sign true true zero n = (simp zero-div, simp zero-mod)
div-sign true true (suc m) n = (refl, refl)

pub quot-sign : (s t : Bool) (m n : ℕ) → quot_z (with_sign s m) (with_sign t (suc n)) ≡ with_sign (differ s t) (m / suc n)
quot-sign s t m n = (div-sign s t m n).0

pub rem-sign : (s t : Bool) (m n : ℕ) → rem_z (with_sign s m) (with_sign t (suc n)) ≡ with_sign s (m % suc n)
rem-sign s t m n = (div-sign s t m n).1

-- the bits of a sign and a magnitude
pub join-pos : (w m : ℕ) → m < 2 ^ w → m ≡ wrap w (with_sign false m)
unfolding with_sign wrap
join-pos w m l = sym (mod-eq_of_lt l)

pub join-zero : (w : ℕ) → 0 ≡ wrap w (with_sign true 0)
unfolding with_sign wrap
join-zero w = sym (zero-mod (2 ^ w))

pub join-neg : (w m : ℕ) → 0 < m → m < 2 ^ w → 2 ^ w - m ≡ wrap w (with_sign true m)
unfolding with_sign wrap
join-neg w zero p l = absurd (let x : ⊥ = omega arith in x)
join-neg w (suc m) p l = let e : m % 2 ^ w ≡ m = mod-eq_of_lt (omega arith) in ap (λ (x : ℕ). 2 ^ w - suc x) (sym e)

-- whether w bits do not hold a sign and a magnitude
pub long-pos : (w m : ℕ) → not (holds w (with_sign false m)) ≡ leb (2 ^ (w - 1)) m
unfolding with_sign holds
long-pos w m = not-ltb m (2 ^ (w - 1))
  where
    not-ltb : (a b : ℕ) → not (ltb a b) ≡ leb b a
    not-ltb a b = ⊎_elim (λ l. ap not (lt-ltb a b l) ∙ sym (lt-leb b a l)) (λ l. ap not (le-ltb a b l) ∙ sym (le-leb b a l)) (order a b)

pub long-neg : (w m : ℕ) → not (holds w (with_sign true m)) ≡ ltb (2 ^ (w - 1)) m
unfolding with_sign holds
long-neg w zero = ap not (lt-ltb 0 (2 ^ (w - 1)) (pow_pos (w - 1))) ∙ sym (le-ltb (2 ^ (w - 1)) 0 zero-le)
long-neg w (suc m) = ⊎_elim (λ l. ap not (lt-ltb m (2 ^ (w - 1)) l) ∙ sym (le-ltb (2 ^ (w - 1)) (suc m) l)) (λ l. ap not (le-ltb m (2 ^ (w - 1)) l) ∙ sym (lt-ltb (2 ^ (w - 1)) (suc m) (suc-le-suc l))) (order m (2 ^ (w - 1)))

-- the sign and magnitude of w bits
pub parts_low : (w n : ℕ) → n < 2 ^ (w - 1) → Parts w n false n
unfolding with_sign
parts_low w n l =
    let e = signed_low w n l in
    record { number = e; sign = sym (ap (λ z. not (non_neg z)) e); size = sym (ap nat_abs e); small = omega arith; back = λ c. absurd (let x : ◌≡◌ {A = ℕ} 0 1 = cc in omega arith) }

pub parts-high : (w n : ℕ) → 1 ≤ w → 2 ^ (w - 1) ≤ n → n < 2 ^ w → Parts w n true (2 ^ w - n)
unfolding with_sign
parts-high w n p l u =
    let e = signed_high w n l in
    let hw = half w p in
    let s : 2 ^ w - n ≡ suc (2 ^ w - suc n) = omega arith in
    record { number = e ∙ ap (λ (x : ℕ). neg_ℤ (pos x)) (sym s); sign = sym (ap (λ z. not (non_neg z)) e); size = s ∙ sym (ap nat_abs e); small = omega arith; back = λ c. omega arith }
