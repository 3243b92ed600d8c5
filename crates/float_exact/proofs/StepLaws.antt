-- Laws of the steps that multiply and divide share, with a mantissa of any width w. Assumes nothing.
use Rattle.std.specs.Prelude.{None}
use mathlib.Core.Path.{◌≡◌, refl, sym, ap, ◌∙◌, subst}
use mathlib.Core.Bool.{Bool, true, false}
use mathlib.Core.Logic.{⊎_elim}
use Prim.Native.Nat.{ℕ, suc, ◌+◌, ◌-◌, ◌*◌, ◌/◌, ◌%◌, ◌^◌, ◌≤◌, ◌<◌}
use native.Mathlib.Nat.{mul-le-mul_right, mul-lt-mul_of_pos_right, le-div_iff_mul-le, mod-eq_of_lt, lt_of_lt_of_le, zero-mul}
use native.Mathlib.Omega.{arith}
use lib.IntN.{nat_abs}
use lib.Signed.{non_neg}
use lib.Dec.{ltb}
use lib.Pow.{pow_pos, pow-add, pow_mono, shr_lt}
use lib.Count.{count_leading_zeros, leading_top}
use borrow.Author.Tests.{lt-ltb, le-ltb}
use Rattle.twos_complement.specs.Whole.{signed, wrap, with_sign}
use Rattle.twos_complement.proofs.Diff.{order}
use Rattle.twos_complement.proofs.Laws.{half, signed_low, signed_high}
use Rattle.twos_complement.proofs.Normal.{leading_wider}
use Rattle.twos_complement.proofs.Signs.{parts_low, parts-high}
use Rattle.float.specs.Float.{overflowed, float_zero, given, fault_of}
use Rattle.float_exact.specs.Steps.{Led, signed_by, tail, ranged}

-- floating zero, as the code gives it
pub zero-given : (u : Bool) → record { mantissa = 0; exponent = 128; fault = fault_of false u } ≡ given 40 (float_zero u)
unfolding given wrap float_zero
zero-given u = refl

-- the first bit of a mantissa
pub first_bit : (w a : ℕ) → non_neg (signed w a) ≡ ltb a (2 ^ (w - 1))
first_bit w a = ⊎_elim (λ h. ap non_neg (signed_low w a h) ∙ sym (lt-ltb a (2 ^ (w - 1)) h)) (λ h. ap non_neg (signed_high w a h) ∙ sym (le-ltb a (2 ^ (w - 1)) h)) (order a (2 ^ (w - 1)))

-- the magnitude of a mantissa that is not 0
pub magnitude-fits : (w a : ℕ) → 1 ≤ w → 0 < a → a < 2 ^ w → (0 < nat_abs (signed w a)) × (nat_abs (signed w a) < 2 ^ w)
magnitude-fits w a o p l =
    let hw = half w o in
    let g = pow_pos (w - 1) in
    ⊎_elim (λ h. let e = (parts_low w a h).size in omega arith) (λ h. let e = (parts-high w a o h l).size in omega arith) (order a (2 ^ (w - 1)))

-- a mantissa of w bits moved left, to the top of n
pub wide : (n w a : ℕ) → w ≤ n → n ≤ 64 → a < 2 ^ w → (a * 2 ^ (n - w) % 2 ^ 64 ≡ a * 2 ^ (n - w)) × (a * 2 ^ (n - w) % 2 ^ 64 < 2 ^ n)
wide n w a g s l =
    let p : 2 ^ w * 2 ^ (n - w) ≡ 2 ^ n = sym (pow-add 2 w (n - w)) ∙ ap (λ (x : ℕ). 2 ^ x) (let t : w + (n - w) ≡ n = omega arith in t) in
    let h : a * 2 ^ (n - w) < 2 ^ n = subst (λ (x : ℕ). a * 2 ^ (n - w) < x) p (mul-lt-mul_of_pos_right l (pow_pos (n - w))) in
    let e = mod-eq_of_lt (lt_of_lt_of_le h (pow_mono s)) in
    (e, subst (λ (x : ℕ). x < 2 ^ n) (sym e) h)

-- ---- a number moved to the top of w bits, in a word of v + w

module _ (v w m : ℕ) (p : 0 < m) (l : m < 2 ^ w) where
  pub leading-split : (count_leading_zeros (v + w) m ≡ v + count_leading_zeros w m) × (count_leading_zeros w m < w)
  leading-split = let s = leading_top w m p l in let a = s.1 in (leading_wider v w m l, omega arith)

  pub led : Led w m (count_leading_zeros (v + w) m - v) (m * 2 ^ (count_leading_zeros (v + w) m - v) % 2 ^ (v + w))
  led =
      let e : count_leading_zeros (v + w) m - v ≡ count_leading_zeros w m = omega (arith, leading-split) in
      let s = leading_top w m p l in
      let a = s.1 in
      let low : 2 ^ (w - 1) ≤ m * 2 ^ count_leading_zeros w m =
      subst (λ (x : ℕ). x ≤ m * 2 ^ count_leading_zeros w m) (sym (pow-add 2 s.0 (count_leading_zeros w m)) ∙ ap (λ (x : ℕ). 2 ^ x) (let t : s.0 + count_leading_zeros w m ≡ w - 1 = omega arith in t)) (mul-le-mul_right (2 ^ count_leading_zeros w m) s.2) in
      let high : m * 2 ^ count_leading_zeros w m < 2 ^ w =
      subst (λ (x : ℕ). m * 2 ^ count_leading_zeros w m < x) (sym (pow-add 2 (suc s.0) (count_leading_zeros w m)) ∙ ap (λ (x : ℕ). 2 ^ x) (let t : suc s.0 + count_leading_zeros w m ≡ w = omega arith in t)) (mul-lt-mul_of_pos_right s.3 (pow_pos (count_leading_zeros w m))) in
      let same : m * 2 ^ count_leading_zeros w m % 2 ^ (v + w) ≡ m * 2 ^ count_leading_zeros w m = mod-eq_of_lt (lt_of_lt_of_le high (pow_mono (let t : w ≤ v + w = omega arith in t))) in
      rw (e, same) (record { moved = refl; high = low; held = high; near = leading-split.1 })

-- what reaches the top is not 0
pub led-pos : {w m k x : ℕ} → Led w m k x → (0 < m) × (0 < x)
led-pos {w} {m} {k} {x} d =
    let p = lt_of_lt_of_le (pow_pos (w - 1)) d.high in
    (⊎_elim (λ h. h) (λ h. absurd (let e : m * 2 ^ k ≡ 0 = ap (λ (z : ℕ). z * 2 ^ k) (let t : m ≡ 0 = omega arith in t) ∙ zero-mul (2 ^ k) in let f = d.moved in let z : ⊥ = omega arith in z)) (order 0 m), p)

-- ---- the first w - 1 bits that count of a word q

module _ (w q : ℕ) (p : 2 ≤ w) (g : 2 ^ (w - 2) ≤ q) (l : q < 2 ^ 64) where
  top : (j : ℕ) × (count_leading_zeros 64 q + suc j ≡ 64) × (2 ^ j ≤ q) × (q < 2 ^ suc j)
  top = leading_top 64 q (let x = pow_pos (w - 2) in omega arith) l

  reach : w - 2 ≤ top.0
  reach = ⊎_elim (λ h. absurd (let x = pow_mono h in let y = top.3 in let z : ⊥ = omega arith in z)) (λ h. h) (order top.0 (w - 2))

  -- the count of leading zeros is small enough for the code
  pub tail-there : count_leading_zeros 64 q + w ≤ 65
  tail-there = let a = top.1 in let r = reach in omega arith

  pub tail-low : 2 ^ (w - 2) ≤ q / 2 ^ tail w q
  unfolding tail
  tail-low =
      let a = top.1 in
      let r = reach in
      (le-div_iff_mul-le {k = 2 ^ (65 - w - count_leading_zeros 64 q)} {x = 2 ^ (w - 2)} {y = q} (pow_pos (65 - w - count_leading_zeros 64 q))).1
      (subst (λ (x : ℕ). x ≤ q) (ap (λ (x : ℕ). 2 ^ x) (let t : top.0 ≡ w - 2 + (65 - w - count_leading_zeros 64 q) = omega arith in t) ∙ pow-add 2 (w - 2) (65 - w - count_leading_zeros 64 q)) top.2)

  pub tail-high : q / 2 ^ tail w q < 2 ^ (w - 1)
  unfolding tail
  tail-high =
      let a = top.1 in
      let r = reach in
      shr_lt {n = q} (w - 1) (65 - w - count_leading_zeros 64 q) (subst (λ (x : ℕ). q < 2 ^ x) (let t : suc top.0 ≡ w - 1 + (65 - w - count_leading_zeros 64 q) = omega arith in t) top.3)

-- ---- a float at the exponent p less n

-- the largest numbers go by the sign alone
pub over-sign : (w : ℕ) (s : Bool) (m : ℕ) → overflowed w (with_sign s 1) ≡ overflowed w (signed_by s m)
unfolding overflowed with_sign signed_by
over-sign w true m = refl
over-sign w false m = refl

module _ (w m p n : ℕ) (s : Bool) where
  pub ranged-under : p < n → float_zero true ≡ ranged w (signed_by s m) p n
  unfolding ranged
  ranged-under h = rw (lt-ltb p n h) refl

  module _ (h : n ≤ p) where
    pub ranged-over : 255 < p - n → overflowed w (with_sign s 1) ≡ ranged w (signed_by s m) p n
    unfolding ranged
    ranged-over g = rw (le-ltb p n h, lt-ltb 255 (p - n) g) (over-sign w s m)

    module _ (g : p - n ≤ 255) where
      pub ranged-at : record { mantissa = signed_by s m; exponent = p - n; overflow = false; underflow = false } ≡ ranged w (signed_by s m) p n
      unfolding ranged
      ranged-at = rw (le-ltb p n h, le-ltb 255 (p - n) g) refl

      module _ (o : 1 ≤ w) (l : m < 2 ^ (w - 1)) where
        small : m % 2 ^ w ≡ m
        small = let hw = half w o in mod-eq_of_lt (omega arith)

        pub ranged-neg : s ≡ true → record { mantissa = 2 ^ w - 1 - m; exponent = p - n; fault = None } ≡ given w (ranged w (signed_by s m) p n)
        unfolding given signed_by wrap
        ranged-neg e = rw (← ranged-at, e, small) (ap (λ (x : ℕ). record { mantissa = x; exponent = p - n; fault = None }) (let t : 2 ^ w - 1 - m ≡ 2 ^ w - suc m = omega arith in t))

        pub ranged-pos : s ≡ false → record { mantissa = m; exponent = p - n; fault = None } ≡ given w (ranged w (signed_by s m) p n)
        unfolding given signed_by wrap
        ranged-pos e = rw (← ranged-at, e, small) refl
