-- Floats to integers and integers to floats at any width. Assumes nothing.
use mathlib.Core.Path.{◌≡◌, refl, sym, ap, ◌∙◌, subst}
use mathlib.Core.Bool.{true, false}
use Prim.Native.Nat.{ℕ, suc, ◌+◌, ◌-◌, ◌*◌, ◌/◌, ◌%◌, ◌^◌, ◌≤◌, ◌<◌}
use native.Mathlib.Nat.{mod-eq_of_lt, mod-lt, div-add-mod'}
use native.Mathlib.Omega.{arith}
use lib.IntN.{ℤ, pos, negsuc, neg_ℤ, sub_ℕ, ◌*ℤ◌}
use lib.Signed.{mag, quot_z, shr_z}
use lib.Arith.{digits_div}
use lib.Pow.{pow_pos, pow-add, pow_mono, shl_lt}
use borrow.Author.Tests.{lt-ltb, le-ltb}
use Rattle.twos_complement.specs.Whole.{signed, wrap}
use Rattle.twos_complement.proofs.Diff.{view, diff-eq, diff-mul, diff-negate, pos-diff}
use Rattle.twos_complement.proofs.Laws.{signed-diff, signed-mag, signed-wrap, wrap-diff, wrap-wrap, wrap-signed}
use Rattle.twos_complement.proofs.Normal.{move-below}
use Rattle.float.specs.Float.{Half, Excess, normalised}
use Rattle.float.proofs.MantissaLaws.{low-number, high-number}
use Rattle.float_convert.specs.Convert.{too_large, integer_part, fixed_of, float_of}

-- ---- a mantissa divided and truncated toward zero: x is the shifted mantissa in excess form

-- below zero: the shift rounds down, and is exact where no bits are lost
quot-exact : (a n : ℕ) → wrap n (negsuc a) ≡ 0 → negsuc (a / 2 ^ n) ≡ quot_z (negsuc a) (pos (2 ^ n))
unfolding wrap
quot-exact a n e =
    let l = mod-lt a (pow_pos n) in
    let d = div-add-mod' a (2 ^ n) in
    let s : suc a ≡ suc (a / 2 ^ n) * 2 ^ n + 0 = omega arith in
    sym (ap (λ (k : ℕ). neg_ℤ (pos k)) (ap (λ (k : ℕ). k / 2 ^ n) s ∙ digits_div (suc (a / 2 ^ n)) (pow_pos n)))

quot-lost : (a n : ℕ) → 0 < wrap n (negsuc a) → neg_ℤ (pos (a / 2 ^ n)) ≡ quot_z (negsuc a) (pos (2 ^ n))
unfolding wrap
quot-lost a n e =
    let d = div-add-mod' a (2 ^ n) in
    let s : suc a ≡ a / 2 ^ n * 2 ^ n + suc (a % 2 ^ n) = omega arith in
    sym (ap (λ (k : ℕ). neg_ℤ (pos k)) (ap (λ (k : ℕ). k / 2 ^ n) s ∙ digits_div (a / 2 ^ n) (omega arith)))

module _ {w h : ℕ} (hh : Half w h) (m n x : ℕ) (l : m < 2 ^ w) (hx : Excess w x (shr_z (signed w m) (2 ^ n))) where
  from_bits : (r y : ℕ) → (signed w r ≡ sub_ℕ y (2 ^ (w - 1))) × (r < 2 ^ w) → sub_ℕ y (2 ^ (w - 1)) ≡ quot_z (signed w m) (pos (2 ^ n)) → r ≡ wrap w (quot_z (signed w m) (pos (2 ^ n)))
  from_bits r y b e = sym (wrap-signed w r b.1) ∙ ap (wrap w) (b.0 ∙ e)

  pub truncate-low : (r : ℕ) → m < h → (signed w r ≡ sub_ℕ x (2 ^ (w - 1))) × (r < 2 ^ w) → r ≡ wrap w (quot_z (signed w m) (pos (2 ^ n)))
  truncate-low r s b = from_bits r x b (sym hx.number ∙ rw (low-number hh m l s) refl)

  module _ (s : h ≤ m) where
    below : sub_ℕ x (2 ^ (w - 1)) ≡ negsuc ((h + h - 1 - m) / 2 ^ n)
    below = sym hx.number ∙ rw (high-number hh m l s) refl

    pub truncate-exact : (r : ℕ) → wrap n (signed w m) ≡ 0 → (signed w r ≡ sub_ℕ x (2 ^ (w - 1))) × (r < 2 ^ w) → r ≡ wrap w (quot_z (signed w m) (pos (2 ^ n)))
    truncate-exact r z b = from_bits r x b (below ∙ rw (high-number hh m l s) (quot-exact (h + h - 1 - m) n (subst (λ y. wrap n y ≡ 0) (high-number hh m l s) z)))

    next : sub_ℕ (x + 1) (2 ^ (w - 1)) ≡ neg_ℤ (pos ((h + h - 1 - m) / 2 ^ n))
    next =
        view (λ y. y ≡ negsuc ((h + h - 1 - m) / 2 ^ n) → sub_ℕ (x + 1) (2 ^ (w - 1)) ≡ neg_ℤ (pos ((h + h - 1 - m) / 2 ^ n))) x (2 ^ (w - 1))
        (λ k e f. absurd (let y : ◌≡◌ {A = ℕ} 0 1 = cc in omega arith))
        (λ k e f. let q : k ≡ (h + h - 1 - m) / 2 ^ n = cc in diff-eq (x + 1) (2 ^ (w - 1)) 0 k (omega arith) ∙ sym (diff-negate k 0) ∙ ap neg_ℤ (sym (pos-diff k)) ∙ ap (λ (j : ℕ). neg_ℤ (pos j)) q)
        below

    pub truncate-next : x + 1 < 2 ^ w
    truncate-next = view (λ y. y ≡ negsuc ((h + h - 1 - m) / 2 ^ n) → x + 1 < 2 ^ w) x (2 ^ (w - 1)) (λ k e f. absurd (let y : ◌≡◌ {A = ℕ} 0 1 = cc in omega arith)) (λ k e f. let t = hh.twice in let g = hh.weight in omega arith) below

    pub truncate-lost : (r : ℕ) → 0 < wrap n (signed w m) → (signed w r ≡ sub_ℕ (x + 1) (2 ^ (w - 1))) × (r < 2 ^ w) → r ≡ wrap w (quot_z (signed w m) (pos (2 ^ n)))
    truncate-lost r z b = from_bits r (x + 1) b (next ∙ rw (high-number hh m l s) (quot-lost (h + h - 1 - m) n (subst (λ y. 0 < wrap n y) (high-number hh m l s) z)))

-- ---- the integer of n bits, of a mantissa of v + n bits

pub fixed-over : (n w : ℕ) (z : ℤ) (e before : ℕ) → n + 127 < e → before < 2 ^ n → (before ≡ fixed_of n w z e before) × (true ≡ too_large n e) × (before < 2 ^ n)
unfolding too_large fixed_of
fixed-over n w z e before l b = (rw (lt-ltb (n + 127) e l) refl, sym (lt-ltb (n + 127) e l), b)

pub fixed-done : (v n : ℕ) (z : ℤ) (e before r t : ℕ) → e ≤ n + 127 → t ≡ wrap (v + n) (quot_z z (pos (2 ^ (v + n + 127 - e)))) → r ≡ t % 2 ^ n →
    (r ≡ fixed_of n (v + n) z e before) × (false ≡ too_large n e) × (r < 2 ^ n)
unfolding too_large fixed_of integer_part
fixed-done v n z e before r t l s q =
    let f = le-ltb (n + 127) e l in
    (rw f (q ∙ ap (λ (k : ℕ). k % 2 ^ n) s ∙ wrap-wrap v n (quot_z z (pos (2 ^ (v + n + 127 - e))))), sym f, subst (λ (k : ℕ). k < 2 ^ n) (sym q) (mod-lt t (pow_pos n)))

-- at the width w
pub fixed-width : (n w : ℕ) (z : ℤ) (e before r t : ℕ) → 8 + n ≡ w → e ≤ n + 127 → t ≡ wrap w (quot_z z (pos (2 ^ (w + 127 - e)))) → r ≡ t % 2 ^ n →
    (r ≡ fixed_of n w z e before) × (false ≡ too_large n e) × (r < 2 ^ n)
fixed-width n w z e before r t q =
    subst (λ (k : ℕ). e ≤ n + 127 → t ≡ wrap k (quot_z z (pos (2 ^ (k + 127 - e)))) → r ≡ t % 2 ^ n → (r ≡ fixed_of n k z e before) × (false ≡ too_large n e) × (r < 2 ^ n))
    q (fixed-done 8 n z e before r t)

pub fixed-fits : (n r t : ℕ) → n ≤ 32 → r ≡ t % 2 ^ n → r < 2 ^ 32
fixed-fits n r t l q = let m = mod-lt t (pow_pos n) in let b : 2 ^ n ≤ 2 ^ 32 = pow_mono {i = n} {j = 32} l in omega arith

-- ---- an integer of n bits as the upper bits of a mantissa of v + n bits

upper-bits : (v n a : ℕ) → 1 ≤ n → a < 2 ^ n → signed (v + n) (a * 2 ^ v) ≡ signed n a *ℤ pos (2 ^ v)
upper-bits v n a p l =
    let x = signed-diff n a l in
    let s = pow-add 2 v n in
    let b : a * 2 ^ v < 2 ^ (v + n) = subst (λ (k : ℕ). a * 2 ^ v < 2 ^ k) (let t : n + v ≡ v + n = omega arith in t) (shl_lt n v l) in
    let e : wrap (v + n) (signed n a *ℤ pos (2 ^ v)) ≡ a * 2 ^ v =
    ap (wrap (v + n))
    (ap (λ z. z *ℤ pos (2 ^ v)) x.1 ∙ ap (λ z. sub_ℕ a (x.0 * 2 ^ n) *ℤ z) (pos-diff (2 ^ v)) ∙ diff-mul a (x.0 * 2 ^ n) (2 ^ v) 0
    ∙ diff-eq (a * 2 ^ v + x.0 * 2 ^ n * 0) (a * 0 + x.0 * 2 ^ n * 2 ^ v) (a * 2 ^ v) (x.0 * 2 ^ (v + n)) (rw s (omega arith)))
    ∙ wrap-diff (v + n) (a * 2 ^ v) x.0 ∙ mod-eq_of_lt b in
    let g : mag (signed n a *ℤ pos (2 ^ v)) < 2 ^ (v + n - 1) = subst (λ (k : ℕ). mag (signed n a *ℤ pos (2 ^ v)) < 2 ^ k) (let t : n - 1 + v ≡ v + n - 1 = omega arith in t) (move-below (signed n a) (n - 1) v (signed-mag n a p l)) in
    ap (signed (v + n)) (sym e) ∙ signed-wrap (v + n) (signed n a *ℤ pos (2 ^ v)) (omega arith) g

pub floated : (v n a : ℕ) → 1 ≤ n → a < 2 ^ n → normalised (v + n) (signed (v + n) (a * 2 ^ v)) (n + 127) ≡ float_of n (v + n) (signed n a)
unfolding float_of
floated v n a p l = ap (λ z. normalised (v + n) z (n + 127)) (upper-bits v n a p l ∙ ap (λ (k : ℕ). signed n a *ℤ pos (2 ^ k)) (omega arith))
