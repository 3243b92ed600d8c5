-- The distance of the normaliser, for a mantissa of any width: the least left move after which the first two bits differ is a count of leading zeros. Assumes nothing.
use mathlib.Core.Path.{◌≡◌, refl, sym, ap, ◌∙◌, subst}
use mathlib.Core.Bool.{Bool, true, false, cond}
use Prim.Native.Nat.{ℕ, zero, suc, ◌+◌, ◌-◌, ◌*◌, ◌^◌, ◌≤◌, ◌<◌, suc-le-suc}
use native.Mathlib.Nat.{zero-mul, mul-le-mul_right, mul-lt-mul_of_pos_right, mul-one, pow-succ', lt_of_lt_of_le}
use native.Mathlib.Omega.{arith}
use lib.IntN.{ℤ, pos, negsuc, neg_ℤ, nat_abs, ◌*ℤ◌}
use lib.Signed.{mag}
use lib.Pow.{pow_pos, pow-add, pow_mono}
use lib.Count.{count_leading_zeros, leading_length, leading_unique}
use borrow.Author.Tests.{le-leb, lt-leb}
use Rattle.twos_complement.specs.Normal.{normal, moves, distance}

-- ---- a left move of a whole number, and its magnitude

mag-neg : (k : ℕ) → 0 < k → suc (mag (neg_ℤ (pos k))) ≡ k
mag-neg zero p = absurd (let x : ⊥ = omega arith in x)
mag-neg (suc k) p = refl

mag-neg-move : (n e : ℕ) → suc (mag (negsuc n *ℤ pos (2 ^ e))) ≡ suc n * 2 ^ e
mag-neg-move n e = mag-neg (suc n * 2 ^ e) (let p = pow_pos e in let q = mul-le-mul_right (2 ^ e) (let o : 1 ≤ suc n = omega arith in o) in omega arith)

-- a number that m bits hold after its sign is held by m + e after a move by e
pub move-below : (z : ℤ) (m e : ℕ) → mag z < 2 ^ m → mag (z *ℤ pos (2 ^ e)) < 2 ^ (m + e)
move-below (pos n) m e l = subst (λ (x : ℕ). n * 2 ^ e < x) (sym (pow-add 2 m e)) (mul-lt-mul_of_pos_right l (pow_pos e))
move-below (negsuc n) m e l =
    let s = mag-neg-move n e in
    let q = mul-le-mul_right (2 ^ e) l in
    let t = pow-add 2 m e in
    omega arith

pub move-above : (z : ℤ) (m e : ℕ) → 2 ^ m ≤ mag z → 2 ^ (m + e) ≤ mag (z *ℤ pos (2 ^ e))
move-above (pos n) m e l = subst (λ (x : ℕ). x ≤ n * 2 ^ e) (sym (pow-add 2 m e)) (mul-le-mul_right (2 ^ e) l)
move-above (negsuc n) m e l =
    let s = mag-neg-move n e in
    let q = mul-le-mul_right (2 ^ e) (suc-le-suc l) in
    let t = pow-add 2 m e in
    let p = pow_pos e in
    omega arith

-- ---- the first move at which a number is normal

pub normal-yes : (w : ℕ) (z : ℤ) → 2 ^ (w - 2) ≤ mag z → normal w z ≡ true
unfolding normal
normal-yes w z l = le-leb (2 ^ (w - 2)) (mag z) l

pub normal-no : (w : ℕ) (z : ℤ) → mag z < 2 ^ (w - 2) → normal w z ≡ false
unfolding normal
normal-no w z l = lt-leb (2 ^ (w - 2)) (mag z) l

neg-mul : (k m : ℕ) → neg_ℤ (pos k) *ℤ pos m ≡ neg_ℤ (pos (k * m))
neg-mul zero m = simp zero-mul
neg-mul (suc k) m = refl

regroup : (n e : ℕ) → n * 2 * 2 ^ e ≡ n * 2 ^ suc e
regroup n e = let p = pow-succ' 2 e in let t : n * 2 * 2 ^ e ≡ n * (2 * 2 ^ e) = omega arith in t ∙ ap (λ (x : ℕ). n * x) (sym p)

move-one : (z : ℤ) (e : ℕ) → z *ℤ pos 2 *ℤ pos (2 ^ e) ≡ z *ℤ pos (2 ^ suc e)
move-one (pos n) e = ap pos (regroup n e)
move-one (negsuc n) e = neg-mul (suc n * 2) (2 ^ e) ∙ ap (λ (x : ℕ). neg_ℤ (pos x)) (regroup (suc n) e)

move-zero : (z : ℤ) → z *ℤ pos (2 ^ 0) ≡ z
move-zero (pos n) = simp mul-one
move-zero (negsuc n) = simp mul-one

-- normal after d moves, and not before
pub moves-is : (f d w : ℕ) (z : ℤ) → d ≤ f → normal w (z *ℤ pos (2 ^ d)) ≡ true → ((e : ℕ) → e < d → normal w (z *ℤ pos (2 ^ e)) ≡ false) → moves f w z ≡ d
unfolding moves
moves-is zero zero w z l y n = refl
moves-is zero (suc d) w z l y n = absurd (let x : ⊥ = omega arith in x)
moves-is (suc f) zero w z l y n = ap (λ (b : Bool). cond b 0 (suc (moves f w (z *ℤ pos 2)))) (ap (normal w) (sym (move-zero z)) ∙ y)
moves-is (suc f) (suc d) w z l y n =
    ap (λ (b : Bool). cond b 0 (suc (moves f w (z *ℤ pos 2)))) (ap (normal w) (sym (move-zero z)) ∙ n 0 (omega arith))
    ∙ ap suc (moves-is f d w (z *ℤ pos 2) (omega arith) (ap (normal w) (move-one z d) ∙ y) (λ e h. ap (normal w) (move-one z e) ∙ n (suc e) (suc-le-suc h)))

-- ---- the count of leading zeros

-- a wider word has more leading zeros
pub leading_wider : (v k x : ℕ) → x < 2 ^ k → count_leading_zeros (v + k) x ≡ v + count_leading_zeros k x
leading_wider v k x l = let s = leading_length k x l in sym (leading_unique (v + k) x (v + count_leading_zeros k x) s.0 (let e = s.1 in omega arith) s.2 s.3)

-- z is not zero, and its magnitude is held by w - 1 bits
pub record Counted (w : ℕ) (z : ℤ) (d : ℕ) : Type 0 where
  pub below : d < w
  pub held : mag (z *ℤ pos (2 ^ d)) < 2 ^ (w - 1)
  pub reached : 2 ^ (w - 2) ≤ mag (z *ℤ pos (2 ^ d))
  pub least : (e : ℕ) → e < d → mag (z *ℤ pos (2 ^ e)) < 2 ^ (w - 2)

reached-at : (w : ℕ) (z : ℤ) (d m : ℕ) → 2 ≤ w → d + m ≡ w - 1 → mag z < 2 ^ m → 2 ^ m ≤ 2 * mag z + 1 → 0 < nat_abs z → 2 ^ (w - 2) ≤ mag (z *ℤ pos (2 ^ d))
reached-at w (pos n) d zero p e l u nz = absurd (let x : ⊥ = omega arith in x)
reached-at w (negsuc n) d zero p e l u nz =
    let s = mag-neg-move n d in
    let q = mul-le-mul_right (2 ^ d) (let o : 1 ≤ suc n = omega arith in o) in
    let t : 2 ^ d ≡ 2 ^ suc (w - 2) = ap (λ (x : ℕ). 2 ^ x) (omega arith) in
    let r = pow-succ' 2 (w - 2) in
    let b = pow_pos (w - 2) in
    omega arith
reached-at w z d (suc j) p e l u nz =
    subst (λ (x : ℕ). 2 ^ x ≤ mag (z *ℤ pos (2 ^ d))) (let t : j + d ≡ w - 2 = omega arith in t) (move-above z j d (let r = pow-succ' 2 j in omega arith))

counted-at : (w : ℕ) (z : ℤ) (d m : ℕ) → 2 ≤ w → d + m ≡ w - 1 → mag z < 2 ^ m → 2 ^ m ≤ 2 * mag z + 1 → 0 < nat_abs z → Counted w z d
counted-at w z d m p e l u nz = record {
  below = omega arith;
  held = subst (λ (x : ℕ). mag (z *ℤ pos (2 ^ d)) < 2 ^ x) (let t : m + d ≡ w - 1 = omega arith in t) (move-below z m d l);
  reached = reached-at w z d m p e l u nz;
  least = λ f h. lt_of_lt_of_le (move-below z m f l) (pow_mono (let t : m + f ≤ w - 2 = omega arith in t));
}

pub counted : (w : ℕ) (z : ℤ) → 2 ≤ w → 0 < nat_abs z → mag z < 2 ^ (w - 1) → Counted w z (count_leading_zeros (w - 1) (mag z))
counted w z p nz l = let s = leading_length (w - 1) (mag z) l in counted-at w z (count_leading_zeros (w - 1) (mag z)) s.0 p s.1 s.2 s.3 nz

-- the least left move is the count of leading zeros
pub distance_is : (w : ℕ) (z : ℤ) → 2 ≤ w → 0 < nat_abs z → mag z < 2 ^ (w - 1) → distance w z ≡ count_leading_zeros (w - 1) (mag z)
unfolding distance
distance_is w z p nz l =
    let c = counted w z p nz l in
    moves-is w (count_leading_zeros (w - 1) (mag z)) w z (let b = c.below in omega arith) (normal-yes w _ c.reached) (λ e h. normal-no w _ (c.least e h))
