-- `sign_changes`, which is by range, says what 5.19 and 5.22 say: the sign bit differs before and after some single move to the left. Assumes nothing.
use mathlib.Core.Path.{◌≡◌, sym, ap, ◌∙◌, subst}
use mathlib.Core.Bool.{Bool, true, false, not, ◌||◌, beq}
use mathlib.Core.Logic.{⊎_elim}
use Prim.Native.Nat.{ℕ, zero, suc, ◌+◌, ◌-◌, ◌*◌, ◌%◌, ◌^◌, ◌≤◌, ◌<◌}
use native.Mathlib.Nat.{mod-lt, mod-eq_of_lt, add-mod_right, mul-le-mul_left, pow-suc}
use native.Mathlib.Omega.{arith}
use lib.Dec.{ltb, leb}
use lib.Pow.{pow_pos}
use borrow.Author.Tests.{lt-ltb, le-ltb, le-leb, lt-leb}
use Rattle.twos_complement.specs.Whole.{shift_left, sign_changes}
use Rattle.twos_complement.proofs.Diff.{order}
use Rattle.twos_complement.proofs.Laws.{half}
use Rattle.shift.proofs.ShiftLaws.{low-changes, high-changes}

-- the sign bit of w bits
unfoldable pub sign : ℕ → ℕ → Bool
sign w a = leb (2 ^ (w - 1)) a

-- one position after the other
unfoldable pub stepwise : ℕ → ℕ → ℕ → Bool
stepwise w zero a = false
stepwise w (suc n) a = not (beq (sign w a) (sign w (shift_left w 1 a))) || stepwise w n (shift_left w 1 a)

-- one place more
more : (m n : ℕ) → m * 2 ^ suc n ≡ m * 2 * 2 ^ n
more m n = let e = pow-suc 2 n in ap (λ (x : ℕ). m * x) e ∙ (omega arith)

grows : (m n : ℕ) → m ≤ m * 2 ^ n
grows m n = let l = mul-le-mul_left m (pow_pos n) in omega arith

-- a word without a sign, and one with it, after one place
low_first : (w a : ℕ) → 1 ≤ w → a < 2 ^ (w - 1) → shift_left w 1 a ≡ a * 2
unfolding shift_left
low_first w a p l = let h = half w p in mod-eq_of_lt (omega arith)

high-first : (w a : ℕ) → 1 ≤ w → 2 ^ (w - 1) ≤ a → a < 2 ^ w → shift_left w 1 a ≡ a * 2 - 2 ^ w
unfolding shift_left
high-first w a p l u =
    let h = half w p in
    ap (λ (x : ℕ). x % 2 ^ w) (let e : a * 2 ≡ (a * 2 - 2 ^ w) + 2 ^ w = omega arith in e) ∙ add-mod_right (a * 2 - 2 ^ w) (2 ^ w) ∙ mod-eq_of_lt (omega arith)

-- how the first place and the rest make up the answer
same : (w n a b : ℕ) (s t : Bool) → sign w a ≡ s → sign w b ≡ s → sign_changes w n b ≡ t → t ≡ (not (beq (sign w a) (sign w b)) || sign_changes w n b)
same w n a b true t p q e = rw (p, q, e)
same w n a b false t p q e = rw (p, q, e)

other : (w n a b : ℕ) (s : Bool) → sign w a ≡ s → sign w b ≡ not s → true ≡ (not (beq (sign w a) (sign w b)) || sign_changes w n b)
other w n a b true p q = rw (p, q)
other w n a b false p q = rw (p, q)

-- what the first place and the rest say of a move by n + 1 places, b being the word after the first
abbrev Split : ℕ → ℕ → ℕ → ℕ → Type 0
Split w n a b = sign_changes w (suc n) a ≡ (not (beq (sign w a) (sign w b)) || sign_changes w n b)

low-split : (w n a : ℕ) → a < 2 ^ (w - 1) → Split w n a (a * 2)
unfolding sign
low-split w n a l =
    let h = 2 ^ (w - 1) in
    let g = grows (a * 2) n in
    let e = more a n in
    sym (low-changes w (suc n) a l)
    ∙ ⊎_elim (λ s. ap (leb h) e ∙ same w n a (a * 2) false _ (lt-leb h a l) (lt-leb h (a * 2) s) (sym (low-changes w n (a * 2) s)))
    (λ s. le-leb h (a * 2 ^ suc n) (omega arith) ∙ other w n a (a * 2) false (lt-leb h a l) (le-leb h (a * 2) s))
    (order (a * 2) h)

high-split : (w n a : ℕ) → 1 ≤ w → 2 ^ (w - 1) ≤ a → a < 2 ^ w → Split w n a (a * 2 - 2 ^ w)
unfolding sign
high-split w n a p l u =
    let h = 2 ^ (w - 1) in
    let m = 2 ^ w - a in
    let b = a * 2 - 2 ^ w in
    let g = grows (m * 2) n in
    let e = more m n in
    let hw = half w p in
    let d : 2 ^ w - b ≡ m * 2 = omega arith in
    sym (high-changes w (suc n) a p l u)
    ∙ ⊎_elim (λ s. lt-ltb h (m * 2 ^ suc n) (omega arith) ∙ other w n a b true (le-leb h a l) (lt-leb h b (omega arith)))
    (λ s. ap (ltb h) (e ∙ ap (λ (x : ℕ). x * 2 ^ n) (sym d))
    ∙ same w n a b true _ (le-leb h a l) (le-leb h b (omega arith)) (sym (high-changes w n b p (omega arith) (omega arith))))
    (order h (m * 2))

first : (w n a : ℕ) → 1 ≤ w → a < 2 ^ w → Split w n a (shift_left w 1 a)
first w n a p u =
    ⊎_elim (λ l. subst (Split w n a) (sym (low_first w a p l)) (low-split w n a l))
    (λ l. subst (Split w n a) (sym (high-first w a p l u)) (high-split w n a p l u))
    (order a (2 ^ (w - 1)))

pub each-position : (w n a : ℕ) → 1 ≤ w → a < 2 ^ w → sign_changes w n a ≡ stepwise w n a
unfolding stepwise shift_left
each-position w zero a p u =
    let h = half w p in
    ⊎_elim (λ l. sym (low-changes w 0 a l) ∙ lt-leb (2 ^ (w - 1)) (a * 1) (omega arith))
    (λ l. sym (high-changes w 0 a p l u) ∙ le-ltb (2 ^ (w - 1)) ((2 ^ w - a) * 1) (omega arith))
    (order a (2 ^ (w - 1)))
each-position w (suc n) a p u =
    first w n a p u
    ∙ ap (λ t. not (beq (sign w a) (sign w (shift_left w 1 a))) || t) (each-position w n (shift_left w 1 a) p (mod-lt (a * 2 ^ 1) (pow_pos w)))
