-- The overflow lines of multiply, as section 5 prints them, say what the definitions say, at every width. Assumes nothing.
use mathlib.Core.Path.{◌≡◌, refl, sym, ap, ap₂, ◌∙◌, subst}
use mathlib.Core.Bool.{Bool, true, false, not, ◌&&◌, ◌||◌, beq}
use mathlib.Core.Logic.{⊎_elim}
use Prim.Native.Nat.{ℕ, zero, suc, ◌+◌, ◌-◌, ◌*◌, ◌/◌, ◌%◌, ◌^◌, ◌≤◌, ◌<◌}
use native.Mathlib.Nat.{zero-mul, mul-zero, zero-div, mod-eq_of_lt, mul-le-mul, div-eq_of_lt, div-lt_iff_lt-mul, le-div_iff_mul-le}
use native.Mathlib.Omega.{arith}
use lib.Dec.{eqb, eqb-suc-zero}
use lib.Pow.{pow_pos, pow-add, pow-lt}
use lib.Arith.{digits_div, digits_mod}
use borrow.Author.Tests.{lt-ltb, le-ltb, le-leb, lt-leb, eq-eqb, ne_eqb}
use Rattle.twos_complement.specs.Whole.{wrap, holds, with_sign}
use Rattle.twos_complement.proofs.Diff.{order}
use Rattle.twos_complement.proofs.Laws.{half}
use Rattle.twos_complement.proofs.Signs.{differ, join-pos, join-neg, join-zero, long-pos, long-neg}
use Rattle.fixed_add.specs.declared.Outcome.{Outcome}
use Rattle.fixed_add.specs.Fixed.{outcome_of}
use Rattle.fixed_add.proofs.SumLines.{bit0}
use Rattle.fixed_muldiv.specs.Divide.{product, long_product}
use Rattle.fixed_muldiv.proofs.PartsLaws.{Split, split, held}
use Rattle.fixed_muldiv.proofs.ProductLaws.{product_is, long-product-is}

-- 5.71, 5.73: the line, where the operands have one sign (e), the upper half of the product is zero (z) or all ones (f), its lower half has sign r, and an operand is zero (a, b)
abbrev pub printed : Bool → Bool → Bool → Bool → Bool → Bool → Bool
printed e z f r a b = (e && (not z || r)) || ((not e && (not f || not r)) && (not a && not b))

-- the halves of 2^(2w) - x
top : (M x : ℕ) → 0 < M → x ≤ M → M * M - x ≡ (M - 1) * M + (M - x)
top zero x p l = absurd (let n : ⊥ = omega arith in n)
top (suc j) x p l = let e : suc j - 1 ≡ j = omega arith in rw e (omega arith)

under : (M x : ℕ) → 0 < M → M < x → x < M * M → (M * M - x) / M < M - 1
under M x p l u = (div-lt_iff_lt-mul p).1 (below M p l u)
  where
    below : (M : ℕ) → 0 < M → M < x → x < M * M → M * M - x < (M - 1) * M
    below zero p l u = absurd (let n : ⊥ = omega arith in n)
    below (suc j) p l u = let e : suc j - 1 ≡ j = omega arith in rw e (omega arith)

-- whether a product is zero
no-factor : (m n : ℕ) → m * n ≡ 0 → (not (eqb m 0) && not (eqb n 0)) ≡ false
no-factor zero n e = refl
no-factor (suc m) zero e = rw (eqb-suc-zero m)
no-factor (suc m) (suc n) e = absurd (let x : ⊥ = omega arith in x)

some-factor : (m n : ℕ) → 0 < m * n → (not (eqb m 0) && not (eqb n 0)) ≡ true
some-factor zero n l = absurd (let e = zero-mul n in let x : ⊥ = omega arith in x)
some-factor (suc m) zero l = absurd (let e = mul-zero (suc m) in let x : ⊥ = omega arith in x)
some-factor (suc m) (suc n) l = rw (eqb-suc-zero m, eqb-suc-zero n)

-- a test and its contrary
back : (e d : Bool) → not e ≡ d → e ≡ not d
back true d q = ap not q
back false d q = ap not q

module _ (w a b : ℕ) (p : 1 ≤ w) (la : a < 2 ^ w) (lb : b < 2 ^ w) where
  abbrev H : ℕ
  H = 2 ^ (w - 1)

  abbrev M : ℕ
  M = 2 ^ w

  -- the halves of the product of 2w bits, and the line of it
  abbrev pub upper_half : ℕ
  upper_half = (long_product w a b).value / M

  abbrev pub lower_half : ℕ
  lower_half = (long_product w a b).value % M

  abbrev pub line : Bool
  line = printed (beq (bit0 w a) (bit0 w b)) (eqb upper_half 0) (eqb upper_half (M - 1)) (bit0 w lower_half) (eqb a 0) (eqb b 0)

  module _ {s t : Bool} {m n : ℕ} (x : Split w a s m) (y : Split w b t n) where
    -- from the sign d and the bits P of the product
    product-by : (d : Bool) (P : ℕ) (o z f r : Bool) → differ s t ≡ d → wrap (w + w) (with_sign d (m * n)) ≡ P → not (holds w (with_sign d (m * n))) ≡ o →
        eqb (P / M) 0 ≡ z → eqb (P / M) (M - 1) ≡ f → bit0 w (P % M) ≡ r → o ≡ printed (not d) z f r (eqb m 0) (eqb n 0) → (product w a b).overflow ≡ line
    unfolding outcome_of
    product-by d P o z f r ed eP eo ez ef er e =
        let v : (long_product w a b).value ≡ P = ap (λ (q : Outcome ℕ). q.value) (sym (long-product-is x.parts y.parts)) ∙ ap (λ (c : Bool). wrap (w + w) (with_sign c (m * n))) ed ∙ eP in
        ap (λ (q : Outcome ℕ). q.overflow) (sym (product_is x.parts y.parts)) ∙ ap (λ (c : Bool). not (holds w (with_sign c (m * n)))) ed ∙ eo ∙ e
        ∙ sym (rw (x.sign, y.sign, back (beq s t) d ed, v, ez, ef, er, ← x.none, ← y.none) refl)

    square : 2 ^ (w + w) ≡ M * M
    square = pow-add 2 w w

    bound : m * n < M * M
    bound =
        let l : m * n ≤ H * H = mul-le-mul x.parts.small y.parts.small in
        let h : M * M ≡ (H + H) * (H + H) = ap₂ ◌*◌ (half w p) (half w p) in
        let g : 0 < H * H = subst (λ (i : ℕ). 0 < i) (pow-add 2 (w - 1) (w - 1)) (pow_pos (w - 1 + (w - 1))) in
        omega arith

    wide : m * n < 2 ^ (w + w)
    wide = subst (λ (i : ℕ). m * n < i) (sym square) bound

    -- operands of one sign
    same : differ s t ≡ false → (product w a b).overflow ≡ line
    same e =
        let q = m * n in
        let h = half w p in
        let v = sym (join-pos (w + w) q wide) in
        let o = long-pos w q in
        ⊎_elim
        (λ l.
        let u : q < M = omega arith in
        product-by false q false true _ false e v (o ∙ lt-leb H q l) (eq-eqb (q / M) 0 (div-eq_of_lt u)) refl (ap (bit0 w) (mod-eq_of_lt u) ∙ lt-leb H q l) refl)
        (λ l. ⊎_elim
        (λ u. product-by false q true true _ true e v (o ∙ le-leb H q l) (eq-eqb (q / M) 0 (div-eq_of_lt u)) refl (ap (bit0 w) (mod-eq_of_lt u) ∙ le-leb H q l) refl)
        (λ u.
        let k : 1 ≤ q / M = (le-div_iff_mul-le (pow_pos w)).1 (omega arith) in
        product-by false q true false _ _ e v (o ∙ le-leb H q l) (ne_eqb (q / M) 0 (λ z. omega arith)) refl refl refl)
        (order q M))
        (order q H)

    -- operands of opposite signs
    opposite : differ s t ≡ true → (product w a b).overflow ≡ line
    opposite e =
        let q = m * n in
        let P = M * M - m * n in
        let h = half w p in
        let g = pow_pos (w - 1) in
        let o = long-neg w q in
        ⊎_elim
        (λ l.
        let v : wrap (w + w) (with_sign true q) ≡ P = sym (join-neg (w + w) q l wide) ∙ ap (λ (i : ℕ). i - q) square in
        ⊎_elim
        (λ u.
        let k = under M q (pow_pos w) u bound in
        product-by true P true _ false _ e v (o ∙ lt-ltb H q (omega arith)) refl (ne_eqb (P / M) (M - 1) (λ z. omega arith)) refl (sym (some-factor m n l)))
        (λ u.
        let c = top M q (pow_pos w) u in
        let r : M - q < M = omega arith in
        let i : eqb (P / M) (M - 1) ≡ true = eq-eqb (P / M) (M - 1) (ap (λ (j : ℕ). j / M) c ∙ digits_div (M - 1) r) in
        let j : P % M ≡ M - q = ap (λ (j : ℕ). j % M) c ∙ digits_mod (M - 1) r in
        ⊎_elim
        (λ y. product-by true P true _ true false e v (o ∙ lt-ltb H q y) refl i (ap (bit0 w) j ∙ lt-leb H (M - q) (omega arith)) (sym (some-factor m n l)))
        (λ y. product-by true P false _ true true e v (o ∙ le-ltb H q y) refl i (ap (bit0 w) j ∙ le-leb H (M - q) (omega arith)) refl)
        (order H q))
        (order M q))
        (λ l.
        let z : q ≡ 0 = omega arith in
        product-by true 0 false _ false _ e (ap (λ (i : ℕ). wrap (w + w) (with_sign true i)) z ∙ sym (join-zero (w + w))) (o ∙ le-ltb H q (omega arith)) refl
        (ap (λ (i : ℕ). eqb i (M - 1)) (zero-div M) ∙ ne_eqb 0 (M - 1) (λ z. omega arith)) refl (sym (no-factor m n z)))
        (order 0 q)

  signs : (s t : Bool) (m n : ℕ) → Split w a s m → Split w b t n → (product w a b).overflow ≡ line
  signs false false m n x y = same x y refl
  signs false true m n x y = opposite x y refl
  signs true false m n x y = opposite x y refl
  signs true true m n x y = same x y refl

  pub product-overflow : (product w a b).overflow ≡ line
  product-overflow = split w a p la (λ s m x. split w b p lb (λ t n y. signs s t m n x y))

  -- 5.72 has no overflow line: 2w bits hold every product
  long_lt : {m n : ℕ} → m ≤ H → n ≤ H → m * n < 2 ^ (w + w - 1)
  long_lt {m} {n} x y =
      let l : m * n ≤ H * H = mul-le-mul x y in
      let s : 2 ^ (w - 1 + (w - 1)) < 2 ^ (w + w - 1) = pow-lt (let i : w - 1 + (w - 1) < w + w - 1 = omega arith in i) in
      let q = pow-add 2 (w - 1) (w - 1) in
      omega arith

  pub long-product-overflow : (long_product w a b).overflow ≡ false
  unfolding outcome_of
  long-product-overflow =
      split w a p la (λ s m x. split w b p lb (λ t n y.
      ap (λ (q : Outcome ℕ). q.overflow) (sym (long-product-is x.parts y.parts)) ∙ held (w + w) (m * n) (differ s t) (long_lt x.parts.small y.parts.small)))
