-- The negative and the absolute value of a float with a mantissa of any width w, one law for each answer of the code. Assumes nothing.
use Rattle.std.specs.Prelude.{Some, None}
use Rattle.float.specs.declared.FloatFault.TheVariants.{Overflow, Underflow}
use mathlib.Core.Path.{◌≡◌, refl, sym, ap, ◌∙◌}
use mathlib.Core.Bool.{false}
use mathlib.Core.Logic.{⊎_elim}
use Prim.Native.Nat.{ℕ, suc, ◌+◌, ◌-◌, ◌*◌, ◌%◌, ◌^◌, ◌≤◌, ◌<◌}
use native.Mathlib.Nat.{mod-eq_of_lt, zero-mod, add-mul-mod_self_right}
use native.Mathlib.Omega.{arith}
use lib.IntN.{neg_ℤ}
use lib.Dec.{eqb}
use lib.Pow.{pow_pos}
use borrow.Author.Tests.{eq-eqb, ne_eqb}
use Rattle.twos_complement.specs.Whole.{signed, wrap}
use Rattle.twos_complement.proofs.Diff.{order, diff-eq, diff-negate}
use Rattle.twos_complement.proofs.Laws.{half, signed_low, signed_high, signed-diff, wrap-diff, wrap-signed}
use Rattle.float.specs.Float.{overflowed, float_zero}
use Rattle.float.proofs.FloatLaws.{Is}
use Rattle.float_convert.specs.Convert.{kept, minus_one, one_half, same, negated_of, absolute_of}

module _ (w : ℕ) (p : 2 ≤ w) where
  -- the weights of the first two bits
  one : 1 ≤ w
  one = omega arith

  halves : 2 ^ (w - 1) ≡ 2 ^ (w - 2) + 2 ^ (w - 2)
  halves = half (w - 1) (omega arith) ∙ ap (λ (k : ℕ). 2 ^ k + 2 ^ k) (omega arith)

  module _ (m : ℕ) (l : m < 2 ^ w) where
    is-minus-one : same (signed w m) (minus_one w) ≡ eqb m (2 ^ (w - 1))
    unfolding same minus_one
    is-minus-one =
        let t = half w one in
        let g = pow_pos (w - 1) in
        ⊎_elim (λ s. ap (λ z. same z (minus_one w)) (signed_low w m s) ∙ sym (ne_eqb m (2 ^ (w - 1)) (λ e. omega arith)))
        (λ s. ap (λ z. same z (minus_one w)) (signed_high w m s)
        ∙ ⊎_elim (λ u. ne_eqb (2 ^ w - suc m) (2 ^ (w - 1) - 1) (λ e. omega arith) ∙ sym (ne_eqb m (2 ^ (w - 1)) (λ e. omega arith)))
        (λ u. eq-eqb (2 ^ w - suc m) (2 ^ (w - 1) - 1) (omega arith) ∙ sym (eq-eqb m (2 ^ (w - 1)) (omega arith))) (order (2 ^ (w - 1)) m))
        (order m (2 ^ (w - 1)))

    is-one-half : same (signed w m) (one_half w) ≡ eqb m (2 ^ (w - 2))
    unfolding same one_half
    is-one-half =
        let t = halves in
        let g = pow_pos (w - 2) in
        ⊎_elim (λ s. ap (λ z. same z (one_half w)) (signed_low w m s))
        (λ s. ap (λ z. same z (one_half w)) (signed_high w m s) ∙ sym (ne_eqb m (2 ^ (w - 2)) (λ e. omega arith)))
        (order m (2 ^ (w - 1)))

    -- the two's complement of the bits
    wrap-negate : wrap w (neg_ℤ (signed w m)) ≡ (2 ^ w - m) % 2 ^ w
    wrap-negate =
        let x = signed-diff w m l in
        let k = x.0 in
        ap (wrap w) (ap neg_ℤ x.1 ∙ diff-negate m (k * 2 ^ w) ∙ diff-eq (k * 2 ^ w) m (2 ^ w - m + k * 2 ^ w) (1 * 2 ^ w) (omega arith))
        ∙ wrap-diff w (2 ^ w - m + k * 2 ^ w) 1 ∙ add-mul-mod_self_right (2 ^ w - m) k (2 ^ w)

    module _ (e : ℕ) where
      pub negate-extreme : m ≡ 2 ^ (w - 1) → e ≡ 255 → Is w (2 ^ (w - 1) - 1) 255 (Some Overflow) (negated_of w (signed w m) e)
      unfolding negated_of overflowed wrap
      negate-extreme s f =
          let t = half w one in
          let g = pow_pos (w - 1) in
          rw (is-minus-one, eq-eqb _ _ s, eq-eqb _ _ f) (record { bits = sym (mod-eq_of_lt (omega arith)); exponent = refl; fault = refl })

      pub negate-up : m ≡ 2 ^ (w - 1) → (e ≡ 255 → ⊥) → Is w (2 ^ (w - 2)) (e + 1) None (negated_of w (signed w m) e)
      unfolding negated_of kept one_half wrap
      negate-up s f =
          let t = half w one in
          let u = halves in
          let g = pow_pos (w - 2) in
          rw (is-minus-one, is-one-half, eq-eqb _ _ s, ne_eqb _ _ f, ne_eqb m (2 ^ (w - 2)) (λ x. omega arith))
          (record { bits = sym (mod-eq_of_lt (omega arith)); exponent = refl; fault = refl })

      module _ (s : m ≡ 2 ^ (w - 2)) where
        other : eqb m (2 ^ (w - 1)) ≡ false
        other = let u = halves in let g = pow_pos (w - 2) in ne_eqb m (2 ^ (w - 1)) (λ x. omega arith)

        pub negate_zero : e ≡ 0 → Is w 0 128 (Some Underflow) (negated_of w (signed w m) e)
        unfolding negated_of float_zero wrap
        negate_zero f = rw (is-minus-one, is-one-half, other, eq-eqb _ _ s, eq-eqb _ _ f) (record { bits = sym (zero-mod (2 ^ w)); exponent = refl; fault = refl })

        pub negate-down : (e ≡ 0 → ⊥) → Is w (2 ^ (w - 1)) (e - 1) None (negated_of w (signed w m) e)
        unfolding negated_of kept minus_one wrap
        negate-down f =
            let t = half w one in
            let g = pow_pos (w - 1) in
            let r : (2 ^ (w - 1) - 1) % 2 ^ w ≡ 2 ^ (w - 1) - 1 = mod-eq_of_lt (omega arith) in
            rw (is-minus-one, is-one-half, other, eq-eqb _ _ s, ne_eqb _ _ f) (record { bits = omega arith; exponent = refl; fault = refl })

      pub negate-else : (m ≡ 2 ^ (w - 1) → ⊥) → (m ≡ 2 ^ (w - 2) → ⊥) → Is w ((2 ^ w - m) % 2 ^ w) e None (negated_of w (signed w m) e)
      unfolding negated_of kept
      negate-else s f = rw (is-minus-one, is-one-half, ne_eqb _ _ s, ne_eqb _ _ f) (record { bits = sym wrap-negate; exponent = refl; fault = refl })

      pub absolute-low : m < 2 ^ (w - 1) → Is w m e None (absolute_of w (signed w m) e)
      unfolding absolute_of kept
      absolute-low s = rw (signed_low w m s) (record { bits = sym (ap (wrap w) (sym (signed_low w m s)) ∙ wrap-signed w m l); exponent = refl; fault = refl })

      pub absolute-high : 2 ^ (w - 1) ≤ m → negated_of w (signed w m) e ≡ absolute_of w (signed w m) e
      unfolding absolute_of
      absolute-high s = rw (signed_high w m s) refl
