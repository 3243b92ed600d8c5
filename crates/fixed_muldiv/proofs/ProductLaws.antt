-- Products at every width, from signs and magnitudes. Assumes nothing.
use mathlib.Core.Path.{◌≡◌, sym, ap, ◌∙◌}
use mathlib.Core.Bool.{Bool, false}
use Prim.Native.Nat.{ℕ, ◌+◌, ◌-◌, ◌*◌, ◌^◌, ◌<◌}
use native.Mathlib.Nat.{mul-le-mul, lt_of_le_of_lt}
use lib.IntN.{◌*ℤ◌}
use lib.Dec.{T, ltb, lit<}
use Rattle.twos_complement.specs.Whole.{signed, with_sign, Parts}
use Rattle.twos_complement.proofs.Signs.{differ, mul-sign}
use Rattle.fixed_add.specs.Fixed.{outcome_of}
use Rattle.fixed_muldiv.specs.Divide.{product, long_product}

-- the product of two numbers, from their parts
module _ {w a b m n : ℕ} {s t : Bool} (x : Parts w a s m) (y : Parts w b t n) where
  product-number : with_sign (differ s t) (m * n) ≡ signed w a *ℤ signed w b
  product-number = sym (ap (λ z. z *ℤ signed w b) x.number ∙ ap (λ z. with_sign s m *ℤ z) y.number ∙ mul-sign s t m n)

  pub product_is : outcome_of w false (with_sign (differ s t) (m * n)) ≡ product w a b
  unfolding product
  product_is = ap (outcome_of w false) product-number

  pub long-product-is : outcome_of (w + w) false (with_sign (differ s t) (m * n)) ≡ long_product w a b
  unfolding long_product
  long-product-is = ap (outcome_of (w + w) false) product-number

pub product_lt : (w B : ℕ) → T (ltb (2 ^ (w - 1) * 2 ^ (w - 1)) B) → {a b m n : ℕ} {s t : Bool} → Parts w a s m → Parts w b t n → m * n < B
product_lt w B l x y = lt_of_le_of_lt (mul-le-mul x.small y.small) (lit< l)
