-- A timer's units, of which those of the tenths that pass are counted first. Assumes nothing.
use Rattle.std.proofs.Common.{◌≡◌, ℕ, ◌+◌, ◌-◌, ◌*◌, ◌/◌, ◌%◌, ◌^◌, ◌<◌, ◌≤◌, ap, sym, ◌∙◌, arith}
use Rattle.std.proofs.Math.Nat.{mul-add-div_right, mul-add-mod_self_right, div-mul-le_self, div-le_self, mul-le-mul_left}
use Rattle.std.proofs.lemmas.Nat.{div-add-mod'}

module _ (u r d : ℕ) where
  apart : r + d ≡ d / u * u + (d % u + r)
  apart = let whole = div-add-mod' d u in omega (arith, whole)

  pub units-apart : 0 < u → d / u + (d % u + r) / u ≡ (r + d) / u
  units-apart h = sym (ap (λ x. x / u) apart ∙ mul-add-div_right h (d / u) (d % u + r))

  pub rest-apart : (d % u + r) % u ≡ (r + d) % u
  rest-apart = sym (ap (λ x. x % u) apart ∙ mul-add-mod_self_right (d / u) u (d % u + r))

  pub units-small : 2 ≤ u → u ≤ 1000 → r < 65536 → d < 2 ^ 64 → d / u + (d % u + r) / u < 2 ^ 64 - 65536
  units-small h k l m =
      let twice = mul-le-mul_left (d / u) h in
      omega (arith, twice, div-mul-le_self d u, div-le_self (d % u + r) u)
