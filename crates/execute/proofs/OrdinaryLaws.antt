-- The rule of an operation by its range, and which operations have no path of their own. Assumes nothing.
use Prim.Native.Nat.{ℕ, suc, ◌≤◌, ◌<◌}
use mathlib.Core.Path.{◌≡◌, refl, sym, ap, ◌∙◌}
use mathlib.Core.Bool.{Bool, true, false, not, ◌&&◌, ◌||◌, false≢true}
use mathlib.Core.List.{List, [], ◌∷◌}
use native.Mathlib.Omega.{arith}
use lib.Dec.{eqb, leb, ltb}
use borrow.Author.Tests.{eqb-true, eq-eqb, le-leb, lt-ltb}
use Rattle.choice.specs.Table.{among}
use Rattle.choice.proofs.SelectLaws.{rule_at, spans, below, ranged, beyond}
use Rattle.choice.proofs.TestLaws.{either, passes}
use Rattle.machine.specs.declared.Instruction.{Instruction}
use Rattle.machine.specs.Machine.{Effect}
use Rattle.isa.specs.Effects.{Context, nothing}
use Rattle.isa.specs.Words.{bit_operation, shift_operation, jump_operation, load_operation, store_operation}
use Rattle.isa.specs.Integers.{integer_operation, logical_operation}
use Rattle.isa.specs.Floats.{float_operation}
use Rattle.isa.specs.Execute.{ordinary}
use Rattle.form_table.specs.FormNumbers.{path_of}

module _ (v : Context) (n : Instruction) (x y z operation : ℕ) where
  abbrev pub rules : List (ℕ × Effect)
  rules =
      let integer = integer_operation v n x y operation in
      let float = float_operation v n x y z operation in
      let logical = logical_operation v n x y operation in
      (9, bit_operation v n x operation) ∷
      (23, shift_operation v n operation) ∷
      (37, jump_operation v n x operation) ∷
      (44, load_operation v n x y z operation) ∷
      (54, store_operation v n x operation) ∷
      (59, integer) ∷
      (62, float) ∷
      (67, integer) ∷
      (70, float) ∷
      (73, integer) ∷
      (75, float) ∷
      (78, integer) ∷
      (80, float) ∷
      (84, logical) ∷
      (88, float) ∷
      (93, logical) ∷
      (95, float) ∷
      []

  pub in-range : (i lo hi : ℕ) → spans i lo hi rules ≡ true → lo ≤ operation → operation < hi → rule_at i rules (nothing v n) ≡ ordinary v n x y z operation
  unfolding ordinary
  in-range i lo hi t p q = sym (ranged i operation lo hi rules (nothing v n) t p q)

  pub past_all : (lo : ℕ) → below lo rules ≡ true → lo ≤ operation → nothing v n ≡ ordinary v n x y z operation
  unfolding ordinary
  past_all lo t p = sym (beyond operation lo rules (nothing v n) t p)

-- ---- an operation without a path of its own

-- of the jumps these have none: JS, SOJ, SJS and URS
abbrev jumping : ℕ → Bool
jumping k = leb 24 k && (ltb k 38 && eqb (path_of k) 0)

jumps-told : (k : ℕ) → k < 256 → not (jumping k) || among k (25 ∷ 26 ∷ 36 ∷ 37 ∷ []) ≡ true
unfolding path_of
jumps-told k h = passes (λ (j : ℕ). not (jumping j) || among j (25 ∷ 26 ∷ 36 ∷ 37 ∷ [])) 256 refl k h

module _ (operation : ℕ) (e : path_of operation ≡ 0) where
  -- it is none that has one
  apart : (k w : ℕ) → path_of k ≡ suc w → operation ≡ k → ⊥
  apart k w h i = let z = ap path_of i in omega (arith, e, z, h)

  pub jump-left : operation < 256 → 24 ≤ operation → operation < 38 → (operation ≡ 25 → ⊥) → (operation ≡ 26 → ⊥) → (operation ≡ 36 → ⊥) → operation ≡ 37
  jump-left h p q a b c =
      let j : jumping operation ≡ true = rw (le-leb 24 operation p, lt-ltb operation 38 q, eq-eqb (path_of operation) 0 e) refl in
      either (not (jumping operation)) _ (λ u. absurd (false≢true (sym (ap not j) ∙ u)))
      (either (eqb operation 25) _ (λ u. absurd (a (eqb-true _ _ u))) (either (eqb operation 26) _ (λ u. absurd (b (eqb-true _ _ u)))
      (either (eqb operation 36) _ (λ u. absurd (c (eqb-true _ _ u))) (either (eqb operation 37) false (λ u. eqb-true _ _ u) (λ u. absurd (false≢true u))))))
      (jumps-told operation h)

  pub loads-left : (operation ≡ 38 → ⊥) × (operation ≡ 39 → ⊥)
  unfolding path_of
  loads-left = (apart 38 0 refl, apart 39 1 refl)

  pub stores-left : (operation ≡ 45 → ⊥) × (operation ≡ 46 → ⊥) × (operation ≡ 48 → ⊥)
  unfolding path_of
  stores-left = (apart 45 2 refl, apart 46 2 refl, apart 48 4 refl)

  pub integers-left : (operation ≡ 55 → ⊥) × (operation ≡ 59 → ⊥) × (operation ≡ 63 → ⊥) × (operation ≡ 67 → ⊥)
  unfolding path_of
  integers-left = (apart 55 0 refl, apart 59 1 refl, apart 63 0 refl, apart 67 1 refl)

  pub logic-left : (operation ≡ 81 → ⊥) × (operation ≡ 82 → ⊥)
  unfolding path_of
  logic-left = (apart 81 0 refl, apart 82 0 refl)
