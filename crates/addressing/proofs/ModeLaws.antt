-- The addressing mode of a form in a range of form numbers, and what it derives. Assumes nothing.
use Rattle.std.proofs.Common.{◌≡◌, ℕ, ◌+◌, ◌*◌, ◌%◌, ◌<◌, ◌≤◌, ◌⊎◌, List, [], ◌∷◌, sym, refl, ⊎_elim, eq-or-lt_of_le, arith, rules}
use Rattle.choice.proofs.SelectLaws.{otherwise}
use Rattle.decode.specs.Forms.{mode_of}
use Rattle.isa.specs.Fields.{field_b, indexed}
use Rattle.isa.specs.Addressing.{derived_from}

-- the forms of a mode are 256 numbers, its length in words aside
pub mode-is : (form m : ℕ) → 256 * m ≤ form % 4096 → form % 4096 < 256 * m + 256 → mode_of form ≡ m
mode-is form m p q = omega arith

module _ (form : ℕ) (regs : List ℕ) (ic first second : ℕ) where
  -- memory direct, memory indirect, immediate long: the second word, indexed
  pub indexed-modes : 0x0600 ≤ form % 4096 → form % 4096 < 0x0900 → indexed regs (field_b first) second ≡ derived_from (mode_of form) regs ic first second
  unfolding derived_from
  indexed-modes p q =
      let least : 6 ≤ mode_of form = omega (arith, p) in
      ⊎_elim (λ e. rw (← e) refl)
      (λ l. ⊎_elim (λ e. rw (← e) refl) (λ k. rw (mode-is form 8 (omega (arith, k)) q) refl) (eq-or-lt_of_le l))
      (eq-or-lt_of_le least)

  -- special and register direct, and numbers that are no mode's: nothing
  pub no-modes : (mode_of form < 2) ⊎ (10 < mode_of form) → 0 ≡ derived_from (mode_of form) regs ic first second
  unfolding derived_from
  no-modes h =
      let other : (k : ℕ) → 2 ≤ k → k ≤ 10 → mode_of form ≡ k → ⊥ = λ k p q e. ⊎_elim (λ l. absurd (omega (arith, e, l))) (λ l. absurd (omega (arith, e, l))) h in
      sym
      (otherwise (mode_of form) ((2, _) ∷ (3, _) ∷ (4, _) ∷ (5, _) ∷ (6, _) ∷ (7, _) ∷ (8, _) ∷ (9, _) ∷ (10, _) ∷ []) 0
      (((((((((tt, other 2 (search rules) (search rules)), other 3 (search rules) (search rules)), other 4 (search rules) (search rules)), other 5 (search rules) (search rules)), other 6 (search rules) (search rules)), other 7 (search rules) (search rules)), other 8 (search rules) (search rules)), other 9 (search rules) (search rules)), other 10 (search rules) (search rules)))
