-- A number in decimal is what std writes of it. Assumes nothing.
use Rattle.std.proofs.Common.{◌≡◌, ℕ, ◌+◌, ◌*◌, ◌/◌, ◌%◌, ◌<◌, ◌≤◌, ◌^◌, [], ◌∷◌, ◌++◌, arith, append_assoc, refl, sym, inl, inr}
use borrow.Author.Tests.{lt-ltb, le-ltb}
use native.Mathlib.Nat.{div-div-eq-div-mul}
use Rattle.std.specs.Fmt.{decimal as written}
use Rattle.std.proofs.lemmas.Fmt.{decimal_by_steps}
use Rattle.std.proofs.lemmas.Bool.{cases_lt}
use Rattle.text.specs.Texts.{leading, decimal}

tenth_below : (n u : ℕ) → n < 10 * u → n / 10 < u
tenth_below n u h = omega arith

tenth_from : (n u : ℕ) → 10 * u ≤ n → u ≤ n / 10
tenth_from n u h = omega arith

-- the digit of a unit in a number, and that of a tenth of the unit in a tenth of the number
leading_tenth : (n u : ℕ) → leading n (10 * u) ≡ leading (n / 10) u
unfolding leading
leading_tenth n u = elim (cases_lt n (10 * u)) [
  | inl l ↦ rw (lt-ltb _ _ l, lt-ltb _ _ (tenth_below n u l)) refl
  | inr l ↦ rw (le-ltb _ _ l, le-ltb _ _ (tenth_from n u l), div-div-eq-div-mul n 10 u) refl
]

-- no digit of a larger unit, and a digit of a smaller one
leading_none : (n u : ℕ) → n < u → leading n u ≡ []
unfolding leading
leading_none n u h = rw (lt-ltb _ _ h) refl

leading_one : (n u : ℕ) → u ≤ n → leading n u ≡ (48 + n / u % 10) ∷ []
unfolding leading
leading_one n u h = rw (le-ltb _ _ h) refl

decimal_below_ten : (n : ℕ) → n < 10 → decimal n ≡ (48 + n) ∷ []
unfolding decimal
decimal_below_ten n h =
    let d : n % 10 ≡ n = omega arith in
    rw (leading_none n 1000000000 (omega arith), leading_none n 100000000 (omega arith), leading_none n 10000000 (omega arith), leading_none n 1000000 (omega arith), leading_none n 100000 (omega arith), leading_none n 10000 (omega arith), leading_none n 1000 (omega arith), leading_none n 100 (omega arith), leading_none n 10 (omega arith), d) refl

decimal_more : (n : ℕ) → 10 ≤ n → n < 10000000000 → decimal n ≡ decimal (n / 10) ++ ((48 + n % 10) ∷ [])
unfolding decimal
decimal_more n low high =
    rw (leading_tenth n 100000000, leading_tenth n 10000000, leading_tenth n 1000000, leading_tenth n 100000, leading_tenth n 10000, leading_tenth n 1000, leading_tenth n 100, leading_tenth n 10, leading_one n 10 low, leading_none (n / 10) 1000000000 (omega arith))
    (simp append_assoc)

pub decimal-written : (n : ℕ) → n < 2 ^ 32 → written n ≡ decimal n
decimal-written n h =
    decimal_by_steps (λ m ds. m < 10000000000 → ds ≡ decimal m)
    (λ m low _. sym (decimal_below_ten m low))
    (λ m ds low before high. rw (before (omega arith)) (sym (decimal_more m low high)))
    n (omega arith) (omega arith)
