-- A text cut at the place of a byte, and digit after digit. Assumes nothing.
use Prim.Native.Nat.{ℕ, suc, ◌+◌, ◌*◌, ◌-◌, ◌≤◌, ◌<◌}
use mathlib.Core.Path.{◌≡◌, refl, sym, ap, ◌∙◌}
use mathlib.Core.Bool.{Bool, true, false, cond, ◌&&◌}
use mathlib.Core.List.{List, [], ◌∷◌}
use native.Mathlib.Omega.{arith}
use lib.Dec.{eqb, leb, ltb}
use lib.ListN.{length, get_or, take, drop, drop_of_length-le}
use lib.Seq.{drop-cons}
use native.Mathlib.Numerals.{add-one}
use Rattle.std.specs.Char.{is_ascii_digit}
use borrow.Author.Tests.{le-ltb, ltb-false}
use Rattle.std.proofs.Common.{Option, None, Some, Err, ◌==◌}
use Rattle.std.specs.List.{position, position_or_len}
use Rattle.std.specs.Option.{unwrap_or}
use Rattle.line_operand.specs.declared.OperandError.TheVariants.{Malformed}
use Rattle.line_operand.specs.Numerals.{digits, value, plain, numeral, before, onward}
use Rattle.line_operand.specs.Operands.{Parsed, inside, ranged}
use Rattle.choice.proofs.TestLaws.{split}
use Rattle.line_parse.specs.Scans.{capped, scanned}

-- ---- a text cut at the place of a byte

module _ (b : ℕ) where
  place : List ℕ → ℕ
  place t = position_or_len (λ x. x == b) t

  place_within : (t : List ℕ) → place t ≤ length t
  unfolding place
  place_within [] = omega arith
  place_within (x ∷ t) = split (eqb x b) (λ e. rw e (omega arith)) (λ e. rw e (omega (arith, place_within t)))

  head : (t : List ℕ) → take (place t) t ≡ before b t
  unfolding place before
  head [] = refl
  head (x ∷ t) = split (eqb x b) (λ e. rw e refl) (λ e. let z : 1 + place t ≡ suc (place t) = omega arith in rw (e, z) (ap (λ u. x ∷ u) (head t)))

  rest : (t : List ℕ) → drop (place t) t ≡ onward b t
  unfolding place onward
  rest [] = refl
  rest (x ∷ t) = split (eqb x b) (λ e. rw e refl) (λ e. let z : 1 + place t ≡ suc (place t) = omega arith in rw (e, z) (rest t))

  pub found-place : (t : List ℕ) → (unwrap_or (position (λ x. x == b) t) (length t) ≤ length t) × (take (unwrap_or (position (λ x. x == b) t) (length t)) t ≡ before b t)
      × (drop (unwrap_or (position (λ x. x == b) t) (length t)) t ≡ onward b t)
  unfolding place
  found-place t =
      let w = place_within t in
      split (ltb (place t) (length t))
      (λ e. rw e (w, head t, rest t))
      (λ e. let z : length t ≡ place t = omega (arith, ltb-false _ _ e) in rw (e, z) (omega arith, head t, rest t))

-- ---- digits

-- the number of a text of digits behind the number v
unfoldable pub scanned-on : ℕ → List ℕ → Option ℕ
scanned-on v t = cond (digits t) (Some (capped (value v t))) None

capped-step : (v d : ℕ) → capped (10 * capped v + d) ≡ capped (10 * v + d)
unfolding capped
capped-step v d =
    split (ltb v 100000)
    (λ e. rw e refl)
    (λ e.
    let k = ltb-false v 100000 e in
    rw (e, le-ltb (10 * 100000 + d) 100000 (omega arith), le-ltb (10 * v + d) 100000 (omega arith)) refl)

-- a number that is capped between two digits
capped-value : (v w : ℕ) (t : List ℕ) → capped v ≡ capped w → capped (value v t) ≡ capped (value w t)
unfolding value
capped-value v w [] e = e
capped-value v w (b ∷ t) e =
    capped-value (10 * v + (b - 48)) (10 * w + (b - 48)) t (sym (capped-step v (b - 48)) ∙ ap (λ (n : ℕ). capped (10 * n + (b - 48))) e ∙ capped-step w (b - 48))

capped-twice : (v : ℕ) → capped (capped v) ≡ capped v
unfolding capped
capped-twice v = split (ltb v 100000) (λ e. rw (e, e) refl) (λ e. rw e refl)

pub scanned-start : (t : List ℕ) → scanned-on 0 t ≡ scanned t
unfolding scanned scanned-on
scanned-start t = refl

-- the bytes from the i-th on
module _ (v i : ℕ) (t : List ℕ) (h : i < length t) where
  pub scanned-digit : is_ascii_digit (get_or t i 0) ≡ true → scanned-on (capped (10 * v + (get_or t i 0 - 48))) (drop (i + 1) t) ≡ scanned-on v (drop i t)
  unfolding scanned-on digits value
  scanned-digit e =
      rw (drop-cons t i 0 h, add-one, e, capped-value (capped (10 * v + (get_or t i 0 - 48))) (10 * v + (get_or t i 0 - 48)) (drop (suc i) t) (capped-twice _)) refl

  pub scanned-other : is_ascii_digit (get_or t i 0) ≡ false → scanned-on v (drop i t) ≡ None
  unfolding scanned-on digits
  scanned-other e = rw (drop-cons t i 0 h, e) refl

pub scanned-end : (v i : ℕ) (t : List ℕ) → v ≤ 100000 → length t ≤ i → scanned-on v (drop i t) ≡ Some v
unfolding scanned-on digits value capped
scanned-end v i t h l = rw (drop_of_length-le t {i = i} l) (split (ltb v 100000) (λ e. rw e refl) (λ e. let z : 100000 ≡ v = omega (arith, ltb-false v 100000 e) in rw (e, z) refl))

-- ---- a number in its range

inside-capped : (low count v : ℕ) → low + count ≤ 100000 → inside low count (capped v) ≡ inside low count v
unfolding inside capped
inside-capped low count v h =
    split (ltb v 100000)
    (λ e. rw e refl)
    (λ e.
    let k = ltb-false v 100000 e in
    rw (e, le-ltb 100000 (low + count) (omega arith), le-ltb v (low + count) (omega arith)) (rw (and-false (leb low 100000), and-false (leb low v)) refl))
  where
    and-false : (b : Bool) → b && false ≡ false
    and-false true = refl
    and-false false = refl

-- what the number of a plain text is read as
unfoldable pub ranged-by : ℕ → ℕ → Option ℕ → Parsed
ranged-by low count None = Err Malformed
ranged-by low count (Some v) = inside low count v

pub number-read : (low count : ℕ) (t : List ℕ) → low + count ≤ 100000 → plain t ≡ true → ranged low count t ≡ ranged-by low count (scanned t)
unfolding ranged numeral scanned ranged-by
number-read low count t h p = split (digits t) (λ d. rw (p, d) (sym (inside-capped low count (value 0 t) h))) (λ d. rw (p, d) refl)

pub number-unplain : (low count : ℕ) (t : List ℕ) → plain t ≡ false → ranged low count t ≡ Err Malformed
unfolding ranged numeral
number-unplain low count t p = rw p refl
