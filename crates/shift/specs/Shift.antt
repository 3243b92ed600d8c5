-- Shifts of w-bit words by a count N in a register: 5.18 to 5.20 at 16 bits, 5.21 to 5.23 at 32.
-- The shifts by a number of places, 5.10 to 5.17, are `shift_left`, `shift_right`, `shift_arith` and `rotate` of `twos_complement`.
-- Assumes nothing.
use Rattle.std.specs.Prelude.{Bool, true, false, cond, ℕ, suc, ◌-◌, ℤ, pos, negsuc, leb}
use Rattle.twos_complement.specs.Whole.{signed, shift_left, shift_right, shift_arith, rotate, sign_changes}
use Rattle.shift.specs.declared.Count.{Count}
use Rattle.shift.specs.declared.Count.TheVariants.{Left, Right, Beyond}
use Rattle.shift.specs.declared.Shifted.{Shifted}

-- N places to the left, -N places to the right, or no shift at all where |N| > w
unfoldable pub count_of : ℕ → ℤ → Count
count_of w (pos n) = cond (leb n w) (Left n) Beyond
count_of w (negsuc n) = cond (leb (suc n) w) (Right (suc n)) Beyond

-- a w-bit word after a shift, and whether fixed point overflow occurs
abbrev pub outcome : ℕ → Bool → Shifted ℕ
outcome value overflow = record { value = value; overflow = overflow }

abbrev pub plain : ℕ → Shifted ℕ
plain value = outcome value false

-- by `left` or by `right`; with |N| > w the word stays as it is, and overflow occurs
unfoldable pub moved : (ℕ → Shifted ℕ) → (ℕ → Shifted ℕ) → ℕ → Count → Shifted ℕ
moved left right a (Left n) = left n
moved left right a (Right n) = right n
moved left right a Beyond = outcome a true

-- N is the count word as a signed 16-bit number
unfoldable pub shifted_by : ℕ → (ℕ → Shifted ℕ) → (ℕ → Shifted ℕ) → ℕ → ℕ → Shifted ℕ
shifted_by w left right a count = moved left right a (count_of w (signed 16 count))

-- logical (5.18, 5.21)
abbrev pub logical_by : ℕ → ℕ → ℕ → Shifted ℕ
logical_by w a count = shifted_by w (λ n. plain (shift_left w n a)) (λ n. plain (shift_right w n a)) a count

-- arithmetic: to the left, overflow occurs if the sign changes at any position (5.19, 5.22)
abbrev pub arithmetic_by : ℕ → ℕ → ℕ → Shifted ℕ
arithmetic_by w a count = shifted_by w (λ n. outcome (shift_left w n a) (sign_changes w n a)) (λ n. plain (shift_arith w n a)) a count

-- cyclic: to the right by n places is to the left by the rest of the turn (5.20, 5.23)
abbrev pub circular_by : ℕ → ℕ → ℕ → Shifted ℕ
circular_by w a count = shifted_by w (λ n. plain (rotate w n a)) (λ n. plain (rotate w (w - n) a)) a count

-- a shifted word, with the number that its bits make
abbrev pub numbered : {A : Type 0} → (A → ℕ) → Shifted A → Shifted ℕ
numbered number s = record { value = number s.value; overflow = s.overflow }
