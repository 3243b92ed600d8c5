-- The packed state: a state as 256 words w. Bit 0 of a word is the most significant. Assumes nothing.
use Rattle.std.specs.Prelude.{ℕ, suc, ◌+◌, ◌*◌, ◌/◌, ◌%◌, Bool, cond, List, [], ◌∷◌, eqb, take, drop, get_or, replicate}
use Rattle.std.proofs.Math.Seq.{paste}
use Rattle.machine.specs.declared.State.{State}
use Rattle.machine.specs.declared.Core.{Core}
use Rattle.machine.specs.declared.Clock.{Clock}
use Rattle.machine.specs.State.{with_regs, with_core, with_clock, with_ic, with_sw, with_mk, with_pi, with_ft, with_mfs, with_enabled, with_hold, with_ta, with_tb, with_rem_a, with_rem_b, with_ta_on, with_tb_on, with_count, reset_state}
use Rattle.bits.specs.Bits.{weight}

-- how many words there are
abbrev pub size : ℕ
size = 256

-- ---- the state with a part of its core, or of its clock, changed

abbrev pub in_core : {A : Type 0} → (Core → A → Core) → State → A → State
in_core put s v = with_core s (put s.core v)

abbrev pub in_clock : {A : Type 0} → (Clock → A → Clock) → State → A → State
in_clock put s v = with_clock s (put s.clock v)

-- ---- the marks: one word

-- a mark: its bit, whether it is on in a state, and the state with it on or off
pub record Mark : Type 0 where
  pub bit : ℕ
  pub of : State → Bool
  pub put : State → Bool → State

abbrev pub mark : ℕ → (State → Bool) → (State → Bool → State) → Mark
mark bit of put = record { bit = bit; of = of; put = put }

-- bits 0 to 11 are no marks
unfoldable pub marks : List Mark
marks =
    mark 15 (λ s. s.core.enabled) (in_core with_enabled)
    ∷ mark 14 (λ s. s.core.hold) (in_core with_hold)
    ∷ mark 13 (λ s. s.clock.taon) (in_clock with_ta_on)
    ∷ mark 12 (λ s. s.clock.tbon) (in_clock with_tb_on)
    ∷ []

-- whether bit n of a word is one
unfoldable pub marked : ℕ → ℕ → Bool
marked word n = eqb (word / weight n % 2) 1

-- what a mark adds to a word in which it is bit n
unfoldable pub mark_at : Bool → ℕ → ℕ
mark_at on n = cond on (weight n) 0

-- the word of some marks of a state, and the state with those of a word
abbrev pub summed : List Mark → State → ℕ
summed [] s = 0
summed (m ∷ ms) s = summed ms s + mark_at (m.of s) m.bit

abbrev pub remarked : List Mark → State → ℕ → State
remarked [] s word = s
remarked (m ∷ ms) s word = remarked ms (m.put s (marked word m.bit)) word

unfoldable pub marks_of : State → ℕ
marks_of s = summed marks s

unfoldable pub with_marks : State → ℕ → State
with_marks s word = remarked marks s word

-- ---- the layout

-- a part: its first word, how many it has, which they are of a state, and the state with it taken from w
pub record Part : Type 0 where
  pub first : ℕ
  pub count : ℕ
  pub of : State → List ℕ
  pub put : State → List ℕ → State

-- a part of several words, of one, and of two that are one number, its high word first
abbrev pub many_words : ℕ → ℕ → (State → List ℕ) → (State → List ℕ → State) → Part
many_words at n of put = record { first = at; count = n; of = of; put = λ s w. put s (take n (drop at w)) }

abbrev pub one_word : ℕ → (State → ℕ) → (State → ℕ → State) → Part
one_word at of put = record { first = at; count = 1; of = λ s. of s ∷ []; put = λ s w. put s (get_or w at 0) }

abbrev pub two_words : ℕ → (State → ℕ) → (State → ℕ → State) → Part
two_words at of put =
    record { first = at; count = 2; of = λ s. of s / 65536 ∷ of s % 65536 ∷ []; put = λ s w. put s (65536 * get_or w at 0 + get_or w (suc at) 0) }

-- every part, by its first word; 27 to 30 are kept for later ones. A word that no part has is not looked at, and 0 in a packed state
unfoldable pub layout : List Part
layout =
    many_words 0 16 (λ s. s.regs) with_regs
    ∷ one_word 16 (λ s. s.core.ic) (in_core with_ic)
    ∷ one_word 17 (λ s. s.core.sw) (in_core with_sw)
    ∷ one_word 18 (λ s. s.core.mk) (in_core with_mk)
    ∷ one_word 19 (λ s. s.core.pi) (in_core with_pi)
    ∷ one_word 20 (λ s. s.core.faults.ft) (in_core with_ft)
    ∷ one_word 21 marks_of with_marks
    ∷ one_word 22 (λ s. s.clock.ta) (in_clock with_ta)
    ∷ one_word 23 (λ s. s.clock.tb) (in_clock with_tb)
    ∷ one_word 24 (λ s. s.clock.rema) (in_clock with_rem_a)
    ∷ one_word 25 (λ s. s.clock.remb) (in_clock with_rem_b)
    ∷ one_word 26 (λ s. s.core.faults.mfs) (in_core with_mfs)
    ∷ two_words 32 (λ s. s.clock.count) (in_clock with_count)
    ∷ []

-- the words of a state that some parts make, the others 0; and the state with some parts taken from w
abbrev pub laid : List Part → State → List ℕ
laid [] s = replicate size 0
laid (p ∷ ps) s = paste (laid ps s) p.first (p.of s) p.count

abbrev pub taken : List Part → State → List ℕ → State
taken [] s w = s
taken (p ∷ ps) s w = taken ps (p.put s w) w

-- the 256 words of a state
unfoldable pub packed : State → List ℕ
packed s = laid layout s

-- the state that 256 words stand for: every part is taken from them
unfoldable pub unpacked : List ℕ → State
unpacked w = taken layout reset_state w
