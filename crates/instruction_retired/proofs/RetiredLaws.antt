-- What an instruction that is done, or not settled, says of itself. Assumes nothing.
use Prim.Native.Nat.{ℕ, ◌/◌}
use mathlib.Core.Path.{◌≡◌, refl}
use mathlib.Core.Bool.{Bool, true, false, false≢true}
use Rattle.machine.specs.declared.Core.{Core}
use Rattle.std.specs.Prelude.{Some}
use Rattle.instruction_retired.specs.Settled.{retired_with, Settled, Lasting}

pub retired-lasting : (c d : Core) (k : ℕ) (b : Bool) → (b ≡ true → Settled c d) → Lasting c k (retired_with b d)
retired-lasting c d k b h = record { choice-kept = h; all_done = λ e. refl; timed = λ t n. cc }

pub unsettled-lasting : (c d : Core) (k : ℕ) → Lasting c k (retired_with false d)
unsettled-lasting c d k = retired-lasting c d k false (λ e. absurd (false≢true e))

-- with a timer command left to do, which the first word w gave
pub commanded-lasting : (c d : Core) (a w : ℕ) → Lasting c (w / 256) (record { settled = false; timer = Some (record { command = a; first = w }); core = d })
commanded-lasting c d a w = record { choice-kept = λ e. absurd (false≢true e); all_done = λ e. absurd (false≢true e); timed = λ t n. cc }
