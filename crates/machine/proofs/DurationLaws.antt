-- The number of a duration is that of one of 257. Assumes nothing.
use Rattle.std.proofs.Common.{Result, Ok, Err}
use Prim.Native.Nat.{ℕ, ◌<◌}
use Rattle.page.specs.declared.Refusal.{Refusal}
use mathlib.Core.Path.{◌≡◌}
use mathlib.Core.Bool.{Bool, true, false}
use native.Mathlib.Omega.{arith}
use lib.Dec.{ltb}
use lib.ListN.{replicate, get_or-replicate}
use Rattle.machine.specs.declared.Core.{Core}
use Rattle.machine.specs.Machine.{Machine}
use Rattle.machine.specs.Instructions.{View, view}
use Rattle.machine.specs.Entries.{chosen}
use Rattle.machine.specs.Step.{timed_by, timing, duration}

timed-below : (v : Result ℕ Refusal) → timed_by v < 257
unfolding timed_by
timed-below (Ok w) = omega arith
timed-below (Err b) = omega arith

pub timing-below : (c : Core) (v : View) (b : Bool) → timing c v b < 257
unfolding timing
timing-below c v true = omega arith
timing-below c v false = timed-below (v.fetch c.ic)

-- where all are alike, every step takes as long
pub duration-alike : (n : ℕ) (x : Machine) → duration (replicate 257 n) x ≡ n
unfolding duration
duration-alike n x =
    get_or-replicate 257 (timing x.state.core (view x.state.core x.memory x.pages) (ltb (chosen x.state.core) 16)) n 0
    (timing-below x.state.core (view x.state.core x.memory x.pages) (ltb (chosen x.state.core) 16))
