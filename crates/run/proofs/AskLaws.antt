-- What the questions before a run let through. Assumes nothing.
use Prim.Native.Nat.{ℕ}
use mathlib.Core.Path.{◌≡◌}
use borrow.Author.Tests.{eqb-true}
use Rattle.std.specs.Prelude.{Ok}
use Rattle.machine.specs.Runs.{admission}
use Rattle.machine.proofs.RunLaws.{asked-yes, asked_all-yes, sizes-fit}

-- a run that is admitted has its page registers, ports and durations
pub admitted : (a b c d e f : ℕ) → admission a b c d e f ≡ Ok tt → (b ≡ 512) × (c ≡ 1024) × (d ≡ 257)
unfolding admission
admitted a b c d e f h =
    let p = asked_all-yes _ _ _ h in
    let s = sizes-fit a b c p.0 in
    (s.0, s.1, eqb-true _ _ (asked-yes _ _ _ p.1).0)
