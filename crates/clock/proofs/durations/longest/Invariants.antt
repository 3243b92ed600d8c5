-- What the loop keeps, of `clock::durations::longest`. Assumes nothing.
use Rattle.std.proofs.Common.{◌≡◌, ◌<◌}
use Rattle.clock.specs.Deferred.{longest_to}
use Rattle.clock.proofs.durations.longest.Given as goal

abbrev pub invariant-loop-d : goal.invariant-loop-d
invariant-loop-d l = (l.most ≡ longest_to l.durations l.d-index) × (0 < l.most) × (l.most < 65536)
