-- What the loop keeps, of `image_load::write_bodies`. Assumes nothing.
use Rattle.std.proofs.Common.{◌≡◌, ℕ, List, ◌-◌, length, Ok}
use Rattle.image.specs.Image.{count_of, body_at, entries_answer, with_bodies}
use Rattle.machine.specs.Machine.{machine}
use Rattle.image_load.proofs.write_bodies.Given as goal

abbrev pub invariant-loop-k : goal.invariant-loop-k
invariant-loop-k l = (l.at ≡ body_at l.image l.k) × (entries_answer (length l.initial.memory) l.image (l.n - l.k) l.k ≡ Ok tt) × ((ports : List ℕ) → with_bodies l.image (count_of l.image) 0 (machine l.initial.t l.initial.memory l.initial.pages ports) ≡ with_bodies l.image (l.n - l.k) l.k (machine l.t l.memory l.pages ports))
