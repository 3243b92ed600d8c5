-- What the loop keeps, of `reset::number_pages`. Assumes nothing.
use Prim.Native.Nat.{◌%◌}
use Rattle.reset.proofs.FillLaws.{Filled}
use Rattle.reset.proofs.number_pages.Given as goal

abbrev pub invariant-loop-k : goal.invariant-loop-k
invariant-loop-k l = Filled (λ k. k % 16) l.initial.pages l.k l.pages
