-- What the loop of `stream::for_each_byte` keeps. Assumes nothing.
use Rattle.std.proofs.Common.{List, ℕ, Ok}
use denote.Param.Always.{always_mut}
use Rattle.std.specs.Io.KnownBytes.{Consumes}
use Rattle.std.specs.List.{FoldsTo}
use Rattle.stream.proofs.for_each_byte.Given as goal

abbrev pub invariant-pieces : goal.invariant-pieces
invariant-pieces g l = record {
  callable : always_mut g.F.FnMut l.initial.hear → always_mut g.F.FnMut l.hear;
  in_order : (bytes : List ℕ) × Consumes (g.R.Read.remaining l.initial.from) (g.R.Read.remaining l.from) bytes
      × FoldsTo (λ p x q. goal.F-step g p x (Ok tt) q) l.initial.hear bytes l.hear;
}
