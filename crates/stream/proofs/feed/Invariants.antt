-- What the loop of `stream::feed` keeps. Assumes nothing.
use Rattle.std.proofs.Common.{take, Ok}
use denote.Param.Always.{always_mut}
use Rattle.std.specs.List.{FoldsTo}
use Rattle.stream.proofs.feed.Given as goal

abbrev pub invariant-loop-byte : goal.invariant-loop-byte
invariant-loop-byte g l = record {
  callable : always_mut g.F.FnMut l.initial.hear → always_mut g.F.FnMut l.hear;
  in_order : FoldsTo (λ p x q. goal.F-step g p x (Ok tt) q) l.initial.hear (take l.byte-index l.bytes) l.hear;
}
