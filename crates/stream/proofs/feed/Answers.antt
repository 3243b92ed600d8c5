-- The answers to the goals of `stream::feed`: the bytes so far, and the next. Assumes nothing.
use Rattle.std.proofs.Common.{◌<◌, length, refl, arith}
use denote.Param.Always.{mut_next}
use Rattle.std.proofs.lemmas.Fn.{FoldsTo-push}
use Rattle.std.proofs.lemmas.List.{take_more}
use Rattle.stream.proofs.feed.Goals as goal

pub loop-byte-preserved : goal.loop-byte-preserved
loop-byte-preserved g c =
    let h : c.loop-byte.byte-index < length c.args.bytes.now = omega arith in
    record {
      callable = λ a. mut_next g.F.FnMut _ _ _ _ _ c.hear.ensures refl (c.loop-byte.invariant.callable a);
      in_order = rw (take_more c.args.bytes.now c.loop-byte.byte-index 0 h) (FoldsTo-push _ _ _ _ _ _ c.loop-byte.invariant.in_order c.in_ok-hear.ensures);
    }
