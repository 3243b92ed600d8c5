-- The answers to the goals of `line_request::answer::put_answer`. Assumes nothing.
use Rattle.std.proofs.Common.{arith, sym, rules}
use Rattle.line_request.proofs.RequestLaws.{asked-long}
use Rattle.line_request.proofs.answer.put_answer.Goals as goal

pub slice_bounds-asked-count : goal.slice_bounds-asked-count
slice_bounds-asked-count g c = omega (arith, asked-long c.args.line.now _ (sym c.in-Some-Read.ensures))

pub slice_bounds-asked-start : goal.slice_bounds-asked-start
slice_bounds-asked-start g c = let h = asked-long c.args.line.now _ (sym c.in-Some-Read.ensures) in search rules
