-- The answers to the goals of `test_case::case::run_part`. Assumes nothing.
use Rattle.std.proofs.Common.{◌≡◌, min, length, arith}
use Rattle.test_case.proofs.CaseLaws.{answer-is, ran-is}
use Rattle.test_case.proofs.case.run_part.Goals as goal

pub returns : goal.returns
returns c = λ timed.
    let m : c.min-m.result ≡ min c.args.lengths.memory (length c.args.memory.now) = omega (arith, c.from.ensures, c.min-m.ensures) in
    let g : c.min-g.result ≡ min c.args.lengths.pages (length c.args.pages.now) = omega (arith, c.from-2.ensures, c.min-g.ensures) in
    let o : c.min-o.result ≡ min c.args.lengths.ports (length c.args.ports.now) = omega (arith, c.from-3.ensures, c.min-o.ensures) in
    let d : c.min-d.result ≡ min c.args.lengths.durations (length c.args.durations.now) = omega (arith, c.from-4.ensures, c.min-d.ensures) in
    (answer-is _ _ _ _ _ _ timed _ _ _ _ _ m g o d c.run.ensures.0, ran-is _ _ _ _ _ _ timed _ _ _ _ _ m g o d c.run.ensures.1)
