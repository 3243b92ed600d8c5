-- The answers to the goals of `program::text_for`. Assumes nothing.
use Rattle.std.proofs.Common.{length, ◌<◌, ◌≤◌, ◌≡◌, refl, arith}
use Rattle.image.proofs.SoundLaws.{number-refused}
use Rattle.program.proofs.PrintedLaws.{holds-own, holds-lists, too_long, too-long-left, refused, refused-left, accepted, accepted-left, number_is, machine-is, kept}
use Rattle.program.proofs.text_for.Goals as goal

pub returns-then-input-gt32768 : goal.returns-then-input-gt32768
returns-then-input-gt32768 c =
    let h : 32768 < length c.args.input.now = omega arith in
    (rw (too_long _ h) c.refusal.ensures, λ s. holds-own _ _ (too-long-left _ _ h))

pub returns-in-Ok : goal.returns-in-Ok
returns-in-Ok c =
    let h : length c.args.input.now ≤ 32768 = omega arith in
    let e = c.in-Ok.ensures {u = tt} in
    let i = number_is _ _ (omega (arith, c.load-arg-1.given)) (omega (arith, c.load-arg-2-1.given)) (omega (arith, c.load-arg-3-1.given)) e in
    let k = machine-is _ _ (omega (arith, c.load-arg-1.given)) (omega (arith, c.load-arg-2-1.given)) (omega (arith, c.load-arg-3-1.given)) e in
    (rw (accepted _ _ h i refl, ← k) c.run_and_report.ensures.0, λ s. rw (accepted-left _ _ _ h i refl, ← k) c.run_and_report.ensures.1)

pub returns-in-Err : goal.returns-in-Err
returns-in-Err c =
    let h : length c.args.input.now ≤ 32768 = omega arith in
    let e = c.in-Err.ensures {u = tt} in
    let i = number_is _ _ (omega (arith, c.load-arg-1.given)) (omega (arith, c.load-arg-2-1.given)) (omega (arith, c.load-arg-3-1.given)) e in
    let k = kept _ _ (omega (arith, c.load-arg-1.given)) (omega (arith, c.load-arg-2-1.given)) (omega (arith, c.load-arg-3-1.given)) e in
    (rw (refused _ _ h i (number-refused _), ← c.number.ensures, ← c.from.ensures) c.refusal-in-Err.ensures, λ s. rw (refused-left _ _ _ h i (number-refused _)) (holds-lists k))
