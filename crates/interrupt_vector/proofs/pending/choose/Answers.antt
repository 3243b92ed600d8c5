-- The answers to the goals of `interrupt_vector::pending::choose`. Assumes nothing.
use Rattle.machine.proofs.InterruptLaws.{chosen-leading, chosen-held}
use Rattle.std.proofs.Common.{◌≡◌, sym, ◌∙◌, arith}
use lib.Bits.{bit_and}
use lib.Count.{count_leading_zeros, leading_le}
use Rattle.machine.specs.Entries.{chosen}
use Rattle.interrupt_vector.proofs.pending.choose.Goals as goal

pub returns-then-hold : goal.returns-then-hold
returns-then-hold c = λ s h e m p. chosen-held s (h ∙ c.if-hold.true)

pub overflow_cast-n : goal.overflow_cast-n
overflow_cast-n c = omega (arith, leading_le 16 (bit_and c.args.pi c.take.result))

pub returns-then-n-lt16 : goal.returns-then-n-lt16
returns-then-n-lt16 c = λ s h e m p. (rw (← p, c.take.ensures s e m) (sym (chosen-leading s (rw p c.ranges.pi.fits) (h ∙ c.if-hold.false))), c.if-n-lt16.true)

pub returns-else-n-lt16 : goal.returns-else-n-lt16
returns-else-n-lt16 c = λ s h e m p.
    let q : count_leading_zeros 16 (bit_and c.args.pi c.take.result) ≡ chosen s = rw (← p, c.take.ensures s e m) (sym (chosen-leading s (rw p c.ranges.pi.fits) (h ∙ c.if-hold.false))) in
    omega (arith, q, leading_le 16 (bit_and c.args.pi c.take.result))
