-- The answers to the goals of `shift::counted::count_of`. Assumes nothing.
use Rattle.shift.proofs.CountLaws.{left-count, left-beyond, right-count, right-beyond}
use Rattle.shift.proofs.counted.count_of.Goals as goal

pub returns-then-count-width : goal.returns-then-count-width
returns-then-count-width c = left-count _ _ c.if-count-lt32768.true c.if-count-width.true

pub returns-else-count-width : goal.returns-else-count-width
returns-else-count-width c = left-beyond _ _ c.if-count-lt32768.true c.if-count-width.false

pub returns-then-back-width : goal.returns-then-back-width
returns-then-back-width c = right-count _ _ c.if-count-lt32768.false c.ranges.count.fits c.if-back-width.true

pub returns-else-back-width : goal.returns-else-back-width
returns-else-back-width c = right-beyond _ _ c.if-count-lt32768.false c.ranges.count.fits c.if-back-width.false
