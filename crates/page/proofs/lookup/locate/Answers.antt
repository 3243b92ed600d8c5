-- The answers to the goals of `page::lookup::locate`. Assumes nothing.
use Rattle.page.proofs.LookupLaws.{locked, shut, inside, outside}
use Rattle.page.proofs.lookup.locate.Goals as goal

pub returns-then-forbidden : goal.returns-then-forbidden
returns-then-forbidden c = shut _ _ _ _ _ _ _ _ c.refuse.ensures c.forbidden.ensures c.if-forbidden.true

pub returns-then-not-admitted : goal.returns-then-not-admitted
returns-then-not-admitted c = locked _ _ _ _ _ _ _ _ c.lock.ensures c.admitted.ensures _ c.refuse-then-not-admitted.ensures (c.if-not-admitted.true)

pub returns-then-p-size : goal.returns-then-p-size
returns-then-p-size c = inside _ _ _ _ _ _ _ _ c.lock.ensures c.admitted.ensures _ c.forbidden.ensures (c.if-not-admitted.false) _ c.frame.ensures c.if-forbidden.false c.if-p-size.true

pub returns : goal.returns
returns c = outside _ _ _ _ _ _ _ _ c.lock.ensures c.admitted.ensures _ c.forbidden.ensures (c.if-not-admitted.false) _ c.frame.ensures c.if-forbidden.false _ c.refuse-2.ensures c.if-p-size.false
