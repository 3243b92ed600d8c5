-- The answers to the goals of `execute_words::jumps::unless_zero`. Assumes nothing.
use Rattle.std.proofs.Common.{eq-eqb, ne_eqb}
use Rattle.execute_words.proofs.jumps.unless_zero.Goals as goal

pub returns-then-ra-eq0 : goal.returns-then-ra-eq0
returns-then-ra-eq0 c = rw (eq-eqb _ _ c.if-ra-eq0.true) c.following.ensures

pub returns : goal.returns
returns c = rw (ne_eqb _ _ c.if-ra-eq0.false)
