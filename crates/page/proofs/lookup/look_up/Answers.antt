-- The answers to the goals of `page::lookup::look_up`. Assumes nothing.
use Rattle.page.proofs.LookupLaws.{register-below, listed}
use Rattle.std.proofs.Common.{arith}
use Rattle.page.proofs.lookup.look_up.Goals as goal

pub offset_bounds-pages-i : goal.offset_bounds-pages-i
offset_bounds-pages-i c = omega (arith, register-below _ _ _ _ c.register-i.ensures c.requires)

pub bounds-pages-i : goal.bounds-pages-i
bounds-pages-i c = omega (arith, register-below _ _ _ _ c.register-i.ensures c.requires)

pub returns : goal.returns
returns c = listed _ _ _ _ _ _ _ _ c.register-i.ensures (omega (arith, register-below _ _ _ _ c.register-i.ensures c.requires)) c.locate.ensures
