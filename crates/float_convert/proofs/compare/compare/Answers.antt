-- The answers to the goals of `float_convert::compare::compare`. Assumes nothing.
use Rattle.float.proofs.MantissaLaws.{lost-yes, lost-no}
use Rattle.float_convert.proofs.CompareLaws.{is_below, is-above, lost-a, lost-b, is-equal}
use borrow.Author.Rules.{rules}
use Rattle.float_convert.proofs.compare.compare.Goals as goal

pub returns-then-x-y : goal.returns-then-x-y
returns-then-x-y g c = is_below _ _ _ _ _ _ _ _ _ c.gap-n.ensures c.gap-k.ensures c.shift-x.ensures c.shift-y.ensures c.if-x-y.true

pub returns-then-y-x : goal.returns-then-y-x
returns-then-y-x g c = is-above _ _ _ _ _ _ _ _ _ c.gap-n.ensures c.gap-k.ensures c.shift-x.ensures c.shift-y.ensures c.if-y-x.true

pub returns-then-loses : goal.returns-then-loses
returns-then-loses g c =
    lost-a _ _ _ _ _ _ _ _ _ c.gap-n.ensures c.gap-k.ensures c.shift-x.ensures c.shift-y.ensures
    (search rules) (lost-yes _ c.loses.ensures c.if-loses.true)

pub returns-then-loses-2 : goal.returns-then-loses-2
returns-then-loses-2 g c =
    lost-b _ _ _ _ _ _ _ _ _ c.gap-n.ensures c.gap-k.ensures c.shift-x.ensures c.shift-y.ensures
    (search rules) (lost-no _ c.loses.ensures c.if-loses.false) (lost-yes _ c.loses-2.ensures c.if-loses-2.true)

pub returns-else-loses-2 : goal.returns-else-loses-2
returns-else-loses-2 g c =
    is-equal _ _ _ _ _ _ _ _ _ c.gap-n.ensures c.gap-k.ensures c.shift-x.ensures c.shift-y.ensures
    (search rules) (lost-no _ c.loses.ensures c.if-loses.false) (lost-no _ c.loses-2.ensures c.if-loses-2.false)
