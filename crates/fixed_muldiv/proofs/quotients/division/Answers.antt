-- The answers to the goals of `fixed_muldiv::quotients::division`. Assumes nothing.
use Rattle.std.proofs.Common.{arith}
use Rattle.std.proofs.Math.Nat.{zero-mod}
use Rattle.std.proofs.lemmas.Grind.{common_steps}
use Rattle.fixed_muldiv.proofs.QuotientLaws.{division-zero, division-by}
use Rattle.fixed_muldiv.proofs.quotients.division.Goals as goal

pub returns-then-y-eq0 : goal.returns-then-y-eq0
returns-then-y-eq0 g c =
    rw (c.kept.ensures, c.kept-then-y-eq0.ensures, zero-mod) (division-zero g.W.Word.WIDTH _ _ _ c.if-y-eq0.true)

pub join-q-requires : goal.join-q-requires
join-q-requires g c = let l = g.met.W.Word.offset_large in rw c.from.ensures (omega arith)

pub join-r-requires : goal.join-r-requires
join-r-requires g c = let l = g.met.W.Word.offset_large in rw c.from-2.ensures (omega arith)

pub returns : goal.returns
returns g c =
    division-by g.W.Word.WIDTH c.args.x.neg _ _ _ c.if-y-eq0.false (rw c.from.ensures at c.join-q.ensures) (rw c.from-2.ensures at c.join-r.ensures) (grind (arith, common_steps))
