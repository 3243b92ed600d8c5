-- The answers to the goals of `fixed_add::narrow::narrow`. Assumes nothing.
use Rattle.std.proofs.Common.{ℕ, ◌<◌, arith, sym, subst}
use Rattle.fixed_add.proofs.NarrowLaws.{status-lt, narrowed-by}
use Rattle.fixed_add.proofs.narrow.narrow.Goals as goal

pub with_carry-requires : goal.with_carry-requires
with_carry-requires g c = subst (λ (n : ℕ). n < 8) (sym c.status.ensures) (status-lt g.W.Word.WIDTH _)

pub returns : goal.returns
returns g c =
    let s = g.met.W.Word.sign_is in
    let o = g.met.W.Word.offset_is in
    rw (c.with_carry.ensures, c.status.ensures, c.kept-value.ensures, o)
    (narrowed-by g.W.Word.spare g.W.Word.WIDTH c.args.x c.args.carry c.outside.ensures (omega arith) (omega arith))
