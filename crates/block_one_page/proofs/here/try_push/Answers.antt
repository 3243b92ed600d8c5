-- The answers to the goals of `block_one_page::here::try_push`. Assumes nothing.
use Rattle.block_one_page.proofs.HereLaws.{pushed-here}
use Rattle.machine.specs.State.{joined}
use Rattle.page.proofs.NearLaws.{found-offset}
use Rattle.page.proofs.ReachLaws.{located-inside}
use mathlib.Core.Path.{sym, ◌∙◌}
use native.Mathlib.Omega.{arith}
use Rattle.block_one_page.proofs.here.try_push.Goals as goal

pub push_extent-requires : goal.push_extent-requires
push_extent-requires c = (c.field_b-b.ensures.1, c.registers_from-count.ensures.1, omega (arith, found-offset _ _ _ _ _ _ _ (sym c.look_up-place.ensures ∙ c.in-Ok.is)), located-inside _ _ _ _ _ _ _ _ c.look_up-place.ensures c.in-Ok.is)

pub returns : goal.returns
returns c = pushed-here (joined c.args.core c.args.regs.now) c.args.memory.now c.args.pages.now c.args.n c.requires.1 c.in-Ok.p (rw (← c.requires.0.key-is, ← c.requires.0.group-is, ← c.get.ensures, ← c.less-top.ensures) (sym c.look_up-place.ensures ∙ c.in-Ok.is)) (rw (← c.field_a.ensures.0, ← c.field_b-b.ensures.0, ← c.registers_from-count.ensures.0, ← c.get.ensures, ← c.less-top.ensures) (omega (arith, c.if-top-count.false))) _ _ c.push_multiple.ensures (rw (← c.field_a.ensures.0, ← c.field_b-b.ensures.0, ← c.registers_from-count.ensures.0) c.push_extent.ensures)
