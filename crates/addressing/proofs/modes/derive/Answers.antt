-- The answers to the goals of `addressing::modes::derive`. Assumes nothing.
use Rattle.addressing.proofs.ModeLaws.{mode-is, indexed-modes, no-modes}
use Rattle.isa.specs.Addressing.{derived_from}
use Rattle.page.specs.Spans.{wrapped}
use Rattle.std.proofs.Common.{refl, ◌∙◌, inl, inr, arith}
use Rattle.addressing.proofs.modes.derive.Goals as goal

pub returns-in-0-to-511 : goal.returns-in-0-to-511
unfolding derived_from wrapped
returns-in-0-to-511 c = no-modes c.args.form _ c.args.ic _ _ (inl (omega (arith, c.in-0-to-511.if-form-lt512-own.true)))

pub returns-in-512-to-1535 : goal.returns-in-512-to-1535
unfolding derived_from wrapped
returns-in-512-to-1535 c = c.derive_short.ensures c.args.ic c.args.second

pub returns-in-1536-to-2303 : goal.returns-in-1536-to-2303
unfolding derived_from wrapped
returns-in-1536-to-2303 c = (rw (← c.field_b.ensures.0) c.index_by.ensures) ∙ indexed-modes c.args.form _ c.args.ic _ _ c.in-1536-to-2303.if-this-lt1536-own.false c.in-1536-to-2303.if-this-lt2304-own.true

pub returns-in-2304-to-2559 : goal.returns-in-2304-to-2559
unfolding derived_from wrapped
returns-in-2304-to-2559 c = rw (mode-is c.args.form 9 (omega (arith)) (omega (arith))) refl

pub returns-in-2560-to-2815 : goal.returns-in-2560-to-2815
unfolding derived_from wrapped
returns-in-2560-to-2815 c = rw (mode-is c.args.form 10 (omega (arith)) (omega (arith)), ← c.signed_displacement.ensures) c.wrapping_add_u16.ensures.value

pub returns-in_default : goal.returns-in_default
unfolding derived_from wrapped
returns-in_default c = no-modes c.args.form _ c.args.ic _ _ (inr (omega (arith, c.in_default.if-this-lt2816-own.false)))
