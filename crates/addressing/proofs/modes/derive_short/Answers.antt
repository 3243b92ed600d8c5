-- The answers to the goals of `addressing::modes::derive_short`. Assumes nothing.
use Rattle.addressing.proofs.ModeLaws.{mode-is}
use Rattle.isa.specs.Addressing.{derived_from}
use Rattle.page.specs.Spans.{wrapped}
use Rattle.std.proofs.Common.{refl, arith}
use Rattle.addressing.proofs.modes.derive_short.Goals as goal

pub returns-in-0-to-767 : goal.returns-in-0-to-767
unfolding derived_from wrapped
returns-in-0-to-767 c = λ ic second. rw (mode-is c.args.form 2 (omega (arith, c.requires.0)) (omega (arith, c.requires.0)), ← c.base_of.ensures, ← c.get.ensures, ← c.displacement_of.ensures) c.wrapping_add_u16.ensures.value

pub returns-in-768-to-1023 : goal.returns-in-768-to-1023
unfolding derived_from wrapped
returns-in-768-to-1023 c = λ ic second. rw (mode-is c.args.form 3 (omega (arith)) (omega (arith)), ← c.field_b.ensures.0, ← c.base_of-in-768-to-1023.ensures, ← c.get-in-768-to-1023.ensures) c.index_by.ensures

pub returns-in-1024-to-1279 : goal.returns-in-1024-to-1279
unfolding derived_from wrapped
returns-in-1024-to-1279 c = λ ic second. rw (mode-is c.args.form 4 (omega (arith)) (omega (arith)), ← c.field_b-in-1024-to-1279.ensures.0) refl

pub returns-in_default : goal.returns-in_default
unfolding derived_from wrapped
returns-in_default c = λ ic second. rw (mode-is c.args.form 5 (omega (arith, c.requires.1)) (omega (arith, c.requires.1)), ← c.field_b-in_default.ensures.0) refl
