-- The answers to the goals of `page::fields::protect`. Assumes nothing.
use Rattle.std.proofs.Common.{◌/◌}
use Rattle.page.specs.Pages.{protect_of}
use lib.Bits.{and_mask}
use Rattle.page.proofs.fields.protect.Goals as goal

pub returns : goal.returns
unfolding protect_of
returns c = and_mask (c.args.w / 2048) 1
