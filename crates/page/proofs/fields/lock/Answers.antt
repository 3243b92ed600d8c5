-- The answers to the goals of `page::fields::lock`. Assumes nothing.
use Rattle.std.proofs.Common.{◌/◌}
use Rattle.page.specs.Pages.{lock_of}
use lib.Bits.{and_mask}
use Rattle.page.proofs.fields.lock.Goals as goal

pub returns : goal.returns
unfolding lock_of
returns c = and_mask (c.args.w / 4096) 4
