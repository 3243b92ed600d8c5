-- The answers to the goals of `page::fields::frame`. Assumes nothing.
use Rattle.page.specs.Pages.{frame_of}
use lib.Bits.{and_mask}
use Rattle.page.proofs.fields.frame.Goals as goal

pub returns : goal.returns
unfolding frame_of
returns c = and_mask c.args.w 8
