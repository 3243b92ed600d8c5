-- The answers to the goals of `page::lookup::refuse`. Assumes nothing.
use Rattle.page.specs.Pages.{mfs_at}
use Rattle.page.proofs.lookup.refuse.Goals as goal

pub returns : goal.returns
unfolding mfs_at
returns c = rw (← c.ioi.ensures.0)
