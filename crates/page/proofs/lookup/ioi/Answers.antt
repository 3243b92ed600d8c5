-- The answers to the goals of `page::lookup::ioi`. Assumes nothing.
use Rattle.page.specs.Pages.{ioi_of}
use Rattle.std.proofs.Common.{arith}
use Rattle.page.proofs.lookup.ioi.Goals as goal

pub returns-in-Fetch : goal.returns-in-Fetch
unfolding ioi_of
returns-in-Fetch c = (cc, omega arith)

pub returns-in-Read : goal.returns-in-Read
unfolding ioi_of
returns-in-Read c = (cc, omega arith)

pub returns-in-Write : goal.returns-in-Write
unfolding ioi_of
returns-in-Write c = (cc, omega arith)
