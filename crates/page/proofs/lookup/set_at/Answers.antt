-- The answers to the goals of `page::lookup::set_at`. Assumes nothing.
use Rattle.page.specs.Pages.{set_of}
use Rattle.page.proofs.lookup.set_at.Goals as goal

pub returns-in-Fetch : goal.returns-in-Fetch
unfolding set_of
returns-in-Fetch c = cc

pub returns-in-Read : goal.returns-in-Read
unfolding set_of
returns-in-Read c = cc

pub returns-in-Write : goal.returns-in-Write
unfolding set_of
returns-in-Write c = cc
