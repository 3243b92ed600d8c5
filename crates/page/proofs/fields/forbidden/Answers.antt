-- The answers to the goals of `page::fields::forbidden`. Assumes nothing.
use Rattle.page.specs.Pages.{barred}
use Rattle.page.proofs.fields.forbidden.Goals as goal

pub returns-in-Fetch : goal.returns-in-Fetch
unfolding barred
returns-in-Fetch c = cc

pub returns-in-Read : goal.returns-in-Read
unfolding barred
returns-in-Read c = cc

pub returns-in-Write : goal.returns-in-Write
unfolding barred
returns-in-Write c = cc
