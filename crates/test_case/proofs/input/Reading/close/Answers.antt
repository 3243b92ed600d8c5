-- The answers to the goals of `test_case::input::Reading::close`. Assumes nothing.
use Rattle.test_case.specs.Session.{closing, one_more}
use Rattle.text.proofs.WroteLaws.{then, whole}
use Rattle.test_case.proofs.input.Reading.close.Goals as goal

pub returns : goal.returns
unfolding closing one_more
returns c = whole (then c.put_if-at.ensures.0 c.put_if.ensures.0)
