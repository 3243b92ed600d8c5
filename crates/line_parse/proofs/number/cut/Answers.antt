-- The answers to the goals of `line_parse::number::cut`. Assumes nothing.
use Rattle.line_parse.proofs.ScanLaws.{found-place}
use Rattle.line_parse.proofs.number.cut.Goals as goal

pub returns-clause-head : goal.returns-clause-head
returns-clause-head c = rw (c.split_at.ensures.front, c.unwrap_or.ensures, c.find.ensures) (found-place c.args.b c.args.text.now).1

pub returns-clause-rest : goal.returns-clause-rest
returns-clause-rest c = rw (c.split_at.ensures.back, c.unwrap_or.ensures, c.find.ensures) (found-place c.args.b c.args.text.now).2
