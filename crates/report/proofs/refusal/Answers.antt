-- The answers to the goals of `report::refusal`. Assumes nothing.
use Rattle.std.proofs.Common.{rules}
use Rattle.text.specs.Texts.{numbered_line}
use Rattle.report.specs.Report.{refusal_of}
use Rattle.report.proofs.refusal.Goals as goal

pub returns : goal.returns
unfolding numbered_line refusal_of
returns c = search rules
