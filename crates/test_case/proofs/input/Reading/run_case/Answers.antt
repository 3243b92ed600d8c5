-- The answers to the goals of `test_case::input::Reading::run_case`. Assumes nothing.
use Rattle.std.proofs.Common.{◌≡◌, ◌∙◌}
use Rattle.test_case.proofs.CaseLaws.{text-is}
use Rattle.test_case.specs.Case.{case_of}
use Rattle.test_case.specs.Session.{one_more, on_run, session_of}
use Rattle.text.proofs.WroteLaws.{then, whole}
use Rattle.test_case.proofs.input.Reading.run_case.Goals as goal

pub returns : goal.returns
unfolding on_run session_of one_more case_of
returns c =
    record {
      session-is = c.begin.ensures;
      text-is = whole (rw (← text-is _ _ _ c.run-answer.ensures.answer (c.from-refused.ensures ∙ c.number.ensures) c.made.ensures c.run-answer.ensures.left) (then c.put_state-at.ensures.0 c.put_all_changes-end.ensures));
    }
