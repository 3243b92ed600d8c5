-- The answers to the goals of `test_case::output::state_lines`. Assumes nothing.
use Rattle.std.proofs.Common.{append_assoc, append-nil, eq-eqb, ne_eqb}
use Rattle.test_case.specs.Case.{state_lines}
use Rattle.test_case.proofs.output.state_lines.Goals.{then-timed, else-timed}
use Rattle.test_case.proofs.output.state_lines.Goals as goal

pub returns-then-state-ne0 : goal.returns-then-state-ne0
unfolding state_lines
returns-then-state-ne0 g c = elim c.if-timed.branch [
  | then-timed w ↦ rw (c.put_bytes-then-state-ne0.ensures.text, c.as_slice-then-state-ne0.ensures.value, c.mfs_line.ensures.text, w.out-is, w.put_bytes-then-timed.ensures.text, w.as_slice-then-timed.ensures.value, w.remainder_line.ensures, c.put_bytes-2.ensures.text, c.as_slice-2.ensures.value, c.time_line.ensures, c.put_report.ensures.text, c.put_bytes.ensures.text, c.as_slice.ensures.value, c.case_line.ensures, w.if-timed.true, ne_eqb _ 0 c.if-state-ne0.true) (simp append_assoc)
  | else-timed w ↦ rw (c.put_bytes-then-state-ne0.ensures.text, c.as_slice-then-state-ne0.ensures.value, c.mfs_line.ensures.text, w.out-is, c.put_bytes-2.ensures.text, c.as_slice-2.ensures.value, c.time_line.ensures, c.put_report.ensures.text, c.put_bytes.ensures.text, c.as_slice.ensures.value, c.case_line.ensures, w.if-timed.false, ne_eqb _ 0 c.if-state-ne0.true) (simp append_assoc)
]

pub returns-else-state-ne0 : goal.returns-else-state-ne0
unfolding state_lines
returns-else-state-ne0 g c = elim c.if-timed.branch [
  | then-timed w ↦ rw (w.out-is, w.put_bytes-then-timed.ensures.text, w.as_slice-then-timed.ensures.value, w.remainder_line.ensures, c.put_bytes-2.ensures.text, c.as_slice-2.ensures.value, c.time_line.ensures, c.put_report.ensures.text, c.put_bytes.ensures.text, c.as_slice.ensures.value, c.case_line.ensures, w.if-timed.true, eq-eqb _ 0 c.if-state-ne0.false) (simp (append_assoc, append-nil))
  | else-timed w ↦ rw (w.out-is, c.put_bytes-2.ensures.text, c.as_slice-2.ensures.value, c.time_line.ensures, c.put_report.ensures.text, c.put_bytes.ensures.text, c.as_slice.ensures.value, c.case_line.ensures, w.if-timed.false, eq-eqb _ 0 c.if-state-ne0.false) (simp (append_assoc, append-nil))
]
