-- The answers to the goals of `test_case::input::Reading::take`. Assumes nothing.
use Rattle.std.proofs.Common.{ne_eqb}
use Rattle.text.proofs.WroteLaws.{wrote_none, whole}
use Rattle.test_case.specs.Session.{session_of, on_byte}
use Rattle.test_case.proofs.SessionLaws.{byte_kept}
use Rattle.test_case.proofs.input.Reading.take.Goals as goal

pub returns : goal.returns
unfolding session_of on_byte
returns c = rw (ne_eqb _ _ c.if-byte-eq10.false) (record { session-is = rw c.keep.ensures (byte_kept (session_of c.args.self.now) _); text-is = whole (wrote_none _ _) })
