-- The answers to the goals of `line_request::input::Reading::take`. Assumes nothing.
use Rattle.std.proofs.Common.{ne_eqb}
use Rattle.text.proofs.WroteLaws.{wrote_none, whole}
use Rattle.line_request.specs.Session.{session_of, on_byte}
use Rattle.line_request.proofs.SessionLaws.{byte_kept}
use Rattle.line_request.proofs.input.Reading.take.Goals as goal

pub returns : goal.returns
unfolding session_of on_byte
returns c = rw (ne_eqb _ _ c.if-byte-eq10.false) (record { session-is = rw c.keep.ensures (byte_kept _ _ _); text-is = whole (wrote_none _ _) })
