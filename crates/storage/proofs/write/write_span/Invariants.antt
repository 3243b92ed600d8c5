-- What the loop of `storage::write::write_span` keeps. Assumes nothing.
use Rattle.std.proofs.Common.{◌≡◌, ◌-◌, length}
use Rattle.page.specs.Spans.{written_from, written}
use Rattle.storage.proofs.write.write_span.Given as goal

abbrev pub invariant-loop-number : goal.invariant-loop-number
invariant-loop-number l = written l.key l.group l.pages (length l.initial.memory) l.span l.buf l.initial.memory ≡ written_from l.key l.group l.pages (length l.initial.memory) l.span l.buf (l.number-end - l.number) l.number l.a l.memory
