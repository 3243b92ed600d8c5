-- What the loop of `storage::read::read_span` keeps. Assumes nothing.
use Rattle.std.proofs.Common.{◌≡◌, ◌-◌, length}
use Rattle.page.specs.Spans.{read_from}
use Rattle.storage.proofs.read.read_span.Given as goal

abbrev pub invariant-loop-number : goal.invariant-loop-number
invariant-loop-number l = read_from l.key l.group l.pages (length l.memory) l.span l.memory l.span.count 0 l.span.start l.initial.buf ≡ read_from l.key l.group l.pages (length l.memory) l.span l.memory (l.number-end - l.number) l.number l.a l.buf
