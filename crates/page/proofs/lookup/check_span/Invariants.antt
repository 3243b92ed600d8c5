-- What the loop of `page::lookup::check_span` keeps. Assumes nothing.
use Rattle.std.proofs.Common.{◌≡◌, ◌-◌}
use Rattle.page.specs.Spans.{checked_from, checked}
use Rattle.page.proofs.lookup.check_span.Given as goal

abbrev pub invariant-loop-number : goal.invariant-loop-number
invariant-loop-number l = checked l.key l.group l.pages l.size l.span l.access ≡ checked_from l.key l.group l.pages l.size l.span l.access (l.number-end - l.number) l.number l.a
