-- The answers to the goals of `text::digit`. Assumes nothing.
use Rattle.text.specs.Texts.{digit}
use borrow.Author.Tests.{lt-ltb, le-ltb}
use mathlib.Core.Path.{refl}
use Rattle.text.proofs.digit.Goals as goal

pub returns-then-n-lt10 : goal.returns-then-n-lt10
unfolding digit
returns-then-n-lt10 c = rw (lt-ltb _ _ c.if-n-lt10.true) refl

pub returns : goal.returns
unfolding digit
returns c = rw (le-ltb _ _ c.if-n-lt10.false) refl
