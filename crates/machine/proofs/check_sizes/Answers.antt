-- The answers to the goals of `machine::check_sizes`. Assumes nothing.
use Rattle.std.proofs.Common.{refl}
use borrow.Author.Tests.{eq-eqb, ne_eqb}
use Rattle.machine.specs.Runs.{asked, sizes_answer}
use Rattle.machine.proofs.check_sizes.Goals as goal

pub returns-then-not-whole_pages : goal.returns-then-not-whole_pages
unfolding sizes_answer asked
returns-then-not-whole_pages c = rw (← c.whole_pages.ensures, c.if-not-whole_pages.true) refl

pub returns-then-pages-ne512 : goal.returns-then-pages-ne512
unfolding sizes_answer asked
returns-then-pages-ne512 c = rw (← c.whole_pages.ensures, c.if-not-whole_pages.false, ne_eqb _ _ c.if-pages-ne512.true) refl

pub returns-then-ports-ne1024 : goal.returns-then-ports-ne1024
unfolding sizes_answer asked
returns-then-ports-ne1024 c = rw (← c.whole_pages.ensures, c.if-not-whole_pages.false, eq-eqb _ _ c.if-pages-ne512.false, ne_eqb _ _ c.if-ports-ne1024.true) refl

pub returns : goal.returns
unfolding sizes_answer asked
returns c = rw (← c.whole_pages.ensures, c.if-not-whole_pages.false, eq-eqb _ _ c.if-pages-ne512.false, eq-eqb _ _ c.if-ports-ne1024.false) refl
