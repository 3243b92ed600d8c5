-- The answers to the goals of `block_words::stores::store_pushed`. Assumes nothing.
use Rattle.block_registers.proofs.BlockLaws.{written-agree, pushed-first}
use Rattle.isa.specs.Accesses.{pushed_span}
use lib.ListN.{get_or}
use mathlib.Core.Path.{ap, ◌∙◌}
use Rattle.block_words.proofs.stores.store_pushed.Goals as goal

pub returns : goal.returns
unfolding pushed_span
returns c = let k = rw c.pushed_span.ensures.0 at c.pushed_span.ensures.1 in (rw c.pushed_span.ensures.0 at c.write_span.ensures) ∙ written-agree _ _ _ _ _ _ _ (λ j l. ap (λ x. get_or x j 0) c.push_words.ensures ∙ pushed-first _ _ _ _ k j l) _
