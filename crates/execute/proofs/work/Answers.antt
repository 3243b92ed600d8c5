-- The answers to the goals of `execute::work`. Assumes nothing.
use Rattle.effect.specs.Work.{worked}
use Rattle.isa.specs.Mil1750.{context_of}
use Rattle.machine.specs.Step.{affected, stored}
use Rattle.std.proofs.Common.{rules, length, ◌≡◌, refl}
use Rattle.execute.proofs.WordsLaws.{three-are}
use Rattle.execute.proofs.work.Goals as goal

pub ordinary-e-requires : goal.ordinary-e-requires
ordinary-e-requires c = c.requires.1

pub returns : goal.returns
unfolding affected stored worked context_of
returns c = (rw (← c.ordinary-e.ensures, ← c.apply.ensures, c.update.ensures, ← c.with_cs.ensures) refl, let e : length c.ordinary-e.result.words ≡ 3 = search rules in rw (← c.ordinary-e.ensures, ← three-are _ e) c.store_words.ensures)
