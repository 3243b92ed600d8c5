-- The answers to the goals of `form_table::table`. Assumes nothing.
use Rattle.decode.specs.Decode.{form_of}
use Rattle.decode.specs.Pages.{pages}
use Rattle.form_table.specs.FormNumbers.{numbers, number_of, rule_of, counts_of, need_of, exceptions, path_of}
use Rattle.isa.specs.Accesses.{words_read, words_written}
use Rattle.isa.specs.Addressing.{in_memory}
use mathlib.Core.Path.{refl}
use Rattle.form_table.proofs.table.Goals as goal

pub returns : goal.returns
unfolding numbers form_of pages number_of rule_of counts_of need_of exceptions path_of words_read words_written in_memory
returns c = refl
