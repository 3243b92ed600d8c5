-- The answers to the goals of `form_table::special`. Assumes nothing.
use Rattle.choice.proofs.SelectLaws.{otherwise}
use Rattle.decode.proofs.DecodeLaws.{special, under-ff}
use Rattle.form_table.specs.FormNumbers.{number_of, rule_of, counts_of, need_of, exceptions, path_of}
use Rattle.isa.specs.Accesses.{words_read, words_written}
use Rattle.isa.specs.Addressing.{in_memory}
use mathlib.Core.Path.{sym, ap}
use Rattle.form_table.proofs.special.Goals as goal

pub returns-in-0 : goal.returns-in-0
unfolding special number_of rule_of counts_of need_of exceptions path_of words_read words_written in_memory
returns-in-0 c = rw (under-ff c.args.first, c.in-0.is)

pub returns-in-255 : goal.returns-in-255
unfolding special number_of rule_of counts_of need_of exceptions path_of words_read words_written in_memory
returns-in-255 c = rw (under-ff c.args.first, c.in-255.is)

pub returns-in_default : goal.returns-in_default
unfolding special number_of rule_of counts_of need_of exceptions path_of words_read words_written in_memory
returns-in_default c = rw (under-ff c.args.first) (ap number_of (sym (otherwise _ special 0 c.in_default.in_default-own.rest)))
