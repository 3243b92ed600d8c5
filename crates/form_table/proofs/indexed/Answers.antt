-- The answers to the goals of `form_table::indexed`. Assumes nothing.
use Prim.Native.Nat.{ℕ}
use Rattle.choice.proofs.TableLaws.{tabled}
use Rattle.decode.specs.Decode.{form_claimed}
use Rattle.decode.specs.Pages.{pages}
use Rattle.form_table.specs.FormNumbers.{number_of, rule_of, counts_of, need_of, exceptions, path_of}
use Rattle.isa.specs.Accesses.{words_read, words_written}
use Rattle.isa.specs.Addressing.{in_memory}
use borrow.Author.Rules.{rules}
use Rattle.form_table.proofs.indexed.Goals as goal

pub returns : goal.returns
unfolding pages number_of rule_of counts_of need_of exceptions path_of words_read words_written in_memory
returns c = tabled (λ (k : ℕ). number_of (form_claimed 0x40 k 0)) 16 c.args.upper (search rules)
