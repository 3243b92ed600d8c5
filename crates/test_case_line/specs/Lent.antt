-- The lists that a run is lent, as the entries `L` number them (docs/TEST-CASES.md). Assumes nothing.
use Rattle.std.specs.Prelude.{ℕ, cond, ◌==◌}
use Rattle.test_case_line.specs.declared.kind.Lent.{Lent}
use Rattle.test_case_line.specs.declared.kind.Lent.TheVariants.{Memory, Pages, Ports, Durations}

-- the list of a number; from 3 on that of the durations
abbrev pub lent_of : ℕ → Lent
lent_of n = cond (n == 0) Memory (cond (n == 1) Pages (cond (n == 2) Ports Durations))

-- the words that there are in it
abbrev pub words_of : Lent → ℕ
words_of Memory = 16384
words_of Pages = 512
words_of Ports = 1024
words_of Durations = 257
