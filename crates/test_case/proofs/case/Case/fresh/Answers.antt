-- The answers to the goals of `test_case::case::Case::fresh`. Assumes nothing.
use Rattle.std.proofs.Common.{ℕ, replicate}
use Rattle.std.proofs.lemmas.List.{length-replicate}
use Rattle.test_case.proofs.CaseLaws.{fresh-is}
use Rattle.test_case.specs.Case.{case_of}
use Rattle.test_case.proofs.case.Case.fresh.Goals as goal

pub returns : goal.returns
unfolding case_of
returns c = fresh-is (replicate 16384 0) (replicate 512 0) (replicate 1024 0) (length-replicate {A = ℕ} 16384 0) (length-replicate {A = ℕ} 512 0) (length-replicate {A = ℕ} 1024 0) c.reset-state.ensures
