-- The answers to the goals of `word::status::status`. Assumes nothing.
use Rattle.std.proofs.Common.{arith}
use Rattle.word.proofs.StatusLaws.{zero-status, positive-status, negative-status}
use Rattle.word.proofs.status.status.Goals as goal

pub returns-in-0 : goal.returns-in-0
returns-in-0 g c = zero-status g.W.Word.WIDTH _ (omega arith)

pub returns-in_default : goal.returns-in_default
returns-in_default g c = let s = g.met.W.Word.sign_is in positive-status g.W.Word.WIDTH _ (λ z. omega arith) (omega arith)

pub returns-in_default-2 : goal.returns-in_default-2
returns-in_default-2 g c = let s = g.met.W.Word.sign_is in negative-status g.W.Word.WIDTH _ (λ z. omega arith) (omega arith)
