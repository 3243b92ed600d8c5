-- The answers to the goals of `page::fields::admitted`. Assumes nothing.
use native.Mathlib.Omega.{arith}
use Rattle.page.proofs.LookupLaws.{admits-every, admits-zero, admits-own}
use Rattle.page.proofs.fields.admitted.Goals as goal

pub returns-then-lock-eq15 : goal.returns-then-lock-eq15
returns-then-lock-eq15 c = admits-every _ _ (omega arith)

pub returns-then-key-eq0 : goal.returns-then-key-eq0
returns-then-key-eq0 c = admits-zero _ _ (λ q. omega arith) c.if-key-eq0.true

pub returns : goal.returns
returns c = admits-own _ _ (λ q. omega arith) c.if-key-eq0.false
