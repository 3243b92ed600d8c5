-- The answers to the goals of `execute_words::jumps::jump_operation`. Assumes nothing.
use Rattle.std.proofs.Common.{◌≡◌, ◌+◌, arith}
use Rattle.isa.specs.Words.{jump_operation}
use Rattle.page.specs.Spans.{wrapped}
use Rattle.execute_words.proofs.jumps.jump_operation.Goals as goal

pub returns-in-25 : goal.returns-in-25
unfolding jump_operation
returns-in-25 c = rw (c.in-25.is, ← c.following.ensures) (c.called.ensures _)

pub returns-in-26 : goal.returns-in-26
unfolding jump_operation
returns-in-26 c = let e : c.less.result ≡ wrapped (c.get.result + 65535) = c.less.ensures in rw (c.in-26.is, ← c.field_a-a.ensures.0, ← c.get.ensures, ← e) (c.subtracted_and_jumped.ensures _ _)

pub returns-in-36 : goal.returns-in-36
unfolding jump_operation
returns-in-36 c = let e : c.less-in-36.result ≡ wrapped (c.get-in-36.result + 65535) = c.less-in-36.ensures in rw (c.in-36.is, ← c.field_a-a.ensures.0, ← c.get-in-36.ensures, ← c.following-in-36.ensures, ← e) (c.called-in-36.ensures _)

pub returns-in_default : goal.returns-in_default
unfolding jump_operation wrapped
returns-in_default c = let e : c.wrapping_add_u16.result ≡ wrapped (c.get-in_default.result + 1) = c.wrapping_add_u16.ensures.value in rw (c.requires (λ i. omega arith) (λ i. omega arith) (λ i. omega arith), ← c.field_a-a.ensures.0, ← c.get-in_default.ensures, ← e) (c.called-in_default.ensures _)
