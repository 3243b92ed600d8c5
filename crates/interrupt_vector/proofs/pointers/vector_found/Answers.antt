-- The answers to the goals of `interrupt_vector::pointers::vector_found`. Assumes nothing.
use Rattle.std.proofs.Common.{◌+◌, ◌*◌, sym, ◌∙◌, arith, rules}
use Rattle.interrupt_vector.proofs.VectorLaws.{inside-at, room-before, inside-before, vector-together}
use Rattle.interrupt_vector.proofs.pointers.vector_found.Goals as goal

pub offset_bounds-memory-p : goal.offset_bounds-memory-p
offset_bounds-memory-p c = omega (arith, inside-at c.args.memory.now c.args.pages.now _ _ (sym c.look_up-service.ensures ∙ c.in-Ok.is))

pub bounds-memory-p : goal.bounds-memory-p
bounds-memory-p c = search (rules, inside-at c.args.memory.now c.args.pages.now _ _ (sym c.look_up-service.ensures ∙ c.in-Ok.is))

pub returns-then-end-lt2 : goal.returns-then-end-lt2
returns-then-end-lt2 c = λ v e. cc

pub overflow_sub-link : goal.overflow_sub-link
overflow_sub-link c = omega (arith, room-before c.args.memory.now c.args.pages.now (33 + 2 * c.args.n) _ 1 (omega arith) (sym c.look_up-service.ensures ∙ c.in-Ok.is) 1 (omega arith))

pub offset_bounds-memory-p-in-Ok-last : goal.offset_bounds-memory-p-in-Ok-last
offset_bounds-memory-p-in-Ok-last c = omega (arith, inside-before c.args.memory.now c.args.pages.now (33 + 2 * c.args.n) _ 1 (omega arith) (sym c.look_up-service.ensures ∙ c.in-Ok.is) 1 (omega arith))

pub bounds-memory-p-in-Ok-last : goal.bounds-memory-p-in-Ok-last
bounds-memory-p-in-Ok-last c = search (rules, inside-before c.args.memory.now c.args.pages.now (33 + 2 * c.args.n) _ 1 (omega arith) (sym c.look_up-service.ensures ∙ c.in-Ok.is) 1 (omega arith))

pub overflow_sub-mk : goal.overflow_sub-mk
overflow_sub-mk c = omega (arith, room-before c.args.memory.now c.args.pages.now _ _ 2 (omega arith) (sym c.look_up-last.ensures ∙ c.in-Ok-last.is) 2 (omega arith))

pub offset_bounds-memory-q : goal.offset_bounds-memory-q
offset_bounds-memory-q c = omega (arith, inside-before c.args.memory.now c.args.pages.now _ _ 2 (omega arith) (sym c.look_up-last.ensures ∙ c.in-Ok-last.is) 2 (omega arith))

pub bounds-memory-q : goal.bounds-memory-q
bounds-memory-q c = search (rules, inside-before c.args.memory.now c.args.pages.now _ _ 2 (omega arith) (sym c.look_up-last.ensures ∙ c.in-Ok-last.is) 2 (omega arith))

pub overflow_sub-sw : goal.overflow_sub-sw
overflow_sub-sw c = omega (arith, room-before c.args.memory.now c.args.pages.now _ _ 2 (omega arith) (sym c.look_up-last.ensures ∙ c.in-Ok-last.is) 1 (omega arith))

pub offset_bounds-memory-q-in-Ok-last : goal.offset_bounds-memory-q-in-Ok-last
offset_bounds-memory-q-in-Ok-last c = omega (arith, inside-before c.args.memory.now c.args.pages.now _ _ 2 (omega arith) (sym c.look_up-last.ensures ∙ c.in-Ok-last.is) 1 (omega arith))

pub bounds-memory-q-in-Ok-last : goal.bounds-memory-q-in-Ok-last
bounds-memory-q-in-Ok-last c = search (rules, inside-before c.args.memory.now c.args.pages.now _ _ 2 (omega arith) (sym c.look_up-last.ensures ∙ c.in-Ok-last.is) 1 (omega arith))

pub offset_bounds-memory-q-in-Ok-last-2 : goal.offset_bounds-memory-q-in-Ok-last-2
offset_bounds-memory-q-in-Ok-last-2 c = omega (arith, inside-at c.args.memory.now c.args.pages.now _ _ (sym c.look_up-last.ensures ∙ c.in-Ok-last.is))

pub bounds-memory-q-in-Ok-last-2 : goal.bounds-memory-q-in-Ok-last-2
bounds-memory-q-in-Ok-last-2 c = search (rules, inside-at c.args.memory.now c.args.pages.now _ _ (sym c.look_up-last.ensures ∙ c.in-Ok-last.is))

pub returns-in-Ok-last : goal.returns-in-Ok-last
returns-in-Ok-last c = λ v e. let t = vector-together c.args.memory.now c.args.pages.now c.args.n _ _ _ (omega arith) (sym c.look_up-service.ensures ∙ c.in-Ok.is) c.wrapping_add_u16-end.ensures.value (omega arith) (sym c.look_up-last.ensures ∙ c.in-Ok-last.is) in cc

pub returns-in-Err-last : goal.returns-in-Err-last
returns-in-Err-last c = λ v e. cc

pub returns-in-Err : goal.returns-in-Err
returns-in-Err c = λ v e. cc
