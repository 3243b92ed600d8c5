-- Opens every definition of the instruction set at once: `unfolding instructions`. Written by tools/open.py. Assumes nothing.
use Rattle.isa.specs.Accesses.{words_read, words_written, at_operand, all_from, popped_span, pushed_span, moved_span, reads_of, writes_of}
use Rattle.isa.specs.Addressing.{derived_from, in_memory, is_immediate, is_based, is_register, operand_word, operand, double_operand, base_accumulator, accumulator}
use Rattle.isa.specs.Blocks.{rearranged, loaded_all, popped_from, popped_all, changed_by, moved_on, moved_word, stored_all, pushed_word, pushed_from, pushed_all, exchanged_words}
use Rattle.isa.specs.Commands.{resumed, pending_reset, with_ra, faults_read, becomes, timer_command, is_timer, core_command, state_command, commanded, status_loaded, supervised_by}
use Rattle.isa.specs.Effects.{fixed_overflow, float_faults, effect, into_registers, single, double, loaded, tested, stored, modified, replaced, jumped, nothing}
use Rattle.isa.specs.Execute.{ordinary, executed}
use Rattle.isa.specs.Fields.{field_a, field_b, base_register, displacement, signed_displacement, register, with_register, with_registers, registers_from, indexed}
use Rattle.isa.specs.Floats.{float24, float40, both24, both40, combined24, combined40, changed24, to_integer, to_double_integer, float_operation}
use Rattle.isa.specs.Integers.{single_outcome, double_outcome, memory_outcome, quotient_outcome, integer_operation, logical_operation}
use Rattle.isa.specs.Mil1750.{class_of, context_of, mil1750}
use Rattle.isa.specs.OldTimers.{KeepB}
use Rattle.isa.specs.Words.{register_pair, bit_operation, shifted_single, shifted_double, shift_operation, called, subtracted_and_jumped, jump_operation, load_operation, store_operation}

unfoldable pub instructions : Unit {0}
unfolding words_read words_written at_operand all_from popped_span pushed_span moved_span reads_of writes_of derived_from in_memory is_immediate is_based is_register operand_word operand double_operand base_accumulator accumulator rearranged loaded_all popped_from popped_all changed_by moved_on moved_word stored_all pushed_word pushed_from pushed_all exchanged_words resumed pending_reset with_ra faults_read becomes timer_command is_timer core_command state_command commanded status_loaded supervised_by fixed_overflow float_faults effect into_registers single double loaded tested stored modified replaced jumped nothing ordinary executed field_a field_b base_register displacement signed_displacement register with_register with_registers registers_from indexed float24 float40 both24 both40 combined24 combined40 changed24 to_integer to_double_integer float_operation single_outcome double_outcome memory_outcome quotient_outcome integer_operation logical_operation class_of context_of mil1750 KeepB register_pair bit_operation shifted_single shifted_double shift_operation called subtracted_and_jumped jump_operation load_operation store_operation
instructions = tt
