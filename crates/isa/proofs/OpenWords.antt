-- Opens every definition of words, integers and shifts at once: `unfolding words`. Written by tools/open.py. Assumes nothing.
use Rattle.twos_complement.specs.Normal.{normal, moves, distance}
use Rattle.twos_complement.specs.Whole.{signed, wrap, holds, with_sign, floor_div, shift_left, shift_right, shift_arith, rotate, sign_changes}
use Rattle.word.specs.Compare.{below, compared, limited}
use Rattle.word.specs.Condition.{jump_taken, shows, branch_taken}
use Rattle.word.specs.Pair.{pair, high_word, low_word}
use Rattle.word.specs.Status.{status, with_carry}
use Rattle.bits.specs.Bits.{bit, set_bit, reset_bit, test_bit}
use Rattle.bits.specs.Bytes.{bytes, upper_byte, lower_byte, load_upper, load_lower, store_masked, store_upper, store_lower, exchange}
use Rattle.fixed_add.specs.Fixed.{outcome_of, sum, absolute, difference, negated}
use Rattle.fixed_muldiv.specs.Divide.{product, long_product, division, divided, long_divided, quotient}
use Rattle.shift.specs.Shift.{count_of, moved, shifted_by}

unfoldable pub words : Unit {0}
unfolding normal moves distance signed wrap holds with_sign floor_div shift_left shift_right shift_arith rotate sign_changes below compared limited jump_taken shows branch_taken pair high_word low_word status with_carry bit set_bit reset_bit test_bit bytes upper_byte lower_byte load_upper load_lower store_masked store_upper store_lower exchange outcome_of sum absolute difference negated product long_product division divided long_divided quotient count_of moved shifted_by
words = tt
