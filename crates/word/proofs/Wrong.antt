-- Two wrong answers of each contract that other crates call, beside the right one, which the checker computes. Assumes nothing.
use Rattle.std.proofs.Common.{T, List, [], ◌∷◌}
use Rattle.choice.proofs.Rows.{Row, one, some, hold, flag}
use Rattle.twos_complement.specs.Whole.{signed}
use Rattle.word.specs.Compare.{below, compared, limited}
use Rattle.word.specs.Condition.{jump_taken, shows, branch_taken}
use Rattle.word.specs.Pair.{pair, high_word, low_word}
use Rattle.word.specs.Status.{status}

pub rows : List Row
rows =
    -- compare::compare: at 16 bits, compared without a sign; equal, without the sign bit
    one (compared 16 0x8001 0x0001) 1 4 2
    -- compare::compare_limits: below the lower limit, as the order of the limits is not tested; above the upper limit
    ∷ one (limited 16 5 7 3) 8 1 4
    -- compare::compare: at 32 bits, the lower halves compared with a sign; equal, by the upper halves alone
    ∷ one (compared 32 0x0001_8000 0x0001_0001) 4 1 2
    -- condition::taken: C = 7 jumps only with a bit in common; C = 4 jumps only where CS is 4
    ∷ some (flag (jump_taken 7 8) ∷ flag (jump_taken 4 12) ∷ flag (jump_taken 3 4) ∷ []) (1 ∷ 1 ∷ 0 ∷ []) (0 ∷ 1 ∷ 0 ∷ []) (1 ∷ 0 ∷ 0 ∷ [])
    -- condition::branches: BEZ not taken where C is set; BLE taken only where Z is set
    ∷ some (flag (branch_taken 28 10) ∷ flag (branch_taken 31 1) ∷ flag (branch_taken 34 1) ∷ []) (1 ∷ 1 ∷ 0 ∷ []) (0 ∷ 1 ∷ 0 ∷ []) (1 ∷ 0 ∷ 0 ∷ [])
    -- pair::join: the halves exchanged; their sum
    ∷ one (pair 0x1234 0xABCD) 0x1234_ABCD 0xABCD_1234 0xBE01
    -- pair::high: the lower half; the upper byte
    ∷ one (high_word 0x1234_ABCD) 0x1234 0xABCD 0x12
    -- pair::low: the upper half; the lower byte
    ∷ one (low_word 0x1234_ABCD) 0xABCD 0x1234 0xCD
    -- status::status: at 16 bits, 8000 as positive; 8000 as zero
    ∷ one (status 16 0x8000) 1 4 2
    -- status::status: at 32 bits, negative, by the sign of the lower half; zero, by the upper half alone
    ∷ one (status 32 0x0000_8000) 4 1 2
    ∷ []

pub rows-hold : T (hold rows)
unfolding rows signed below compared limited jump_taken shows branch_taken pair high_word low_word status
rows-hold = tt
