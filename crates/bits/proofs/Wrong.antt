-- Two wrong answers of each contract that other crates call, beside the right one, which the checker computes. Assumes nothing.
use mathlib.Core.List.{List, [], ◌∷◌}
use Prim.Native.Nat.{◌-◌}
use lib.Bits.{bit_and, bit_or, bit_xor}
use lib.Dec.{T}
use Rattle.choice.proofs.Rows.{Row, one, hold}
use Rattle.bits.specs.Bits.{bit, set_bit, reset_bit, test_bit}
use Rattle.bits.specs.Bytes.{bytes, upper_byte, lower_byte, load_upper, load_lower, store_masked, store_upper, store_lower, exchange}

pub rows : List Row
rows =
    -- bits::set_bit: bit 3 counted from the least significant one; the bit after it
    one (set_bit 0x0100 3) 0x1100 0x0108 0x0900
    -- bits::reset_bit: bit 3 counted from the least significant one; bit 3 alone kept
    ∷ one (reset_bit 0xFFFF 3) 0xEFFF 0xFFF7 0x1000
    -- bits::test_bit: P for bit 0; zero, by the least significant bit
    ∷ one (test_bit 0x8000 0) 1 4 2
    -- bytes::load_upper: the lower byte of the operand; the upper byte of the register cleared
    ∷ one (load_upper 0x1234 0xABCD) 0x12AB 0x12CD 0x00AB
    -- bytes::load_lower: the upper byte of the operand; the upper byte of the register cleared
    ∷ one (load_lower 0x1234 0xABCD) 0x12CD 0x12AB 0x00CD
    -- bytes::store_masked: stored where the mask has zeros; the other bits of the memory word cleared
    ∷ one (store_masked 0x1234 0xABCD 0x0FF0) 0x1BC4 0xA23D 0x0BC0
    -- bytes::store_upper: the upper byte of the register; stored into the lower byte
    ∷ one (store_upper 0x1234 0xABCD) 0xCD34 0xAB34 0x12CD
    -- bytes::store_lower: the upper byte of the register; stored into the upper byte
    ∷ one (store_lower 0x1234 0xABCD) 0x12CD 0x12AB 0xCD34
    -- bytes::exchange_bytes: the four digits in reverse; no change
    ∷ one (exchange 0x1234) 0x3412 0x4321 0x1234
    -- logic::or: exclusive OR; AND
    ∷ one (bit_or 0x0F0F 0x3333) 0x3F3F 0x3C3C 0x0303
    -- logic::and: OR; NAND
    ∷ one (bit_and 0x0F0F 0x3333) 0x0303 0x3F3F 0xFCFC
    -- logic::xor: inclusive OR; the complement
    ∷ one (bit_xor 0x0F0F 0x3333) 0x3C3C 0x3F3F 0xC3C3
    -- logic::nand: AND; the complement of OR
    ∷ one (65535 - bit_and 0x0F0F 0x3333) 0xFCFC 0x0303 0xC0C0
    ∷ []

pub rows-hold : T (hold rows)
unfolding rows bit set_bit reset_bit test_bit bytes upper_byte lower_byte load_upper load_lower store_masked store_upper store_lower exchange
rows-hold = tt
