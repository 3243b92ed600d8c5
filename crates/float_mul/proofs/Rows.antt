-- Known products at both widths, computed by the definition. Assumes nothing.
use mathlib.Core.List.{List, [], ◌∷◌}
use lib.Dec.{T}
use Rattle.choice.proofs.Rows.{all_of}
use Rattle.twos_complement.specs.Whole.{signed, wrap, with_sign, floor_div}
use Rattle.twos_complement.specs.Normal.{normal}
use Rattle.float.specs.Float.{is_zero, overflowed, float_zero}
use Rattle.float_exact.specs.Exact.{mantissa_at, highest, truncated, signs_differ, overflow_of}
use Rattle.float_exact.proofs.Rows.{Row, plain, over, under, right}
use Rattle.float_mul.specs.Multiply.{product_of}

pub rows : List Row
rows =
    -- normalised operands
    plain 24 0x4000_0001 0x4000_0001 0x4000_0001 ∷ plain 24 0x6000_0002 0x8000_0000 0xa000_0002 ∷ plain 40 0x6000_0002_0000 0x8000_0000_0000 0xa000_0002_0000
    -- -1.0 times -1.0 at n = 0, 7E and 7F
    ∷ plain 24 0x8000_0000 0x8000_0000 0x4000_0001 ∷ plain 24 0x8000_003f 0x8000_003f 0x4000_007f ∷ over 24 0x8000_0040 0x8000_003f 0x7fff_ff7f
    ∷ plain 40 0x8000_003f_0000 0x8000_003f_0000 0x4000_007f_0000 ∷ over 40 0x8000_0040_0000 0x8000_003f_0000 0x7fff_ff7f_ffff
    -- n above 7F and below 80, and an underflow by normalising alone
    ∷ over 24 0x4000_0040 0x4000_0040 0x7fff_ff7f ∷ over 24 0x4000_0040 0xa000_0040 0x8000_007f ∷ under 24 0x4000_0080 0x4000_00ff 0 ∷ under 24 0x4000_00c0 0x4000_00c0 0
    ∷ over 40 0x4000_0040_0000 0xa000_0040_0000 0x8000_007f_0000 ∷ under 40 0x4000_00c0_0000 0x4000_00c0_0000 0
    -- -1.0 times -1.0 at n = -129, whose product would be in range
    ∷ under 24 0x8000_0080 0x8000_00ff 0 ∷ under 40 0x8000_0080_0000 0x8000_00ff_0000 0
    -- truncated toward minus infinity
    ∷ plain 24 0x7fff_ff00 0x7fff_ff00 0x7fff_fe00 ∷ plain 24 0x4000_0100 0xbfff_ff00 0xbfff_fdff ∷ plain 40 0x4000_0000_0001 0xbfff_ff00_ffff 0xbfff_ffff_fffd
    -- operands that are not normalised
    ∷ plain 24 0x0000_0100 0x0000_0100 0x4000_00d3 ∷ plain 24 0xffff_ff00 0x0000_0300 0xa000_00d4 ∷ plain 40 0xffff_ff00_ffff 0x0000_0000_0003 0xa000_00b4_0000
    -- a zero mantissa: in range, n above 7F with either sign, n below 80
    ∷ plain 24 0x0000_0003 0x6000_0001 0 ∷ over 24 0x0000_007f 0x4000_0001 0x7fff_ff7f ∷ over 24 0x0000_007f 0xa000_0001 0x8000_007f ∷ under 24 0x0000_0080 0x4000_00ff 0
    ∷ plain 40 0x0000_0003_0000 0x6000_0001_0000 0 ∷ over 40 0x0000_007f_0000 0xa000_0001_0000 0x8000_007f_0000 ∷ []

pub rows-hold : T (all_of (right product_of) rows)
unfolding right rows signed wrap with_sign floor_div normal is_zero overflowed float_zero mantissa_at highest truncated signs_differ overflow_of product_of
rows-hold = tt
