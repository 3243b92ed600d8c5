-- Known quotients at both widths, computed by the definition. Assumes nothing.
use mathlib.Core.List.{List, [], ◌∷◌}
use lib.Dec.{T}
use Rattle.choice.proofs.Rows.{all_of}
use Rattle.twos_complement.specs.Whole.{signed, wrap, with_sign, floor_div}
use Rattle.twos_complement.specs.Normal.{normal}
use Rattle.float.specs.Float.{is_zero, overflowed, float_zero}
use Rattle.float_exact.specs.Exact.{mantissa_at, highest, truncated, signs_differ, overflow_of}
use Rattle.float_exact.proofs.Rows.{Row, plain, over, under, right}
use Rattle.float_div.specs.Divide.{quotient_of}

pub rows : List Row
rows =
    -- normalised operands, truncated toward minus infinity
    plain 24 0x4000_0001 0x6000_0002 0x5555_55ff ∷ plain 24 0x4000_0001 0xa000_0002 0xaaaa_aaff ∷ plain 24 0x4000_0000 0x9fff_ff00 0xaaaa_ab00 ∷ plain 24 0x7fff_ff00 0x4000_0000 0x7fff_ff01
    ∷ plain 40 0x4000_0001_0000 0x6000_0002_0000 0x5555_55ff_5555 ∷ plain 40 0x4000_0001_0000 0xa000_0002_0000 0xaaaa_aaff_aaaa ∷ plain 40 0x4000_0000_0000 0x9fff_ff00_0000 0xaaaa_ab00_8e38
    -- 1.0; -0.5 is 8000 00 with n - 1, and with n = 80 underflows
    ∷ plain 24 0x8000_0000 0x8000_0000 0x4000_0001 ∷ plain 24 0x4000_0001 0x8000_0000 0x8000_0000 ∷ under 24 0x4000_0080 0x8000_0000 0 ∷ under 40 0x4000_0080_0000 0x8000_0000_0000 0
    -- -1.0: with n = 7F it overflows; -2.0 with n = 7E does not
    ∷ plain 24 0xa000_0001 0x6000_0000 0x8000_0001 ∷ over 24 0xa000_007f 0x6000_0000 0x8000_007f ∷ plain 24 0x8000_007e 0x4000_0000 0x8000_007f
    ∷ over 40 0xa000_007f_0000 0x6000_0000_0000 0x8000_007f_0000 ∷ plain 40 0x8000_007e_0000 0x4000_0000_0000 0x8000_007f_0000
    -- a zero divisor: by the sign of the dividend, and before any underflow
    ∷ over 24 0x4000_0001 0 0x7fff_ff7f ∷ over 24 0 0 0x7fff_ff7f ∷ over 24 0x8000_0001 0x0000_007f 0x8000_007f ∷ over 24 0x4000_0080 0x0000_007f 0x7fff_ff7f
    ∷ over 40 0 0 0x7fff_ff7f_ffff ∷ over 40 0x8000_0001_0000 0 0x8000_007f_0000
    -- n above 7F and below 80
    ∷ over 24 0x4000_007f 0x4000_00ff 0x7fff_ff7f ∷ over 24 0x4000_007f 0xa000_00ff 0x8000_007f ∷ under 24 0x4000_0080 0x4000_0001 0
    -- a zero dividend: in range, n above 7F, n below 80
    ∷ plain 24 0x0000_0003 0x6000_0001 0 ∷ over 24 0x0000_007f 0x6000_00ff 0x7fff_ff7f ∷ under 24 0x0000_0080 0x6000_0001 0 ∷ plain 40 0x0000_0003_0000 0xa000_0001_0000 0
    -- operands that are not normalised
    ∷ plain 24 0x4000_0000 0x0000_0100 0x4000_0017 ∷ over 24 0x4000_006a 0x0000_0100 0x7fff_ff7f ∷ plain 24 0xffff_ff00 0x0000_0300 0xaaaa_aaff ∷ plain 40 0xffff_ff00_ffff 0x0000_0000_0003 0xaaaa_aaff_aaaa ∷ []

pub rows-hold : T (all_of (right quotient_of) rows)
unfolding right rows signed wrap with_sign floor_div normal is_zero overflowed float_zero mantissa_at highest truncated signs_differ overflow_of quotient_of
rows-hold = tt
