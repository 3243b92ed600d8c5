-- Two wrong answers of each contract that other crates call, each beside the right one, which the checker computes. Assumes nothing.
use Rattle.std.proofs.Common.{◌+◌, true, false, T, List, [], ◌∷◌}
use Rattle.choice.proofs.Rows.{Row, one, some, hold}
use Rattle.page.specs.Spans.{wrapped}
use Rattle.machine.specs.declared.Core.{Core}
use Rattle.machine.specs.State.{key_of, group_of, with_cs, with_ic, with_sw, with_pi, updated}
use Rattle.machine.proofs.Samples.{core_parts}

-- every part has a value of its own
abbrev core : Core
core = record { ic = 1; sw = 2; mk = 3; pi = 4; faults = record { ft = 5; mfs = 6 }; enabled = true; hold = false }

pub rows : List Row
unfolding wrapped key_of group_of with_cs with_ic with_sw with_pi
rows =
    -- key_of: AS; the reserved bits
    one (key_of 0x1234) 3 4 2
    -- group_of: PS; three bits of AS
    ∷ one (group_of 0x12CD) 0xD 0xC 5
    -- with_cs: the carry lost; PS set to 0
    ∷ one (with_cs 0x4A31 9) 0x9A31 0x1A31 0x9A01
    -- advance: no wrap after FFFF; IC kept at FFFF
    ∷ one (wrapped (0xFFFF + 2)) 1 0x10001 0xFFFF
    -- update: PI kept; FT cleared
    ∷ some (core_parts (updated core 0x0102 0x2031 0x0800))
    (0x0102 ∷ 0x2031 ∷ 3 ∷ 0x0800 ∷ 5 ∷ 6 ∷ 1 ∷ 0 ∷ [])
    (0x0102 ∷ 0x2031 ∷ 3 ∷ 4 ∷ 5 ∷ 6 ∷ 1 ∷ 0 ∷ [])
    (0x0102 ∷ 0x2031 ∷ 3 ∷ 0x0800 ∷ 0 ∷ 6 ∷ 1 ∷ 0 ∷ [])
    ∷ []

pub rows-hold : T (hold rows)
unfolding rows wrapped key_of group_of with_cs with_ic with_sw with_pi
rows-hold = tt
