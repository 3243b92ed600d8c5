-- Two wrong answers of each contract that other crates call, beside the right one, which the checker computes. Assumes nothing.
use Rattle.std.proofs.Common.{ℕ, true, false, T, List, [], ◌∷◌, ◌++◌, replicate, Err, Ok}
use Rattle.choice.proofs.Rows.{Row, some, hold, flag}
use Rattle.page.specs.declared.Refusal.{Refusal}
use Rattle.page.specs.Pages.{refusal}
use Rattle.machine.specs.declared.Core.{Core}
use Rattle.machine.specs.declared.Vector.{Vector}
use Rattle.machine.specs.Faults.{ft_alone}
use Rattle.machine.specs.Entries.{linked, link_stored, stored_after, arrived}
use Rattle.machine.proofs.Opened.{machinery}

-- interrupts 5 and 15 are pending
abbrev c : Core
c = record { ic = 3; sw = 2; mk = 1; pi = 0x0401; faults = record { ft = 0; mfs = 0xC005 }; enabled = true; hold = false }

-- the linkage pointer is 4
abbrev v : Vector
v = record { link = 4; mk = 7; sw = 8; ic = 9; fault = ft_alone 0 }

-- every page register is 0
abbrev g : List ℕ
g = replicate 512 0

-- six words, so that the third of the old words lies outside
abbrev memory : List ℕ
memory = replicate 6 0

-- FT and the status of a refusal
abbrev both : Refusal → List ℕ
both b = b.ft ∷ b.mfs ∷ []

-- IC, SW, MK, PI, FT, the memory fault status and interrupts enabled
abbrev shown : Core → List ℕ
shown t = t.ic ∷ t.sw ∷ t.mk ∷ t.pi ∷ t.faults.ft ∷ t.faults.mfs ∷ flag t.enabled ∷ []

pub rows : List Row
unfolding machinery
rows =
    -- link: two of the three words stored before the refusal; the refusal not told
    some (both (stored_after (ft_alone 0) (linked memory g v)) ++ link_stored c memory g v (linked memory g v))
    (0x0080 ∷ 8 ∷ 0 ∷ 0 ∷ 0 ∷ 0 ∷ 0 ∷ 0 ∷ []) (0x0080 ∷ 8 ∷ 0 ∷ 0 ∷ 0 ∷ 0 ∷ 1 ∷ 2 ∷ []) (0 ∷ 0 ∷ 0 ∷ 0 ∷ 0 ∷ 0 ∷ 0 ∷ 0 ∷ [])
    -- arrive: the PI bit of the interrupt kept; interrupts left enabled
    ∷ some (shown (arrived c 5 v (stored_after v.fault (Err (refusal 0x0080 0x1008)))))
    (9 ∷ 8 ∷ 7 ∷ 0x4001 ∷ 0x0080 ∷ 0x1008 ∷ 0 ∷ []) (9 ∷ 8 ∷ 7 ∷ 0x4401 ∷ 0x0080 ∷ 0x1008 ∷ 0 ∷ []) (9 ∷ 8 ∷ 7 ∷ 0x4001 ∷ 0x0080 ∷ 0x1008 ∷ 1 ∷ [])
    -- arrive: PI bit 1 set without a refusal; the memory fault status cleared
    ∷ some (shown (arrived c 5 v (stored_after v.fault (Ok tt))))
    (9 ∷ 8 ∷ 7 ∷ 0x0001 ∷ 0 ∷ 0xC005 ∷ 0 ∷ []) (9 ∷ 8 ∷ 7 ∷ 0x4001 ∷ 0 ∷ 0xC005 ∷ 0 ∷ []) (9 ∷ 8 ∷ 7 ∷ 0x0001 ∷ 0 ∷ 0 ∷ 0 ∷ [])
    ∷ []

pub rows-hold : T (hold rows)
unfolding rows machinery
rows-hold = tt
