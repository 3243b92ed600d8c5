-- Faults: what a step hands on of them, and what they leave in FT and in the memory fault status (4.4.2.8; change request 4). Assumes nothing.
use Rattle.std.specs.Prelude.{ℕ, cond, eqb}
use Rattle.std.specs.Int.Bits.{bit_and, bit_or}
use Rattle.page.specs.declared.Refusal.{Refusal}
use Rattle.page.specs.Pages.{refusal}
use Rattle.machine.specs.declared.Faults.{Faults}

-- a fault that no lookup gave, by its FT bit alone: it has no status
abbrev pub ft_alone : ℕ → Refusal
ft_alone b = refusal b 0

-- of refusals in a row: the FT bits of all, the status of the last
unfoldable pub followed : Refusal → Refusal → Refusal
followed r b = refusal (bit_or r.ft b.ft) b.mfs

-- the fault registers after a fault: FT gets its bits. The status becomes the fault's where a lookup refused, also where FT had the bit before: FT bits 0 and 8 (8080) are
-- the lookup's alone. Any other fault leaves it
unfoldable pub recorded : Faults → Refusal → Faults
recorded f b = record { ft = bit_or f.ft b.ft; mfs = cond (eqb (bit_and b.ft 0x8080) 0) f.mfs b.mfs }
