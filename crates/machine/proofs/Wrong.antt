-- Two wrong answers of each contract that other crates call, each beside the right one, which the checker computes. Assumes nothing.
use Prim.Native.Nat.{ℕ}
use mathlib.Core.List.{List, [], ◌∷◌}
use lib.Dec.{T}
use Rattle.choice.proofs.Rows.{Row, some, hold, flag}
use Rattle.page.specs.declared.Refusal.{Refusal}
use Rattle.page.specs.Pages.{refusal}
use Rattle.machine.specs.declared.Faults.{Faults}
use Rattle.machine.specs.Faults.{ft_alone, followed, recorded}
use Rattle.std.specs.Prelude.{Ok}
use Rattle.machine.specs.declared.SizeError.TheVariants.{BadMemory, BadPages, BadPorts}
use Rattle.machine.specs.declared.RunError.TheVariants.{BadSize}
use Rattle.machine.specs.Runs.{size_number, number_of, whole_pages, asked, asked_all, sizes_answer}

-- FT and the status, of a refusal and of the registers
abbrev both : Refusal → List ℕ
both b = b.ft ∷ b.mfs ∷ []

abbrev held : Faults → List ℕ
held f = f.ft ∷ f.mfs ∷ []

-- FT bits 8 and 9, and a status
abbrev before : Faults
before = record { ft = 0x00C0; mfs = 0xC005 }

-- the number of the answer to the questions about sizes
abbrev sized : ℕ → ℕ → ℕ → ℕ
sized memory pages ports = number_of (asked_all BadSize (sizes_answer memory pages ports) (Ok tt))

pub rows : List Row
unfolding size_number number_of whole_pages asked asked_all sizes_answer followed recorded
rows =
    -- check_sizes: no words and half a page are whole pages; the largest memory, of 1,048,576 words, is not
    some (flag (whole_pages 0) ∷ flag (whole_pages 2048) ∷ flag (whole_pages 4096) ∷ flag (whole_pages 1048576) ∷ flag (whole_pages 1052672) ∷ [])
    (0 ∷ 0 ∷ 1 ∷ 1 ∷ 0 ∷ []) (1 ∷ 1 ∷ 1 ∷ 1 ∷ 0 ∷ []) (0 ∷ 0 ∷ 1 ∷ 0 ∷ 0 ∷ [])
    -- check_sizes: the page registers are asked for before the memory; 1,023 ports are accepted
    ∷ some (sized 4095 511 1023 ∷ sized 4096 511 1023 ∷ sized 4096 512 1023 ∷ sized 4096 512 1024 ∷ []) (1 ∷ 2 ∷ 3 ∷ 0 ∷ []) (2 ∷ 2 ∷ 3 ∷ 0 ∷ []) (1 ∷ 2 ∷ 0 ∷ 0 ∷ [])
    -- number: page registers are 3, and ports are 2; the memory is 0, as a budget that is spent
    ∷ some (size_number BadMemory ∷ size_number BadPages ∷ size_number BadPorts ∷ []) (1 ∷ 2 ∷ 3 ∷ []) (1 ∷ 3 ∷ 2 ∷ []) (0 ∷ 2 ∷ 3 ∷ [])
    -- fault::follow: the status of the first refusal; the FT bit of the last alone
    ∷ some (both (followed (refusal 0x0080 0x4000) (refusal 0x8000 0x1003))) (0x8080 ∷ 0x1003 ∷ []) (0x8080 ∷ 0x4000 ∷ []) (0x8000 ∷ 0x1003 ∷ [])
    -- fault::after_fault: the status kept where the FT bit was set already; FT bit 9 lost
    ∷ some (held (recorded before (refusal 0x0080 0x3015))) (0x00C0 ∷ 0x3015 ∷ []) (0x00C0 ∷ 0xC005 ∷ []) (0x0080 ∷ 0x3015 ∷ [])
    -- fault::after_fault: the status cleared by an illegal command; FT bit 5 not set
    ∷ some (held (recorded before (ft_alone 0x0400))) (0x04C0 ∷ 0xC005 ∷ []) (0x04C0 ∷ 0x0000 ∷ []) (0x00C0 ∷ 0xC005 ∷ [])
    ∷ []

pub rows-hold : T (hold rows)
unfolding rows size_number number_of whole_pages asked asked_all sizes_answer followed recorded
rows-hold = tt
