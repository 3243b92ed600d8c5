-- Known images, as rows of one table that the checker computes: what is loaded, and each refusal. Assumes nothing.
use Prim.Native.Nat.{ℕ, zero, suc, ◌-◌, ◌/◌, ◌%◌}
use mathlib.Core.Bool.{Bool, true, false, ◌&&◌}
use mathlib.Core.List.{List, [], ◌∷◌, ◌++◌}
use lib.Dec.{T, eqb}
use lib.ListN.{length, replicate}
use Rattle.choice.proofs.Rows.{equal, all_of}
use Rattle.machine.specs.declared.State.{State}
use Rattle.machine.specs.Machine.{Machine, machine}
use Rattle.machine.proofs.Opened.{machinery}
use Rattle.machine.proofs.Samples.{groups, parts, same_machine}
use Rattle.image.specs.Image.{number_of, answer_of, after_loading}
use Rattle.image.proofs.Opened.{images}

-- ---- machines

-- a state and a machine in which nothing is as reset leaves it
abbrev used : State
used =
    record {
      regs = replicate 16 1;
      core = record { ic = 2; sw = 3; mk = 4; pi = 5; faults = record { ft = 6; mfs = 7 }; enabled = true; hold = true };
      clock = record { ta = 7; tb = 8; rema = 5; remb = 6; taon = false; tbon = false; count = 9 };
    }

abbrev pub given : ℕ → ℕ → ℕ → Machine
given memory pages ports = machine used (replicate memory 10) (replicate pages 16) (replicate ports 12)

-- ---- images

-- the bytes of a number
abbrev two : ℕ → List ℕ
two n = n / 256 ∷ n % 256 ∷ []

abbrev four : ℕ → List ℕ
four n = two (n / 65536) ++ two (n % 65536)

abbrev pub entry : ℕ → ℕ → ℕ → List ℕ
entry kind start n = two kind ++ (four start ++ four n)

abbrev bytes : List ℕ → List ℕ
bytes [] = []
bytes (w ∷ ws) = two w ++ bytes ws

-- the number of entries, the table and the words of the bodies
abbrev pub image : ℕ → List ℕ → List ℕ → List ℕ
image n table ws = two n ++ (table ++ bytes ws)

-- n entries of one word of memory, from word k on
abbrev singles : ℕ → ℕ → List ℕ
singles zero k = []
singles (suc n) k = entry 1 k 1 ++ singles n (suc k)

-- ---- rows

pub data Row : Type 0 where
  -- the size of the memory, an image, the first words of the memory after loading (the others are 0), those of the page registers (the others
  -- hold their page number), and the state
  loads : ℕ → List ℕ → List ℕ → List ℕ → List ℕ → Row
  -- the numbers of words, page registers and ports, an image: the number of the refusal, after which nothing is changed
  refuses : ℕ → ℕ → ℕ → List ℕ → ℕ → Row

unfoldable pub right : Row → Bool
unfolding machinery images
right (loads memory b ws ps s) =
    let x = after_loading b (given memory 512 1024) in
    eqb (number_of (answer_of b (given memory 512 1024))) 0
    && (equal x.memory (ws ++ replicate (memory - length ws) 0)
    && (equal x.pages (ps ++ groups (32 - length ps / 16))
    && (equal x.ports (replicate 1024 0)
    && equal (parts x.state) s)))
right (refuses memory pages ports b n) =
    let y = given memory pages ports in
    let x = after_loading b y in
    eqb (number_of (answer_of b y)) n && same_machine x y

-- the state after reset, but for the first sixteen registers given and IC, SW, MK, PI, FT
abbrev fresh : List ℕ → List ℕ → List ℕ
fresh regs control = regs ++ (control ++ (0 ∷ 0 ∷ 0 ∷ 0 ∷ 0 ∷ 0 ∷ 0 ∷ 1 ∷ 1 ∷ 0 ∷ []))

abbrev clear : List ℕ
clear = fresh (replicate 16 0) (replicate 5 0)

pub loadings : List Row
loadings =
    -- the Scope's example
    loads 16384 (0x00 ∷ 0x01 ∷ 0x00 ∷ 0x01 ∷ 0x00 ∷ 0x00 ∷ 0x00 ∷ 0x00 ∷ 0x00 ∷ 0x00 ∷ 0x00 ∷ 0x02 ∷ 0x82 ∷ 0x3F ∷ 0x79 ∷ 0x00 ∷ []) (0x823F ∷ 0x7900 ∷ []) [] clear
    -- no bytes, and no entries: reset
    ∷ loads 4096 [] [] [] clear
    ∷ loads 4096 (0 ∷ 0 ∷ []) [] [] clear
    -- 64 entries
    ∷ loads 4096 (image 64 (singles 64 0) (replicate 64 0xABCD)) (replicate 64 0xABCD) [] clear
    -- each kind to its last word, the same places in several kinds
    ∷ loads 4096 (image 4 (entry 1 4095 1 ++ (entry 2 496 16 ++ (entry 3 0 16 ++ entry 4 0 5))) (1 ∷ replicate 16 2 ++ (replicate 16 3 ++ (4 ∷ 5 ∷ 6 ∷ 7 ∷ 8 ∷ []))))
    (replicate 4095 0 ++ (1 ∷ [])) (groups 31 ++ replicate 16 2) (fresh (replicate 16 3) (4 ∷ 5 ∷ 6 ∷ 7 ∷ 8 ∷ []))
    -- adjacent entries, the later first; SW and MK alone, R15 alone, page register 1 alone
    ∷ loads 4096 (image 5 (entry 1 2 2 ++ (entry 1 0 2 ++ (entry 4 1 2 ++ (entry 3 15 1 ++ entry 2 1 1)))) (1 ∷ 2 ∷ 3 ∷ 4 ∷ 5 ∷ 6 ∷ 7 ∷ 8 ∷ []))
    (3 ∷ 4 ∷ 1 ∷ 2 ∷ []) (0 ∷ 8 ∷ 2 ∷ 3 ∷ 4 ∷ 5 ∷ 6 ∷ 7 ∷ 8 ∷ 9 ∷ 10 ∷ 11 ∷ 12 ∷ 13 ∷ 14 ∷ 15 ∷ []) (fresh (replicate 15 0 ++ (7 ∷ [])) (0 ∷ 5 ∷ 6 ∷ 0 ∷ 0 ∷ []))
    ∷ []

-- a whole image of one word
abbrev one : List ℕ
one = image 1 (entry 1 0 1) (7 ∷ [])

pub refusals : List Row
refusals =
    refuses 0 512 1024 one 1
    ∷ refuses 4097 512 1024 one 1
    ∷ refuses 2048 511 1023 [] 1
    ∷ refuses 4095 512 1024 [] 1
    ∷ refuses 4096 511 1023 [] 2
    ∷ refuses 4096 513 1024 one 2
    ∷ refuses 4096 512 1023 [] 3
    ∷ refuses 4096 512 1025 one 3
    ∷ refuses 4096 512 1024 (0 ∷ []) 6
    ∷ refuses 4096 512 1024 (255 ∷ []) 6
    ∷ refuses 4096 512 1024 (0 ∷ 1 ∷ []) 8
    ∷ refuses 4096 512 1024 (0 ∷ 65 ∷ []) 7
    ∷ refuses 4096 512 1024 (1 ∷ 0 ∷ []) 7
    ∷ refuses 4096 512 1024 (0 ∷ 64 ∷ []) 8
    ∷ refuses 4096 512 1024 (two 2 ++ (entry 5 0 1 ++ (0 ∷ 1 ∷ 0 ∷ 0 ∷ 0 ∷ 0 ∷ 0 ∷ 0 ∷ 0 ∷ []))) 8
    ∷ refuses 4096 512 1024 (image 1 (entry 0 0 1) (7 ∷ [])) 9
    ∷ refuses 4096 512 1024 (image 1 (entry 5 0 0) (7 ∷ [])) 9
    ∷ refuses 4096 512 1024 (image 1 (entry 0x0100 0 1) (7 ∷ [])) 9
    ∷ refuses 4096 512 1024 (image 1 (entry 1 0 0) []) 10
    ∷ refuses 4096 512 1024 (image 1 (entry 1 4096 1) (7 ∷ [])) 10
    ∷ refuses 4096 512 1024 (image 1 (entry 1 4095 2) (7 ∷ 8 ∷ [])) 10
    ∷ refuses 4096 512 1024 (image 1 (entry 1 0xFFFFFFFF 1) (7 ∷ [])) 10
    ∷ refuses 4096 512 1024 (image 1 (entry 1 0xFFFFFFFF 0xFFFFFFFF) (7 ∷ [])) 10
    ∷ refuses 4096 512 1024 (image 1 (entry 2 512 1) (7 ∷ [])) 10
    ∷ refuses 4096 512 1024 (image 1 (entry 3 16 1) (7 ∷ [])) 10
    ∷ refuses 4096 512 1024 (image 1 (entry 4 4 2) (7 ∷ 8 ∷ [])) 10
    -- a word shared with the entry before, and with one further back, from either side and within
    ∷ refuses 4096 512 1024 (image 2 (entry 1 0 2 ++ entry 1 1 1) (7 ∷ 8 ∷ 9 ∷ [])) 11
    ∷ refuses 4096 512 1024 (image 2 (entry 4 1 1 ++ entry 4 0 2) (7 ∷ 8 ∷ 9 ∷ [])) 11
    ∷ refuses 4096 512 1024 (image 3 (entry 3 4 4 ++ (entry 3 0 4 ++ entry 3 5 1)) []) 11
    -- entry by entry: the first entry's question 11 comes before the next one's 9, and all of them before 12
    ∷ refuses 4096 512 1024 (image 3 (entry 2 9 1 ++ (entry 2 9 1 ++ entry 5 0 1)) []) 11
    ∷ refuses 4096 512 1024 (image 2 (entry 1 0 0 ++ entry 5 0 1) []) 10
    ∷ refuses 4096 512 1024 (one ++ (0 ∷ [])) 12
    ∷ refuses 4096 512 1024 (image 1 (entry 1 0 2) (7 ∷ [])) 12
    ∷ refuses 4096 512 1024 (image 1 (entry 1 0 1) [] ++ (7 ∷ [])) 12
    ∷ refuses 4096 512 1024 (0 ∷ 0 ∷ 0 ∷ []) 12
    ∷ []

pub rows : List Row
rows = loadings ++ refusals

pub rows-hold : T (all_of right rows)
unfolding right rows loadings refusals
rows-hold = tt
