-- The fields of an instruction's first word, and the registers that they name. Assumes nothing.
use Rattle.std.specs.Prelude.{ℕ, ◌+◌, ◌-◌, ◌/◌, ◌%◌, cond, List, [], ◌∷◌, eqb, ltb, get_or, set}
use Rattle.page.specs.Spans.{wrapped}

-- bits 8 to 11: RA, a bit number, a count less one, a condition
unfoldable pub field_a : ℕ → ℕ
field_a w = w / 16 % 16

-- bits 12 to 15: RB, RX, a constant less one
unfoldable pub field_b : ℕ → ℕ
field_b w = w % 16

-- bits 6 and 7 name one of R12 to R15 (4.2.3)
unfoldable pub base_register : ℕ → ℕ
base_register w = 12 + w / 256 % 4

-- bits 8 to 15: a displacement from 0 to 255 (4.3.9)
unfoldable pub displacement : ℕ → ℕ
displacement w = w % 256

-- the same from -128 to 127, modulo 65,536 (4.3.8)
unfoldable pub signed_displacement : ℕ → ℕ
signed_displacement w = cond (ltb (w % 256) 128) (w % 256) (65280 + w % 256)

-- register n; register numbers wrap from 15 to 0 (4.4.1)
unfoldable pub register : List ℕ → ℕ → ℕ
register regs n = get_or regs (n % 16) 0

-- the registers with v in register n
unfoldable pub with_register : List ℕ → ℕ → ℕ → List ℕ
with_register regs n v = set regs (n % 16) v

-- the registers with values in register n and those after it
unfoldable pub with_registers : List ℕ → ℕ → List ℕ → List ℕ
with_registers regs n [] = regs
with_registers regs n (v ∷ vs) = with_registers (with_register regs n v) (n + 1) vs

-- the number of registers from a on to b, wrapping (5.44, 5.54)
unfoldable pub registers_from : ℕ → ℕ → ℕ
registers_from a b = (16 + b - a) % 16 + 1

-- a plus register x; R0 never indexes (4.3.3)
unfoldable pub indexed : List ℕ → ℕ → ℕ → ℕ
indexed regs x a = cond (eqb x 0) a (wrapped (a + register regs x))
