-- Reset of a machine (Scope, "The machine"); the state after it is `reset_state` of the machine. Assumes nothing.
use Rattle.std.specs.Prelude.{ℕ, ◌%◌, List, replicate}
use Rattle.choice.specs.Table.{table_of}
use Rattle.machine.specs.State.{reset_state}
use Rattle.machine.specs.Machine.{Machine, machine}

-- n words, each its number modulo a period
unfoldable pub cycle : ℕ → ℕ → List ℕ
cycle period n = table_of (λ k. k % period) 0 n

-- every page register holds its page number, with lock 0 and no protection: sixteen registers make a group
unfoldable pub reset_pages : ℕ → List ℕ
reset_pages n = cycle 16 n

-- a machine after reset, by the numbers of its words, page registers and ports: words and ports are 0
unfoldable pub reset_machine : ℕ → ℕ → ℕ → Machine
reset_machine memory pages ports = machine reset_state (replicate memory 0) (reset_pages pages) (replicate ports 0)
