-- Timelines: what a machine goes through, one item after another. A list of runs has one (Runs), and what property 3 finds after a list depends on its timeline
-- alone. Assumes nothing.
use Rattle.std.specs.Prelude.{ℕ, ◌+◌, cond, List, [], ◌∷◌}
use Rattle.std.proofs.Math.Option.{Option, none, some}
use Rattle.machine.specs.Machine.{Machine, Isa}
use Rattle.machine.specs.Step.{is_entry, action, step}

-- an item: one step, made with a list of durations
pub data Item : Type 0 where
  stepped : List ℕ → Item

-- a step of a timeline is the number of steps before it; where there is one, it comes n steps later
unfoldable pub steps_later : ℕ → Option ℕ → Option ℕ
steps_later n none = none
steps_later n (some k) = some (n + k)

module _ (isa : Isa) where
  -- the machine after all items, in their order
  unfoldable pub play : List Item → Machine → Machine
  play [] x = x
  play (stepped d ∷ t) x = play t (step isa d x)

  -- the first entry (the Scope's term: `is_entry` in Step); "steps are counted over the whole list"
  unfoldable pub entry_in : List Item → Machine → Option ℕ
  entry_in [] x = none
  entry_in (stepped d ∷ t) x = cond (is_entry (action isa x)) (some 0) (steps_later 1 (entry_in t (step isa d x)))
