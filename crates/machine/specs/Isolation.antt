-- Two machines compared (the Scope's section of that name; property 3): what is assumed of them, and what is found after a list of runs.
-- Of the section's sentences, these are elsewhere: what a key may fetch, read or write, where a register missing from a short list lets nothing
-- through, is `May` of the crate `page`; an entry is `is_entry` in Step; that each run gets what the one before left, and an
-- answer, are `after_runs` and `answers` in Runs; the steps over the whole list and the first entry are those of its timeline (`timeline`, `first_entry` in Runs, `entry_in` in
-- Timelines). Assumes nothing.
use Rattle.std.specs.Prelude.{ℕ, ◌≡◌, ◌≢◌, List, get_or, length}
use Rattle.std.proofs.Math.Option.{none}
use Rattle.page.specs.declared.Access.TheVariants.{Write}
use Rattle.page.specs.Pages.{May, MaySee}
use Rattle.machine.specs.State.{key_of, group_of}
use Rattle.machine.specs.Machine.{Machine, Isa}
use Rattle.machine.specs.Runs.{Run, answers, after_runs, first_entry, before_entry}

-- alike (the Scope's term): every part of the state, all page registers and all ports are equal, and the memories are of one size
pub record Alike (x y : Machine) : Type 0 where
  pub state : x.state ≡ y.state
  pub pages : x.pages ≡ y.pages
  pub ports : x.ports ≡ y.ports
  pub size : length x.memory ≡ length y.memory

-- the running key and address state (the Scope's terms) are PS and AS at the start
abbrev pub key : Machine → ℕ
key x = key_of x.state.core.sw

abbrev pub group : Machine → ℕ
group x = group_of x.state.core.sw

-- the words that the key of x may fetch or read are equal in y and z
abbrev pub SameWhereSeen : Machine → Machine → Machine → Type 0
SameWhereSeen x y z = (p : ℕ) → MaySee (key x) (group x) x.pages p → get_or y.memory p 0 ≡ get_or z.memory p 0

-- the words that the key of x may not write are equal in y and z
abbrev pub SameWhereUnwritable : Machine → Machine → Machine → Type 0
SameWhereUnwritable x y z = (p : ℕ) → ¬ (May Write (key x) (group x) x.pages p) → get_or y.memory p 0 ≡ get_or z.memory p 0

-- the pairs from which property 3 starts: any that are alike, with a key other than 0, and with words that differ only where that key may neither
-- fetch nor read. Nothing is asked of the lengths of memory, page registers and ports: with wrong ones every run is refused
pub record Compared (x y : Machine) : Type 0 where
  pub alike : Alike x y
  pub keyed : key x ≢ 0
  pub seen : SameWhereSeen x x y

-- what is found of x' and y', to which x and y have come: they are alike; the words that the key may fetch or read are equal;
-- in each the words that it may not write are as they were; so are the page registers, the key and the address state
pub record Found (x y x' y' : Machine) : Type 0 where
  pub alike : Alike x' y'
  pub seen : SameWhereSeen x x' y'
  pub first-kept : SameWhereUnwritable x x' x
  pub second-kept : SameWhereUnwritable x y' y
  pub pages-kept : x'.pages ≡ x.pages
  pub key-kept : key x' ≡ key x
  pub group-kept : group x' ≡ group x

-- the findings of a list of runs: the same answers, run by run, and the above of what the runs leave
pub record Findings (isa : Isa) (rs : List Run) (x y : Machine) : Type 0 where
  pub replies : answers isa rs x ≡ answers isa rs y
  pub found : Found x y (after_runs isa rs x) (after_runs isa rs y)

-- one claim about a list of runs
pub record Isolated (isa : Isa) (rs : List Run) (x y : Machine) : Type 0 where
  -- the first entry is at the same step of the list in both, or in neither
  pub entry : first_entry isa rs x ≡ first_entry isa rs y
  -- where no entry occurs, the findings hold of the whole list
  pub whole : first_entry isa rs x ≡ none → Findings isa rs x y
  -- where one occurs, it does so in the same run of both, and the findings hold of the runs before that one
  pub runs : before_entry isa rs x ≡ before_entry isa rs y
  pub before : Findings isa (before_entry isa rs x) x y

-- two lists of unequal budgets whose timelines are equal, so that the durations are equal "step by step where the budgets differ", leave the same findings, answers aside
pub record IsolatedApart (isa : Isa) (rs qs : List Run) (x y : Machine) : Type 0 where
  pub entry : first_entry isa rs x ≡ first_entry isa qs y
  pub found : first_entry isa rs x ≡ none → Found x y (after_runs isa rs x) (after_runs isa qs y)
