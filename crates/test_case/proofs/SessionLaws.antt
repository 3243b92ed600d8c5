-- A byte that is kept of a line, or left out, as the session has it. Assumes nothing.
use Rattle.std.proofs.Common.{◌≡◌, ℕ, Bool, true, false, cond, List, [], ◌∷◌, ◌++◌, length, nat_lt, refl}
use Rattle.text.specs.FirstBytes.{kept}
use Rattle.test_case.specs.Session.{Session, with_byte}

-- a session with another line
abbrev pub with_line : Session → List ℕ → Session
with_line x l = record { line = l; lines = x.lines; cases = x.cases; started = x.started; present = x.present }

by_room : (room : Bool) (x : Session) (b : ℕ) → with_line x (cond room (x.line ++ (b ∷ [])) x.line) ≡ cond room (with_byte x b) x
unfolding with_byte
by_room true x b = refl
by_room false x b = refl

pub byte_kept : (x : Session) (b : ℕ) → with_line x (kept 12 x.line b) ≡ cond (nat_lt (length x.line) 12) (with_byte x b) x
unfolding kept
byte_kept x b = by_room (nat_lt (length x.line) 12) x b
