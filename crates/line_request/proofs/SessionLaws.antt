-- A byte that is kept of a line, or left out, as the session has it. Assumes nothing.
use Rattle.std.proofs.Common.{◌≡◌, ℕ, ◌+◌, Bool, true, false, cond, List, [], ◌∷◌, ◌++◌, length, nat_lt, refl, length-append}
use Rattle.text.specs.FirstBytes.{kept}
use Rattle.line_request.specs.Session.{session, with_byte}

by_room : (room : Bool) (l : List ℕ) (b n : ℕ)
    → session (cond room (l ++ (b ∷ [])) l) (length (cond room (l ++ (b ∷ [])) l)) n ≡ cond room (session (l ++ (b ∷ [])) (length l + 1) n) (session l (length l) n)
by_room true l b n = rw length-append refl
by_room false l b n = refl

pub byte_kept : (l : List ℕ) (b n : ℕ) → session (kept 65537 l b) (length (kept 65537 l b)) n ≡ with_byte (session l (length l) n) b
unfolding kept with_byte
byte_kept l b n = by_room (nat_lt (length l) 65537) l b n
