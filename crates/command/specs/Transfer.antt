-- What a privileged operation comes to, from what its code hands back and leaves in the lists that it is lent. Assumes nothing.
use Rattle.std.specs.Prelude.{ℕ, ◌≡◌, List, Err, Ok, Result}
use Rattle.page.specs.declared.Refusal.{Refusal}
use Rattle.machine.specs.declared.Core.{Core}
use Rattle.machine.specs.declared.State.{State}
use Rattle.machine.specs.State.{joined, with_processor}
use Rattle.machine.specs.Machine.{Supervised, done, refused}

-- from the state s, with the registers r, the page registers g and the ports o afterwards
unfoldable pub governed : State → Result Core Refusal → List ℕ → List ℕ → List ℕ → Supervised
governed s (Ok c) r g o = done (record { state = with_processor s (joined c r); pages = g; ports = o })
governed s (Err b) r g o = refused b

-- a refused command leaves the list x: afterwards it is y
unfoldable pub Kept : Result Core Refusal → List ℕ → List ℕ → Type 0
Kept (Ok c) x y = Unit {0}
Kept (Err b) x y = x ≡ y
