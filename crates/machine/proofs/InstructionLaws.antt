-- What an instruction sees of two memories is the same where they agree in all that the key may fetch or read; and with a key other than 0
-- nothing privileged is done. Nothing is asked of the instruction set. Assumes nothing.
use Rattle.std.proofs.Common.{Result, Ok, Err}
use Prim.Native.Nat.{ℕ}
use Rattle.page.specs.declared.Refusal.{Refusal}
use mathlib.Core.Path.{◌≡◌, refl}
use mathlib.Core.Bool.{Bool, true, false}
use mathlib.Core.List.{List}
use mathlib.Core.Logic.{inl, inr}
use lib.Dec.{T, eqb→eq}
use lib.ListN.{length}
use Rattle.page.specs.declared.Access.{Access}
use Rattle.page.specs.declared.Access.TheVariants.{Fetch, Read}
use Rattle.page.specs.declared.Span.{Span}
use Rattle.page.specs.Pages.{lookup, MaySee}
use Rattle.machine.specs.declared.Denial.{Denial}
use Rattle.machine.specs.declared.State.{State}
use Rattle.machine.specs.declared.Core.{Core}
use Rattle.machine.specs.declared.Instruction.{Instruction}
use Rattle.machine.specs.declared.Class.{Class}
use Rattle.machine.specs.declared.Class.TheVariants.{User, Supervisor, Executive}
use Rattle.machine.specs.State.{Processor, processor, key_of, group_of}
use Rattle.machine.specs.Machine.{Isa, System, Supervised, done, refused}
use Rattle.decode.specs.Forms.{operation_of}
use Rattle.machine.specs.Instructions.{Action, enter, call, fail, affect, govern, View, view, permitted, ready_at, redirected, derived, extended, granted, decoded, fetched, prepared, supervised, operated, accessed, carried, instructed}
use Rattle.page.proofs.ReachLaws.{OnPlace, on_place-map, lookup-may}
use Rattle.machine.proofs.SameLaws.{Same, got_same, words_same}

-- ---- two memories

-- a place that is fetched or read is one that the key may see
seen-place : (key group : ℕ) (g : List ℕ) (size a : ℕ)
    → (OnPlace (MaySee key group g) (lookup Fetch key group g size a)) × (OnPlace (MaySee key group g) (lookup Read key group g size a))
seen-place key group g size a = (
  on_place-map _ _ (λ p h. inl h) (lookup Fetch key group g size a) (lookup-may Fetch key group g size a),
  on_place-map _ _ (λ p h. inr h) (lookup Read key group g size a) (lookup-may Read key group g size a),
)

-- two views are the same where all that they show is
view-ext : (v w : View) → ((a : ℕ) → v.fetch a ≡ w.fetch a) → ((a : ℕ) → v.read a ≡ w.read a)
    → ((k : Access) (p : Span) → v.check k p ≡ w.check k p) → ((p : Span) → v.words p ≡ w.words p) → v ≡ w
view-ext v w f r c ws = λ i. record { fetch = λ a. f a i; read = λ a. r a i; check = λ k p. c k p i; words = λ p. ws p i }

pub view-same : (c : Core) (m₁ m₂ g : List ℕ) → Same (MaySee (key_of c.sw) (group_of c.sw) g) m₁ m₂ → view c m₁ g ≡ view c m₂ g
view-same c m₁ m₂ g h =
    let key : ℕ = key_of c.sw in
    let group : ℕ = group_of c.sw in
    let n : ℕ = length m₂ in
    let S : ℕ → Type 0 = MaySee key group g in
    rw h.size (view-ext _ _
    (λ a. got_same S m₁ m₂ h _ (seen-place key group g n a).0)
    (λ a. got_same S m₁ m₂ h _ (seen-place key group g n a).1)
    (λ k p. refl)
    (λ p. words_same _ _ g n p S m₁ m₂ h (λ a. (seen-place key group g n a).1)))

-- ---- privilege: what a privileged operation leaves has Q, if it has Q with key 0

abbrev pub OnDone : (System → Type 0) → Supervised → Type 0
OnDone Q (done r) = Q r
OnDone Q (refused b) = Unit {0}

abbrev pub Governed : (System → Type 0) → Action → Type 0
Governed Q (enter n) = Unit {0}
Governed Q (call n) = Unit {0}
Governed Q (fail b a) = Unit {0}
Governed Q (affect e p) = Unit {0}
Governed Q (govern r) = Q r

-- an instruction that is ready is permitted
abbrev Allowed : Isa → Processor → Result Instruction Denial → Type 0
Allowed isa p (Ok i) = T (permitted (isa.class (operation_of i.form)) (key_of p.core.sw))
Allowed isa p (Err d) = Unit {0}

module _ (isa : Isa) (p : Processor) (v : View) (f w : ℕ) (t : T (permitted (isa.class (operation_of f)) (key_of p.core.sw))) where
  redirected-allowed : (x : ℕ) (q : Result ℕ Refusal) → Allowed isa p (redirected p.core f w x q)
  unfolding redirected ready_at
  redirected-allowed x (Ok a) = t
  redirected-allowed x (Err b) = tt

  derived-allowed : (x : ℕ) (b : Bool) → Allowed isa p (derived isa p v f w x b)
  unfolding derived ready_at
  derived-allowed x false = t
  derived-allowed x true = redirected-allowed x _

  extended-allowed : (q : Result ℕ Refusal) → Allowed isa p (extended isa p v f w q)
  unfolding extended
  extended-allowed (Ok x) = derived-allowed x _
  extended-allowed (Err b) = tt

module _ (isa : Isa) (p : Processor) (v : View) where
  granted-allowed : (f w : ℕ) (b l : Bool) → (T b → T (permitted (isa.class (operation_of f)) (key_of p.core.sw))) → Allowed isa p (granted isa p v f w b l)
  unfolding granted
  granted-allowed f w false l t = tt
  granted-allowed f w true false t = derived-allowed isa p v f w (t tt) 0 _
  granted-allowed f w true true t = extended-allowed isa p v f w (t tt) _

  decoded-allowed : (f w : ℕ) (b : Bool) → Allowed isa p (decoded isa p v f w b)
  unfolding decoded
  decoded-allowed f w true = tt
  decoded-allowed f w false = granted-allowed f w _ _ (λ t. t)

  fetched-allowed : (q : Result ℕ Refusal) → Allowed isa p (fetched isa p v q)
  unfolding fetched
  fetched-allowed (Ok w) = decoded-allowed (isa.decode w) w _
  fetched-allowed (Err b) = tt

module _ (isa : Isa) (s : State) (v : View) (g o : List ℕ) (Q : System → Type 0)
    (h : key_of s.core.sw ≡ 0 → (i : Instruction) (ws : List ℕ) → OnDone Q (isa.supervise s g o i ws)) where
  supervised-governed : (i : Instruction) (u : Supervised) → OnDone Q u → Governed Q (supervised i u)
  unfolding supervised
  supervised-governed i (done r) d = d
  supervised-governed i (refused b) d = tt

  operated-governed : (c : Class) → T (permitted c (key_of s.core.sw)) → (i : Instruction) (ws : List ℕ) → Governed Q (operated isa s g o c i ws)
  unfolding operated permitted
  operated-governed User t i ws = tt
  operated-governed Supervisor t i ws = supervised-governed i _ (h (eqb→eq (key_of s.core.sw) 0 t) i ws)
  operated-governed Executive t i ws = tt

  accessed-governed : (i : Instruction) → T (permitted (isa.class (operation_of i.form)) (key_of s.core.sw)) → (c : Result (Unit {0}) Refusal) → Governed Q (accessed isa s g o v i c)
  unfolding accessed
  accessed-governed i t (Err b) = tt
  accessed-governed i t (Ok u) = operated-governed (isa.class (operation_of i.form)) t i _

  carried-governed : (p : Result Instruction Denial) → Allowed isa (processor s) p → Governed Q (carried isa s g o v p)
  unfolding carried
  carried-governed (Err d) t = tt
  carried-governed (Ok i) t = accessed-governed i t _

  pub instructed-governed : Governed Q (instructed isa s g o v)
  unfolding instructed prepared
  instructed-governed = carried-governed _ (fetched-allowed isa (processor s) v _)
