-- Loading an image (Scope, "Image" and "Questions at the door"). An image b is the list of its bytes. Assumes nothing.
use Rattle.std.specs.Prelude.{ℕ, zero, suc, ◌+◌, ◌*◌, ◌<◌, ◌⊎◌, Bool, false, not, cond, ◌&&◌, ◌||◌, List, [], ◌∷◌, ◌≡◌, Result, Ok, Err, MatchResult, ⊤, is_ok, eqb, leb, ltb, length, get_or}
use Rattle.std.proofs.lemmas.List.Edits.{sets}
use Rattle.machine.specs.declared.State.{State}
use Rattle.machine.specs.declared.Core.{Core}
use Rattle.machine.specs.State.{with_regs, with_core, with_ic, with_sw, with_mk, with_pi, with_ft}
use Rattle.machine.specs.Machine.{Machine, machine, Became}
use Rattle.machine.specs.Runs.{size_number, asked, asked_all, sizes_answer, answer_in, state_in}
use Rattle.image.specs.declared.Entry.{Entry}
use Rattle.image.specs.declared.Target.{Target}
use Rattle.image.specs.declared.Target.TheVariants.{Memory, Pages, Registers, Control}
use Rattle.image.specs.declared.LoadError.{LoadError}
use Rattle.image.specs.declared.LoadError.TheVariants.{BadSize, NoCount, ManyEntries, ShortTable, BadKind, BadRange, SharedWord, BadBodies}
use Rattle.reset.specs.Reset.{reset_machine}

-- ---- the parts of an image, most significant byte first

-- a word of two bytes, from byte i on
unfoldable pub word_at : List ℕ → ℕ → ℕ
word_at b i = 256 * get_or b i 0 + get_or b (i + 1) 0

-- a number of four bytes, from byte i on
unfoldable pub long_at : List ℕ → ℕ → ℕ
long_at b i = 65536 * word_at b i + word_at b (i + 2)

-- whether there are no bytes
unfoldable pub is_empty : List ℕ → Bool
is_empty b = eqb (length b) 0

-- the number of entries
unfoldable pub count_of : List ℕ → ℕ
count_of b = word_at b 0

-- entry k, the first being 0: its kind (2 bytes), start (4) and length in words (4)
unfoldable pub entry_at : List ℕ → ℕ → Entry
entry_at b k = record { kind = word_at b (2 + 10 * k); start = long_at b (4 + 10 * k); words = long_at b (8 + 10 * k) }

-- the words of the first k bodies
unfoldable pub words_before : List ℕ → ℕ → ℕ
words_before b zero = 0
words_before b (suc k) = words_before b k + (entry_at b k).words

-- the byte after the table
unfoldable pub table_end : List ℕ → ℕ
table_end b = 2 + 10 * count_of b

-- the byte at which body k starts: the bodies follow the table, in the same order, two bytes a word
unfoldable pub body_at : List ℕ → ℕ → ℕ
body_at b k = table_end b + 2 * words_before b k

-- n words from byte i on
unfoldable pub words_from : List ℕ → ℕ → ℕ → List ℕ
words_from b i zero = []
words_from b i (suc n) = word_at b i ∷ words_from b (i + 2) n

-- ---- the questions, in their order

-- the answer to loading: the image is loaded, or what the first question answered by "no" was about
abbrev pub Answer : Type 0
Answer = Result ⊤ LoadError

-- the Scope's number of an answer; 0: the image is loaded
abbrev pub number_of : Answer → ℕ
number_of (Ok u) = 0
number_of (Err (BadSize e)) = size_number e
number_of (Err NoCount) = 6
number_of (Err ManyEntries) = 7
number_of (Err ShortTable) = 8
number_of (Err BadKind) = 9
number_of (Err BadRange) = 10
number_of (Err SharedWord) = 11
number_of (Err BadBodies) = 12

-- several questions: on to the rest unless one of them was answered by "no"
unfoldable pub unless_refused : Answer → Answer → Answer
unless_refused (Ok u) rest = rest
unless_refused (Err e) rest = Err e

-- the kind of a target, and what is known of the target that is found for a kind: there is none for those below 1 and above 4
abbrev pub kind_of : Target → ℕ
kind_of Memory = 1
kind_of Pages = 2
kind_of Registers = 3
kind_of Control = 4

abbrev pub Aims : ℕ → Result Target LoadError → Type 0
Aims kind r = MatchResult r (λ t. kind_of t ≡ kind) (λ e. (e ≡ BadKind) × ((kind < 1) ⊎ (4 < kind)))

-- the words of the target of a kind: memory of the given size, page registers, R0 to R15, or the five words of kind 4
unfoldable pub target_size : ℕ → ℕ → ℕ
target_size memory kind = cond (eqb kind 1) memory (cond (eqb kind 2) 512 (cond (eqb kind 3) 16 5))

-- the word after those that an entry fills
unfoldable pub end_of : Entry → ℕ
end_of e = e.start + e.words

-- whether two entries share a word: they are of one kind, and each starts before the other ends
unfoldable pub share : Entry → Entry → Bool
share e f = eqb e.kind f.kind && (ltb e.start (end_of f) && ltb f.start (end_of e))

-- whether an entry shares a word with one of the first k
unfoldable pub shares_earlier : List ℕ → Entry → ℕ → Bool
shares_earlier b e zero = false
shares_earlier b e (suc k) = share e (entry_at b k) || shares_earlier b e k

module _ (memory : ℕ) (b : List ℕ) where
  -- the questions to entry k
  unfoldable pub entry_answer : ℕ → Answer
  entry_answer k =
      let e = entry_at b k in
      asked (leb 1 e.kind && leb e.kind 4) BadKind
      (asked (leb 1 e.words && leb (end_of e) (target_size memory e.kind)) BadRange
      (asked (not (shares_earlier b e k)) SharedWord
      (Ok tt)))

  -- those to n entries, of which the first has the number k
  unfoldable pub entries_answer : ℕ → ℕ → Answer
  entries_answer zero k = Ok tt
  entries_answer (suc n) k = unless_refused (entry_answer k) (entries_answer n (suc k))

  -- those to a table and its bodies
  unfoldable pub table_answer : Answer
  table_answer =
      asked (leb (count_of b) 64) ManyEntries
      (asked (leb (table_end b) (length b)) ShortTable
      (unless_refused (entries_answer (count_of b) 0)
      (asked (eqb (length b) (body_at b (count_of b))) BadBodies
      (Ok tt))))

  -- those to an image: are there no bytes, or at least two? Where there are none, no more is asked (change request 1)
  unfoldable pub image_answer : Answer
  image_answer = asked (is_empty b || leb 2 (length b)) NoCount (cond (is_empty b) (Ok tt) table_answer)

-- all of them, from the numbers of words, page registers and ports
unfoldable pub admission : List ℕ → ℕ → ℕ → ℕ → Answer
admission b memory pages ports =
    asked_all BadSize (sizes_answer memory pages ports) (image_answer memory b)

unfoldable pub answer_of : List ℕ → Machine → Answer
answer_of b x = admission b (length x.memory) (length x.pages) (length x.ports)

-- ---- the bodies

-- the words of kind 4, and the core with others
unfoldable pub control_of : Core → List ℕ
control_of c = c.ic ∷ c.sw ∷ c.mk ∷ c.pi ∷ c.faults.ft ∷ []

unfoldable pub with_control : Core → List ℕ → Core
with_control c ws = with_ft (with_pi (with_mk (with_sw (with_ic c (get_or ws 0 0)) (get_or ws 1 0)) (get_or ws 2 0)) (get_or ws 3 0)) (get_or ws 4 0)

-- the machine x after the words ws are written from word i of the target of a kind on
unfoldable pub with_words : ℕ → ℕ → List ℕ → Machine → Machine
with_words kind i ws x =
    cond (eqb kind 1) (machine x.state (sets x.memory i ws) x.pages x.ports)
    (cond (eqb kind 2) (machine x.state x.memory (sets x.pages i ws) x.ports)
    (cond (eqb kind 3) (machine (with_regs x.state (sets x.state.regs i ws)) x.memory x.pages x.ports)
    (machine (with_core x.state (with_control x.state.core (sets (control_of x.state.core) i ws))) x.memory x.pages x.ports)))

module _ (b : List ℕ) where
  -- after the body of entry k is written
  unfoldable pub with_body : ℕ → Machine → Machine
  with_body k x = let e = entry_at b k in with_words e.kind e.start (words_from b (body_at b k) e.words) x

  -- after n bodies are written, of which the first has the number k
  unfoldable pub with_bodies : ℕ → ℕ → Machine → Machine
  with_bodies zero k x = x
  with_bodies (suc n) k x = with_bodies n (suc k) (with_body k x)

  -- ---- loading

  -- reset, by the numbers of words, page registers and ports, then the bodies, where there are bytes
  unfoldable pub loaded : ℕ → ℕ → ℕ → Machine
  loaded memory pages ports = let x = reset_machine memory pages ports in cond (is_empty b) x (with_bodies (count_of b) 0 x)

  -- what loading leaves: a refusal changes nothing
  unfoldable pub after_loading : Machine → Machine
  after_loading x = cond (is_ok (answer_of b x)) (loaded (length x.memory) (length x.pages) (length x.ports)) x

  -- all that loading on the machine x hands back and leaves: a refusal hands back no state, and its caller has the given one
  pub record Outcome (x : Machine) (r : Result State LoadError) (memory pages ports : List ℕ) : Type 0 where
    pub answer-is : answer_in r ≡ answer_of b x
    pub became : Became (after_loading x) (state_in r x.state) memory pages ports
