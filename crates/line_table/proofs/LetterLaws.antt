-- The code's list of mnemonics: each has the place of its entry, and every box of section 5 is in the part of its first letter, computed at each of both. Assumes nothing.
use Prim.Native.Nat.{ℕ, zero, suc, ◌+◌, ◌-◌, ◌≤◌, ◌<◌}
use mathlib.Core.Path.{◌≡◌, refl, ap, subst, ◌∙◌}
use mathlib.Core.Bool.{Bool, true, false, cond, ◌&&◌, ◌||◌, false≢true}
use mathlib.Core.List.{List, [], ◌∷◌}
use mathlib.Core.Option.{Option as Box, none, some}
use Rattle.std.proofs.Common.{Option, None, Some, take, drop, slice_index_or}
use native.Mathlib.Omega.{arith}
use lib.Dec.{eqb, leb, ltb}
use lib.ListN.{length, get_or}
use borrow.Author.Tests.{eq-eqb, leb-true, ltb-true}
use Rattle.choice.proofs.Rows.{all_of}
use Rattle.choice.proofs.TestLaws.{both, either, each, passes}
use Rattle.choice.proofs.SearchLaws.{found_all}
use Rattle.text.specs.Texts.{bytes_of}
use Rattle.decode.specs.Pages.{Line, pages}
use Rattle.line_table.specs.declared.Entry.{Entry}
use Rattle.line_table.specs.declared.names.TheConstants.{BEGINNINGS, NAMES}
use Rattle.line_table.specs.Boxes.{same_text, named, box_of, box_named}
use Rattle.line_table.specs.Entries.{filled, three, entry, entry_in, entry_of, word_at, Has, Listed}
use Rattle.line_table.proofs.NameLaws.{same_true}
use Rattle.line_table.proofs.BoxLaws.{named-name}

abbrev Listing : Type 0
Listing = List (List ℕ × ℕ)

-- the first byte of a box's mnemonic
abbrev initial : Line → ℕ
initial l = get_or (bytes_of l.name) 0 32

-- ---- tests of a list of names

unfoldable pub has : List ℕ → Option Entry → Bool
has name None = false
has name (Some e) = same_text e.name name

has-true : (name : List ℕ) (o : Option Entry) → has name o ≡ true → Has name o
unfolding has
has-true name None t = absurd (false≢true t)
has-true name (Some e) t = same_true e.name name t

-- whether a name stands at a place of the table where an entry has it
unfoldable pub placed : List ℕ × ℕ → Bool
placed n = ltb n.1 289 && has n.0 (entry_of (word_at n.1))

-- whether a name is in the list
unfoldable pub holds : List ℕ → Listing → Bool
holds name [] = false
holds name (n ∷ ns) = same_text n.0 name || holds name ns

-- whether a box's mnemonic is in the list where it begins with x
unfoldable pub found_in : ℕ → Listing → Line → Bool
found_in x ns l = cond (eqb (initial l) x) (holds (filled (bytes_of l.name)) ns) true

unfoldable pub lists : ℕ → Listing → Bool
lists x ns = all_of placed ns && all_of (found_in x ns) pages

-- ---- what they tell

held-at : (name : List ℕ) (ns : Listing) → holds name ns ≡ true → (i : ℕ) × (i < length ns) × ((get_or ns i ([], 0)).0 ≡ name)
unfolding holds
held-at name [] t = absurd (false≢true t)
held-at name (n ∷ ns) t =
    either (same_text n.0 name) (holds name ns)
    (λ u. (0, omega arith, same_true n.0 name u))
    (λ u. let r = held-at name ns u in (suc r.0, omega (arith, r.1), r.2))
    t

all-at : (f : List ℕ × ℕ → Bool) (ns : Listing) → all_of f ns ≡ true → (i : ℕ) → i < length ns → f (get_or ns i ([], 0)) ≡ true
all-at f [] t i h = let z : ⊥ = omega arith in absurd z
all-at f (n ∷ ns) t zero h = (both (f n) (all_of f ns) t).0
all-at f (n ∷ ns) t (suc i) h = all-at f ns (both (f n) (all_of f ns) t).1 i (omega arith)

placed-true : (n : List ℕ × ℕ) → placed n ≡ true → (n.1 < 289) × Has n.0 (entry_of (word_at n.1))
unfolding placed
placed-true n t =
    let u = both (ltb n.1 289) (has n.0 (entry_of (word_at n.1))) t in
    (ltb-true _ _ u.0, has-true _ _ u.1)

-- what is tested of each box
all-named : (f : Line → Bool) → all_of f pages ≡ true → (t : List ℕ) (l : Line) → box_named t ≡ some l → f l ≡ true
unfolding box_named
all-named f a t l e = rw e at (found_all (named t) f pages a)

found-held : (x : ℕ) (ns : Listing) (l : Line) → initial l ≡ x → found_in x ns l ≡ true → holds (filled (bytes_of l.name)) ns ≡ true
unfolding found_in
found-held x ns l e t = rw (eq-eqb _ _ e) at t

pub listed : (x : ℕ) (ns : Listing) → lists x ns ≡ true → Listed x ns
unfolding lists
listed x ns t =
    let u = both (all_of placed ns) (all_of (found_in x ns) pages) t in
    record {
      right = λ i h. placed-true _ (all-at placed ns u.0 i h);
      every = λ s l e f.
          let n = named-name s l e in
          let r = held-at _ ns (found-held x ns l (ap (λ b. get_or b 0 32) n ∙ f) (all-named (found_in x ns) u.1 s l e)) in
          (r.0, r.1, r.2 ∙ ap filled n);
    }

-- ---- the code's list, in parts by the letters from A to Z

abbrev begins : ℕ → ℕ
begins k = slice_index_or BEGINNINGS k 0

abbrev part : ℕ → Listing
part k = take (begins (k + 1) - begins k) (drop (begins k) NAMES)

-- whether a part lies in the list and is that of its letter
unfoldable in_order : ℕ → Bool
in_order k = leb (begins k) (begins (k + 1)) && leb (begins (k + 1)) 195

all-in_order : each in_order 26 ≡ true
unfolding in_order
all-in_order = refl

all-parts : each (λ k. lists (65 + k) (part k)) 26 ≡ true
unfolding lists placed has holds found_in same_text pages bytes_of filled three entry entry_in entry_of box_of word_at
all-parts = refl

pub part-in : (k : ℕ) → k < 26 → (begins k ≤ begins (k + 1)) × (begins (k + 1) ≤ 195)
unfolding in_order
part-in k h =
    let u = both (leb (begins k) (begins (k + 1))) (leb (begins (k + 1)) 195) (passes in_order 26 all-in_order k h) in
    (leb-true _ _ u.0, leb-true _ _ u.1)

pub part-listed : (x : ℕ) → 65 ≤ x → x ≤ 90 → Listed x (part (x - 65))
part-listed x h i =
    let e : 65 + (x - 65) ≡ x = omega arith in
    subst (λ y. Listed y (part (x - 65))) e (listed (65 + (x - 65)) (part (x - 65)) (passes (λ k. lists (65 + k) (part k)) 26 all-parts (x - 65) (omega arith)))

-- each mnemonic begins with one of them
unfoldable lettered : Line → Bool
lettered l = leb 65 (initial l) && leb (initial l) 90

all-lettered : all_of lettered pages ≡ true
unfolding lettered pages bytes_of
all-lettered = refl

pub unlettered : (x : ℕ) → (65 ≤ x → x ≤ 90 → ⊥) → Listed x []
unfolding lettered
unlettered x n =
    record {
      right = λ i h. let z : ⊥ = omega arith in absurd z;
      every = λ t l e f.
          let g : initial l ≡ x = ap (λ b. get_or b 0 32) (named-name t l e) ∙ f in
          let u = both (leb 65 (initial l)) (leb (initial l) 90) (all-named lettered all-lettered t l e) in
          absurd (n (subst (λ y. 65 ≤ y) g (leb-true _ _ u.0)) (subst (λ y. y ≤ 90) g (leb-true _ _ u.1)));
    }

-- ---- a name that is not in the list of its letter

module _ (t : List ℕ) (ns : Listing) where
  pub not_named : Listed (get_or t 0 32) ns → ((i : ℕ) → i < length ns → (get_or ns i ([], 0)).0 ≡ filled t → ⊥) → None ≡ entry_in (box_named t)
  unfolding entry_in
  not_named a n = of (box_named t) refl
    where
      of : (o : Box Line) → box_named t ≡ o → None ≡ entry_in (box_named t)
      of none e = rw e refl
      of (some l) e = let r = a.every t l e refl in absurd (n r.0 r.1 r.2)
