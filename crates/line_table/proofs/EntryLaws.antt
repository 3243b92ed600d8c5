-- The table's entries: each is that of the box which claims its first word, and every box has one; what an entry tells of its box. Assumes nothing.
use Prim.Native.Nat.{ℕ, zero, suc, ◌+◌, ◌*◌, ◌-◌, ◌/◌, ◌%◌, ◌≤◌, ◌<◌}
use mathlib.Core.Path.{◌≡◌, refl, sym, ap, subst, ◌∙◌}
use mathlib.Core.Bool.{Bool, true, false, cond, ◌&&◌, false≢true}
use mathlib.Core.List.{List, [], ◌∷◌, ◌++◌, map}
use mathlib.Core.Option.{Option as Box, none, some}
use Rattle.std.proofs.Common.{Option, None, Some}
use native.Mathlib.Omega.{arith}
use lib.Dec.{eqb, leb, ltb}
use lib.ListN.{length}
use borrow.Author.Tests.{leb-true, eq-eqb, ne_eqb, eqb-true, eqb-false, lt-ltb, le-ltb, ltb-true}
use Rattle.choice.specs.Search.{found}
use Rattle.choice.proofs.Rows.{all_of}
use Rattle.choice.proofs.TestLaws.{split, both, all_but}
use Rattle.choice.proofs.SearchLaws.{found_all}
use Rattle.text.specs.Texts.{bytes_of}
use Rattle.decode.specs.Pages.{Line, pages}
use Rattle.decode.specs.Decode.{claims}
use Rattle.line_operand.specs.declared.Place.TheVariants.{Second}
use Rattle.line_operand.specs.Numerals.{lacks}
use Rattle.line_operand.specs.Shapes.{meets, covers, shapes, shape_of}
use Rattle.line_operand.specs.Operands.{Parsed, omitted, piece, sep_after, tail, hidden, optional, sum_after, rest_after, reads}
use Rattle.line_table.specs.Boxes.{same_text, named, claims_word, box_of, box_named, base_of}
use Rattle.line_table.specs.declared.Entry.{Entry}
use Rattle.line_table.specs.Entries.{filled, three, entry, entry_in, entry_of, letter, letters, shapes_in, word_at, Has}
use Rattle.line_table.proofs.NameLaws.{same_true, renamed}
use Rattle.line_table.proofs.BoxLaws.{named-name, claimed-named, named-claimed}

pub none-some : {A : Type 0} {e : Entry} → ◌≡◌ {A = Option Entry} None (Some e) → A
none-some {A} {e} p = let z : ◌≡◌ {A = ℕ} 0 1 = cc in absurd (let y : ⊥ = omega arith in y)

pub some-some : {e f : Entry} → ◌≡◌ {A = Option Entry} (Some e) (Some f) → e ≡ f
some-some {e} {f} p = cc

-- ---- tests of a box's entry

-- a list of operands with 0 behind it, up to n
unfoldable pub padded : ℕ → List ℕ → List ℕ
padded zero os = os
padded (suc n) [] = 0 ∷ padded n []
padded (suc n) (o ∷ os) = o ∷ padded n os

-- the place of a first word in the table
unfoldable place_for : ℕ → ℕ
place_for w = cond (eqb (w / 256 / 4) 16) (256 + w / 16 % 16) (cond (eqb (w / 256) 0x4A) (272 + w % 16) (cond (eqb w 0xFFFF) 288 (w / 256)))

-- whether the entry tells the box's mnemonic and operands, and is in the table
unfoldable kept : Line → Bool
kept l =
    (same_text (letters (filled (bytes_of l.name))) (bytes_of l.name) && same_text (three l.operands) (padded 3 l.operands))
    && (leb (length (bytes_of l.name)) 4 && (claims_word (base_of l) l && (ltb (place_for (base_of l)) 289 && eqb (word_at (place_for (base_of l))) (base_of l))))

all-kept : all_of kept pages ≡ true
unfolding kept place_for padded pages bytes_of same_text filled three letter letters word_at
all-kept = refl

pub record Kept (l : Line) : Type 0 where
  pub name-is : letters (filled (bytes_of l.name)) ≡ bytes_of l.name
  pub operands-is : three l.operands ≡ padded 3 l.operands
  pub short : length (bytes_of l.name) ≤ 4
  pub own : claims_word (base_of l) l ≡ true
  pub place : (k : ℕ) × (k < 289) × (word_at k ≡ base_of l)

kept-true : (l : Line) → kept l ≡ true → Kept l
unfolding kept
kept-true l t =
    let a = both (same_text (letters (filled (bytes_of l.name))) (bytes_of l.name) && same_text (three l.operands) (padded 3 l.operands)) _ t in
    let b = both (same_text (letters (filled (bytes_of l.name))) (bytes_of l.name)) _ a.0 in
    let f = both (leb (length (bytes_of l.name)) 4) _ a.1 in
    let g = both (claims_word (base_of l) l) _ f.1 in
    let h = both (ltb (place_for (base_of l)) 289) _ g.1 in
    record {
      name-is = same_true _ _ b.0;
      operands-is = same_true _ _ b.1;
      short = leb-true _ _ f.0;
      own = g.0;
      place = (place_for (base_of l), ltb-true _ _ h.0, eqb-true _ _ h.1);
    }

pub claimed-kept : (w : ℕ) (l : Line) → box_of w ≡ some l → Kept l
unfolding box_of
claimed-kept w l e = kept-true l (rw e at (found_all (claims_word w) kept pages all-kept))

pub named-kept : (t : List ℕ) (l : Line) → box_named t ≡ some l → Kept l
unfolding box_named
named-kept t l e = kept-true l (rw e at (found_all (named t) kept pages all-kept))

-- ---- the entry of a first word, by its opcode

-- whether two entries are the same
unfoldable same_entry : Option Entry → Option Entry → Bool
same_entry None None = true
same_entry None (Some f) = false
same_entry (Some e) None = false
same_entry (Some e) (Some f) = same_text e.name f.name && (same_text e.operands f.operands && eqb e.base f.base)

same-entry : (e f : Option Entry) → same_entry e f ≡ true → e ≡ f
unfolding same_entry
same-entry None None t = refl
same-entry None (Some f) t = absurd (false≢true t)
same-entry (Some e) None t = absurd (false≢true t)
same-entry (Some e) (Some f) t =
    let a = both (same_text e.name f.name) _ t in
    let b = both (same_text e.operands f.operands) (eqb e.base f.base) a.1 in
    let p = same_true _ _ a.0 in
    let q = same_true _ _ b.0 in
    let r = eqb-true _ _ b.1 in
    λ i. Some (record { name = p i; operands = q i; base = r i })

entry_at : ℕ → ℕ → ℕ → Option Entry
entry_at op x y = entry_in (found (claims op x y) pages)

-- by the opcode alone but under 40 to 43, 4A and FF: computed at each opcode, for all bits after it at once
unfoldable by_opcode : ℕ → ℕ → ℕ → Option Entry
by_opcode op x y = cond (eqb (op / 4) 16) (entry_at 0x40 x 0) (cond (eqb op 0x4A) (entry_at 0x4A 0 y) (cond (eqb op 0xFF) (entry_at 0xFF x y) (entry_at op 0 0)))

agree : (op x y : ℕ) → op < 256 → entry_at op x y ≡ by_opcode op x y
unfolding entry_at by_opcode pages entry_in entry filled three bytes_of same_entry same_text
agree op x y h =
    all_but (λ (k : ℕ). entry_at k x y ≡ by_opcode k x y) (λ (k : ℕ). same_entry (entry_at k x y) (by_opcode k x y))
    (0x40 ∷ 0x41 ∷ 0x42 ∷ 0x43 ∷ 0x4A ∷ 0xFF ∷ []) 256 (refl, (refl, (refl, (refl, (refl, (refl, tt)))))) (λ k. same-entry _ _) refl op h

by-opcode : (w : ℕ) → w < 65536 → entry_of w ≡ by_opcode (w / 256) (w / 16 % 16) (w % 16)
unfolding entry_of box_of entry_at
by-opcode w h = agree (w / 256) (w / 16 % 16) (w % 16) (omega arith)

-- the entries at the table's places
at-opcode : (op : ℕ) → op < 256 → (op / 4 ≡ 16 → ⊥) → (op ≡ 0x4A → ⊥) → (op ≡ 0xFF → ⊥) → entry_of (word_at op) ≡ entry_at op 0 0
unfolding word_at by_opcode
at-opcode op h a b c =
    let i : 256 * op / 256 ≡ op = omega arith in
    let j : 256 * op / 16 % 16 ≡ 0 = omega arith in
    let k : 256 * op % 16 ≡ 0 = omega arith in
    rw (lt-ltb op 256 h) (by-opcode (256 * op) (omega arith) ∙ rw (i, j, k, ne_eqb (op / 4) 16 a, ne_eqb op 0x4A b, ne_eqb op 0xFF c) refl)

at-40 : (x : ℕ) → x < 16 → entry_of (word_at (256 + x)) ≡ entry_at 0x40 x 0
unfolding word_at by_opcode
at-40 x h =
    let z : 256 + x - 256 ≡ x = omega arith in
    let i : (16384 + 16 * x) / 256 ≡ 64 = omega arith in
    let j : (16384 + 16 * x) / 16 % 16 ≡ x = omega arith in
    rw (le-ltb (256 + x) 256 (omega arith), lt-ltb (256 + x) 272 (omega arith), z) (by-opcode (16384 + 16 * x) (omega arith) ∙ rw (i, j) refl)

at-4a : (y : ℕ) → y < 16 → entry_of (word_at (272 + y)) ≡ entry_at 0x4A 0 y
unfolding word_at by_opcode
at-4a y h =
    let z : 272 + y - 272 ≡ y = omega arith in
    let i : (18944 + y) / 256 ≡ 74 = omega arith in
    let k : (18944 + y) % 16 ≡ y = omega arith in
    rw (le-ltb (272 + y) 256 (omega arith), le-ltb (272 + y) 272 (omega arith), lt-ltb (272 + y) 288 (omega arith), z)
    (by-opcode (18944 + y) (omega arith) ∙ rw (i, k) refl)

-- no other word than FF00 and FFFF under FF
none-ff : (x y : ℕ) → eqb x 0 && eqb y 0 ≡ false → eqb x 15 && eqb y 15 ≡ false → entry_at 0xFF x y ≡ None
unfolding entry_at pages entry_in
none-ff x y a b = rw (a, b) refl

module _ (w : ℕ) (h : w < 65536) where
  pub under-40 : w / 256 / 4 ≡ 16 → entry_of (word_at (256 + w / 16 % 16)) ≡ entry_of w
  unfolding by_opcode
  under-40 e = at-40 (w / 16 % 16) (omega arith) ∙ sym (by-opcode w h ∙ rw (eq-eqb _ _ e) refl)

  pub under-4a : w / 256 ≡ 0x4A → entry_of (word_at (272 + w % 16)) ≡ entry_of w
  unfolding by_opcode
  under-4a e = at-4a (w % 16) (omega arith) ∙ sym (by-opcode w h ∙ rw e refl)

  pub under-ff : 65280 ≤ w → (w ≡ 0xFF00 → ⊥) → (w ≡ 0xFFFF → ⊥) → None ≡ entry_of w
  unfolding by_opcode
  under-ff g a b =
      let e : w / 256 ≡ 255 = omega arith in
      sym (by-opcode w h ∙ rw e (none-ff (w / 16 % 16) (w % 16) (apart 0 (λ p q. a (omega arith))) (apart 15 (λ p q. b (omega arith)))))
    where
      apart : (n : ℕ) → (w / 16 % 16 ≡ n → w % 16 ≡ n → ⊥) → eqb (w / 16 % 16) n && eqb (w % 16) n ≡ false
      apart n f =
          split (eqb (w / 16 % 16) n)
          (λ p. rw p (ne_eqb _ _ (f (eqb-true _ _ p))))
          (λ p. rw p refl)

  pub by_itself : (w / 256 / 4 ≡ 16 → ⊥) → (w / 256 ≡ 0x4A → ⊥) → (w / 256 ≡ 0xFF → ⊥) → entry_of (word_at (w / 256)) ≡ entry_of w
  unfolding by_opcode
  by_itself a b c =
      at-opcode (w / 256) (omega arith) a b c
      ∙ sym (by-opcode w h ∙ rw (ne_eqb (w / 256 / 4) 16 a, ne_eqb (w / 256) 0x4A b, ne_eqb (w / 256) 0xFF c) refl)

-- ---- the entry of a name

-- none of the first n places has an entry with the name
abbrev pub Passed : List ℕ → ℕ → Type 0
Passed name n = (k : ℕ) → k < n → Has name (entry_of (word_at k)) → ⊥

pub passed-none : (name : List ℕ) → Passed name 0
passed-none name k h = let z : ⊥ = omega arith in absurd z

pub passed_on : (name : List ℕ) (n : ℕ) → Passed name n → (Has name (entry_of (word_at n)) → ⊥) → Passed name (n + 1)
passed_on name n p q k h = split (eqb k n) (λ e. rw (eqb-true k n e) q) (λ e. p k (omega (arith, eqb-false k n e)))

module _ (t : List ℕ) where
  pub too_long : 4 < length t → None ≡ entry_in (box_named t)
  unfolding entry_in
  too_long h = of (box_named t) refl
    where
      of : (o : Box Line) → box_named t ≡ o → None ≡ entry_in (box_named t)
      of none e = rw e refl
      of (some l) e = let z : ⊥ = omega (arith, (named-kept t l e).short, ap length (named-name t l e)) in absurd z

  -- no entry has the name (`by_name` looks in the list of a first letter alone: LetterLaws)
  pub not_named : Passed (filled t) 289 → None ≡ entry_in (box_named t)
  unfolding entry_in entry_of entry
  not_named p = of (box_named t) refl
    where
      of : (o : Box Line) → box_named t ≡ o → None ≡ entry_in (box_named t)
      of none e = rw e refl
      of (some l) e =
          let k = named-kept t l e in
          let b : entry_of (word_at k.place.0) ≡ Some (entry l) = ap entry_of k.place.2 ∙ ap entry_in (named-claimed t l (base_of l) e k.own) in
          absurd (p k.place.0 k.place.1 (rw b (ap filled (named-name t l e))))

  -- an entry with the name is that of the box with the name
  pub named_here : lacks 32 t ≡ true → length t ≤ 4 → (k : ℕ) (name : List ℕ) → Has name (entry_of (word_at k)) → name ≡ filled t
      → entry_of (word_at k) ≡ entry_in (box_named t)
  unfolding entry_in entry_of entry
  named_here whole short k name has same = of (box_of (word_at k)) refl
    where
      of : (o : Box Line) → box_of (word_at k) ≡ o → entry_of (word_at k) ≡ entry_in (box_named t)
      of none d = let n : Has name None = subst (Has name) (ap entry_in d) has in absurd n
      of (some l) d =
          let y : entry_of (word_at k) ≡ Some (entry l) = ap entry_in d in
          let h : filled (bytes_of l.name) ≡ name = subst (Has name) y has in
          let n : bytes_of l.name ≡ t = sym (claimed-kept (word_at k) l d).name-is ∙ ap letters (h ∙ same) ∙ renamed t whole short in
          y ∙ ap entry_in (sym (ap box_named (sym n) ∙ claimed-named (word_at k) l d))

-- ---- the shapes of an entry's operands: operands that there are not change nothing

pub tail-padded : (n : ℕ) (os : List ℕ) (sep m : ℕ) → tail sep (map shape_of (padded n os)) m ≡ tail sep (map shape_of os) m
unfolding padded tail piece sep_after omitted shape_of shapes
tail-padded zero os sep m = refl
tail-padded (suc n) [] sep m = tail-padded n [] sep m
tail-padded (suc n) (o ∷ os) sep m = ap (λ t. piece (shape_of o) sep m ++ t) (tail-padded n os (sep_after (shape_of o) sep m) m)

nothing-taken : (a : Parsed) (t : List ℕ) → (sum_after (shape_of 0) a t ≡ a) × (rest_after (shape_of 0).kind t ≡ t)
unfolding sum_after rest_after hidden optional shape_of shapes
nothing-taken a [] = (refl, refl)
nothing-taken a (x ∷ t) = (refl, refl)

pub reads-padded : (n : ℕ) (os : List ℕ) (a : Parsed) (t : List ℕ) → reads a (map shape_of (padded n os)) t ≡ reads a (map shape_of os) t
unfolding padded reads
reads-padded zero os a t = refl
reads-padded (suc n) [] a t =
    let u = nothing-taken a t in
    ap (λ b. reads b (map shape_of (padded n [])) (rest_after (shape_of 0).kind t)) u.0
    ∙ ap (λ r. reads a (map shape_of (padded n [])) r) u.1
    ∙ reads-padded n [] a t
reads-padded (suc n) (o ∷ os) a t = reads-padded n os (sum_after (shape_of o) a t) (rest_after (shape_of o).kind t)

pub covers-padded : (n : ℕ) (os : List ℕ) → covers (map shape_of (padded n os)) Second ≡ covers (map shape_of os) Second
unfolding padded covers meets shape_of shapes
covers-padded zero os = refl
covers-padded (suc n) [] = covers-padded n []
covers-padded (suc n) (o ∷ os) = split (meets (shape_of o).place Second) (λ e. rw e refl) (λ e. rw e (covers-padded n os))

-- the shapes that the code takes from an entry, which has a box's operands with 0 behind them
pub shapes-three : (l : Line) → three l.operands ≡ padded 3 l.operands → shapes_in (entry l) ≡ map shape_of (padded 3 l.operands)
unfolding shapes_in entry three
shapes-three l e = ap (map shape_of) e

pub shapes-padded : (l : Line) → Kept l → shapes_in (entry l) ≡ map shape_of (padded 3 l.operands)
shapes-padded l k = shapes-three l k.operands-is
