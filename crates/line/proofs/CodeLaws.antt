-- What the code's calls put together: the line that is printed, the words that are read. Assumes nothing.
use Prim.Native.Nat.{ℕ, ◌+◌, ◌*◌, ◌≤◌, ◌<◌}
use mathlib.Core.Path.{◌≡◌, refl, sym, ap, ◌∙◌}
use mathlib.Core.Bool.{Bool, true, false, false≢true}
use mathlib.Core.List.{List, [], ◌∷◌, ◌++◌, append_assoc, append-nil}
use mathlib.Core.Option.{Option as Box, none, some}
use native.Mathlib.Omega.{arith}
use native.Mathlib.Numerals.{add-one}
use lib.ListN.{length, get_or, drop, drop_of_length-le}
use lib.Seq.{drop-cons}
use Rattle.std.proofs.Common.{Option, None, Some, Ok, Err}
use Rattle.text.specs.Texts.{blank, bytes_of, Text}
use Rattle.decode.specs.Pages.{Line}
use Rattle.line_operand.specs.declared.Shape.{Shape}
use Rattle.line_operand.specs.declared.OperandError.TheVariants.{Malformed}
use Rattle.line_operand.specs.declared.Place.TheVariants.{Second}
use Rattle.line_operand.specs.Numerals.{before, onward, lacks}
use Rattle.line_operand.specs.Shapes.{covers}
use Rattle.line_operand.specs.Operands.{Parsed, piece, sep_after, tail, sum_after, rest_after, finished, reads}
use Rattle.line_operand.proofs.NumeralLaws.{before-lacks}
use Rattle.line_table.specs.declared.Entry.{Entry}
use Rattle.line_table.specs.Boxes.{same_text, box_of, box_named, base_of, shapes_of}
use Rattle.line_table.specs.Entries.{entry, entry_in, entry_of, letters, shapes_in}
use Rattle.line_table.proofs.BoxLaws.{claimed-sound}
use Rattle.line_table.proofs.EntryLaws.{none-some, some-some, claimed-kept, named-kept, tail-padded, reads-padded, covers-padded, shapes-padded}
use Rattle.line.specs.declared.LineError.TheVariants.{UnknownMnemonic, BadOperands}
use Rattle.line.specs.Lines.{line_by, line_of, printed, text_of, refusal_of, words_from, read_by, read_line, Shows}

-- ---- a line printed

text-some : (t u : List ℕ) → same_text t [] ≡ false → text_of (t ++ u) ≡ Some (t ++ u)
unfolding text_of same_text
text-some [] u n = absurd (false≢true (sym n))
text-some (b ∷ t) u n = refl

module _ (w v : ℕ) where
  -- no entry
  pub none-printed : entry_of w ≡ None → line_of w v ≡ []
  unfolding line_of line_by entry_of entry_in
  none-printed z = of (box_of w) refl
    where
      of : (o : Box Line) → box_of w ≡ o → line_by (box_of w) (w + 65536 * v) ≡ []
      of none b = rw b refl
      of (some l) b = none-some (sym z ∙ ap entry_in b)

  -- the name and the operands of an entry
  pub some-printed : (e : Entry) → entry_of w ≡ Some e → text_of (line_of w v) ≡ Some (letters e.name ++ tail blank (shapes_in e) (w + 65536 * v))
  unfolding line_of line_by entry_of entry_in entry
  some-printed e z = of (box_of w) refl
    where
      of : (o : Box Line) → box_of w ≡ o → text_of (line_by (box_of w) (w + 65536 * v)) ≡ Some (letters e.name ++ tail blank (shapes_in e) (w + 65536 * v))
      of none b = none-some (sym (ap entry_in b) ∙ z)
      of (some l) b =
          let k = claimed-kept w l b in
          let i : entry l ≡ e = some-some (sym (ap entry_in b) ∙ z) in
          let p : bytes_of l.name ++ tail blank (shapes_of l) (w + 65536 * v) ≡ letters e.name ++ tail blank (shapes_in e) (w + 65536 * v) =
          rw (← i, k.name-is, shapes-padded l k, tail-padded 3 l.operands blank (w + 65536 * v)) refl in
          rw b (text-some (bytes_of l.name) _ (claimed-sound w l b).some-name ∙ ap (λ t. Some t) p)

-- a text that is shown
pub shows-some : (text was is : List ℕ) (t : List ℕ) (r : ℕ) → text_of text ≡ Some t → Text was t is r → Shows text was is (Some r)
unfolding text_of printed
shows-some [] was is t r e s = none-text e
  where
    none-text : {A : Type 0} → ◌≡◌ {A = Option (List ℕ)} None (Some t) → A
    none-text {A} p = let z : ◌≡◌ {A = ℕ} 0 1 = cc in absurd (let y : ⊥ = omega arith in y)
shows-some (b ∷ l) was is t r e s =
    let q : (b ∷ l) ≡ t = same e in
    record { answer = rw (s.end, ← q) refl; bytes = s.is ∙ rw (s.end, ← q) refl }
  where
    same : ◌≡◌ {A = Option (List ℕ)} (Some (b ∷ l)) (Some t) → (b ∷ l) ≡ t
    same p = cc

pub shows-none : (text was : List ℕ) → text_of text ≡ None → Shows text was was None
unfolding text_of printed
shows-none [] was e = record { answer = refl; bytes = refl }
shows-none (b ∷ l) was e = none-text (sym e)
  where
    none-text : {A : Type 0} → ◌≡◌ {A = Option (List ℕ)} None (Some (b ∷ l)) → A
    none-text {A} p = let z : ◌≡◌ {A = ℕ} 0 1 = cc in absurd (let y : ⊥ = omega arith in y)

-- ---- a line read

module _ (l : List ℕ) where
  pub name-lacks : lacks 32 (before 32 l) ≡ true
  name-lacks = before-lacks 32 l

  pub read_none : entry_in (box_named (before 32 l)) ≡ None → read_line l ≡ Err UnknownMnemonic
  unfolding read_line read_by entry_in
  read_none z = of (box_named (before 32 l)) refl
    where
      of : (o : Box Line) → box_named (before 32 l) ≡ o → read_by (box_named (before 32 l)) (onward 32 l) ≡ Err UnknownMnemonic
      of none b = rw b refl
      of (some m) b = none-some (sym z ∙ ap entry_in b)

  -- the operands of an entry
  pub read-entry : (e : Entry) → entry_in (box_named (before 32 l)) ≡ Some e
      → read_line l ≡ words_from (covers (shapes_in e) Second) (reads (Ok e.base) (shapes_in e) (onward 32 l))
  unfolding read_line read_by entry_in entry
  read-entry e z = of (box_named (before 32 l)) refl
    where
      of : (o : Box Line) → box_named (before 32 l) ≡ o → read_by (box_named (before 32 l)) (onward 32 l) ≡ words_from (covers (shapes_in e) Second) (reads (Ok e.base) (shapes_in e) (onward 32 l))
      of none b = none-some (sym (ap entry_in b) ∙ z)
      of (some m) b =
          let k = named-kept (before 32 l) m b in
          let i : entry m ≡ e = some-some (sym (ap entry_in b) ∙ z) in
          rw (b, ← i, shapes-padded m k, covers-padded 3 m.operands, reads-padded 3 m.operands (Ok (base_of m)) (onward 32 l)) refl

-- ---- the shapes of an entry one after the other

module _ (ss : List Shape) (i : ℕ) where
  pub tail_on : (d : Shape) (a b : List ℕ) (sep next n : ℕ) (t : List ℕ) → i < length ss → a ++ tail sep (drop i ss) n ≡ t
      → b ≡ a ++ piece (get_or ss i d) sep n → next ≡ sep_after (get_or ss i d) sep n → b ++ tail next (drop (i + 1) ss) n ≡ t
  unfolding tail
  tail_on d a b sep next n t h p e f = rw (e, f, append_assoc, add-one) (rw (drop-cons ss i d h) at p)

  pub tail-end : (a : List ℕ) (sep n : ℕ) (t : List ℕ) → length ss ≤ i → a ++ tail sep (drop i ss) n ≡ t → a ≡ t
  unfolding tail
  tail-end a sep n t h p = sym (append-nil a) ∙ (rw (drop_of_length-le ss {i = i} h) at p)

  pub reads_on : (d : Shape) (x y : Parsed) (t u : List ℕ) (r : Parsed) → i < length ss → reads x (drop i ss) t ≡ r
      → y ≡ sum_after (get_or ss i d) x t → u ≡ rest_after (get_or ss i d).kind t → reads y (drop (i + 1) ss) u ≡ r
  unfolding reads
  reads_on d x y t u r h p e f = rw (e, f, add-one) (rw (drop-cons ss i d h) at p)

  pub reads-end : (x : Parsed) (r : Parsed) (t : List ℕ) → length ss ≤ i → reads x (drop i ss) t ≡ r → finished x t ≡ r
  unfolding reads
  reads-end x r t h p = rw (drop_of_length-le ss {i = i} h) at p

pub finished-empty : (x : Parsed) (t : List ℕ) → length t ≡ 0 → finished x t ≡ x
unfolding finished
finished-empty x [] e = refl
finished-empty x (b ∷ t) e = let z : ⊥ = omega arith in absurd z

pub finished-more : (x : Parsed) (t : List ℕ) → (length t ≡ 0 → ⊥) → finished x t ≡ Err Malformed
unfolding finished
finished-more x [] n = absurd (n refl)
finished-more x (b ∷ t) n = refl

pub refused-more : (two : Bool) → words_from two (Err Malformed) ≡ Err BadOperands
unfolding words_from refusal_of
refused-more two = refl

-- the words of a line whose operands came to the number x, with u left
pub read_steps : (l : List ℕ) (e : Entry) (ss : List Shape) (t u : List ℕ) (x : Parsed) → entry_in (box_named (before 32 l)) ≡ Some e → ss ≡ shapes_in e → t ≡ onward 32 l
    → finished x u ≡ reads (Ok e.base) ss t → words_from (covers ss Second) (finished x u) ≡ read_line l
read_steps l e ss t u x z p q r = rw (r, p, q) (sym (read-entry l e z))
