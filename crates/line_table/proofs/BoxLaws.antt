-- What is computed at each box of section 5, and what follows: one box for a mnemonic and for a first word, which the decoder claims for it. Assumes nothing.
use Prim.Native.Nat.{ℕ, ◌+◌, ◌*◌, ◌/◌, ◌%◌, ◌≤◌, ◌<◌}
use mathlib.Core.Path.{◌≡◌, refl, sym, ap, ◌∙◌}
use mathlib.Core.Bool.{Bool, true, false, cond, not, ◌&&◌, beq, false≢true}
use mathlib.Core.List.{List, []}
use mathlib.Core.Option.{Option, none, some}
use native.Mathlib.Omega.{arith}
use lib.Dec.{eqb, leb, ltb}
use lib.ListN.{length}
use borrow.Author.Tests.{eq-eqb, eqb-true, leb-true, le-leb, ltb-true, not-true}
use Rattle.choice.specs.Table.{among}
use Rattle.choice.proofs.Rows.{all_of}
use Rattle.choice.proofs.TestLaws.{both}
use Rattle.choice.proofs.SearchLaws.{pairs_of, found-passes, found_all, found-only}
use Rattle.text.specs.Texts.{bytes_of}
use Rattle.decode.specs.Forms.{length_of}
use Rattle.decode.specs.Operands.{Z8, Z12}
use Rattle.decode.specs.Pages.{Field, free, fixed, Line, pages}
use Rattle.decode.specs.Decode.{within, fits, line_form}
use Rattle.decode.proofs.PageLaws.{disjoint, disjoint-claims, pages-disjoint}
use Rattle.line_operand.specs.declared.Place.{Place}
use Rattle.line_operand.specs.declared.Place.TheVariants.{Lower, Upper, Base, Top, Second, Nowhere, Byte}
use Rattle.line_operand.specs.Numerals.{lacks}
use Rattle.line_operand.specs.Shapes.{field_of, meets, covers, shapes, shape_of}
use Rattle.line_operand.specs.Operands.{hidden, optional}
use Rattle.line_operand.proofs.PlaceLaws.{Digit, lower, upper, base, top, second}
use Rattle.line_operand.proofs.OperandLaws.{fits as kind_fits}
use Rattle.line_operand.proofs.RowLaws.{fitting, silent, ordered, scattered, clear, hides, slim, widths}
use Rattle.line_table.specs.Boxes.{same_text, named, claims_word, box_of, box_named, extension, base_of, shapes_of}
use Rattle.line_table.proofs.NameLaws.{same_true, same_refl}

-- ---- tests of a box

-- whether the shapes cover four bits exactly where the box leaves them free
abbrev agrees : Field → Bool → Bool
agrees free b = b
agrees (fixed x) b = not b && ltb x 16

-- whether the box has one opcode, or four where a shape covers bits 6 and 7
abbrev opcodes : ℕ → ℕ → Bool → Bool
opcodes first last four = cond four (eqb (first % 4) 0 && eqb last (first + 3)) (eqb last first)

-- whether first words that the box claims are those that differ from its own only where a shape has a bit
unfoldable pub tied : Line → Bool
tied l =
    (opcodes l.first l.last (covers (shapes_of l) Base) && ltb l.first 256)
    && (not (covers (shapes_of l) Top) && (agrees l.upper (covers (shapes_of l) Upper) && agrees l.lower (covers (shapes_of l) Lower)))

-- whether the fields that no line shows are bits 8 to 11 and bits 12 to 15 where its operands say so
abbrev veiled : Line → Bool
veiled l =
    (beq (hides (shapes_of l) Upper) (among Z8 l.operands) && beq (hides (shapes_of l) Lower) (among Z12 l.operands))
    && (not (hides (shapes_of l) Base) && not (hides (shapes_of l) Second))

-- whether no line of the box is longer than 17 bytes
abbrev short : Line → Bool
short l = slim (shapes_of l) && leb (length (bytes_of l.name) + widths (shapes_of l)) 17

-- whether the laws of operands serve the box, its mnemonic has no blank, and it has two words just where an operand is in the second one
unfoldable pub sound : Line → Bool
sound l =
    (fitting (shapes_of l) && ordered (shapes_of l)) && ((scattered (shapes_of l) && clear (base_of l) (shapes_of l))
    && ((lacks 32 (bytes_of l.name) && not (same_text (bytes_of l.name) []))
    && (tied l && (veiled l && (short l && eqb (length_of (line_form l)) (cond (covers (shapes_of l) Second) 2 1))))))

pub all_sound : all_of sound pages ≡ true
unfolding sound tied pages shapes shape_of fitting kind_fits silent ordered hidden optional scattered covers meets clear hides slim widths field_of lacks bytes_of same_text
all_sound = refl

pub record Sound (l : Line) : Type 0 where
  pub fit : fitting (shapes_of l) ≡ true
  pub order : ordered (shapes_of l) ≡ true
  pub scatter : scattered (shapes_of l) ≡ true
  pub zero : clear (base_of l) (shapes_of l) ≡ true
  pub unbroken : lacks 32 (bytes_of l.name) ≡ true
  pub some-name : same_text (bytes_of l.name) [] ≡ false
  pub tie : tied l ≡ true
  pub veil : (hides (shapes_of l) Upper ≡ among Z8 l.operands) × (hides (shapes_of l) Lower ≡ among Z12 l.operands) × (hides (shapes_of l) Base ≡ false) × (hides (shapes_of l) Second ≡ false)
  pub thin : slim (shapes_of l) ≡ true
  pub room : length (bytes_of l.name) + widths (shapes_of l) ≤ 17
  pub long : length_of (line_form l) ≡ cond (covers (shapes_of l) Second) 2 1

beq-true : (a b : Bool) → beq a b ≡ true → a ≡ b
beq-true true true t = refl
beq-true true false t = absurd (false≢true t)
beq-true false true t = absurd (false≢true t)
beq-true false false t = refl

sound-true : (l : Line) → sound l ≡ true → Sound l
unfolding sound
sound-true l t =
    let a = both (fitting (shapes_of l) && ordered (shapes_of l)) _ t in
    let b = both (fitting (shapes_of l)) (ordered (shapes_of l)) a.0 in
    let c = both (scattered (shapes_of l) && clear (base_of l) (shapes_of l)) _ a.1 in
    let d = both (scattered (shapes_of l)) (clear (base_of l) (shapes_of l)) c.0 in
    let e = both (lacks 32 (bytes_of l.name) && not (same_text (bytes_of l.name) [])) _ c.1 in
    let f = both (lacks 32 (bytes_of l.name)) _ e.0 in
    let g = both (tied l) _ e.1 in
    let h = both (veiled l) _ g.1 in
    let i = both (beq (hides (shapes_of l) Upper) (among Z8 l.operands) && beq (hides (shapes_of l) Lower) (among Z12 l.operands)) _ h.0 in
    let j = both (beq (hides (shapes_of l) Upper) (among Z8 l.operands)) _ i.0 in
    let k = both (not (hides (shapes_of l) Base)) _ i.1 in
    let m = both (short l) _ h.1 in
    let n = both (slim (shapes_of l)) _ m.0 in
    record {
      fit = b.0;
      order = b.1;
      scatter = d.0;
      zero = d.1;
      unbroken = f.0;
      some-name = not-true _ f.1;
      tie = g.0;
      veil = (beq-true _ _ j.0, beq-true _ _ j.1, not-true _ k.0, not-true _ k.1);
      thin = n.0;
      room = leb-true _ _ n.1;
      long = eqb-true _ _ m.1;
    }

-- ---- what is found is sound

pub named-sound : (t : List ℕ) (l : Line) → box_named t ≡ some l → Sound l
unfolding box_named
named-sound t l e = sound-true l (rw e at (found_all (named t) sound pages all_sound))

pub claimed-sound : (w : ℕ) (l : Line) → box_of w ≡ some l → Sound l
unfolding box_of
claimed-sound w l e = sound-true l (rw e at (found_all (claims_word w) sound pages all_sound))

-- it has the name, and claims the word
pub named-name : (t : List ℕ) (l : Line) → box_named t ≡ some l → bytes_of l.name ≡ t
unfolding box_named named
named-name t l e = same_true _ _ (rw e at (found-passes (named t) pages))

pub claimed-claims : (w : ℕ) (l : Line) → box_of w ≡ some l → claims_word w l ≡ true
unfolding box_of
claimed-claims w l e = rw e at (found-passes (claims_word w) pages)

-- ---- one box for a name

differ : Line → Line → Bool
differ l m = not (same_text (bytes_of l.name) (bytes_of m.name))

all-differ : pairs_of differ pages ≡ true
unfolding pairs_of differ pages same_text bytes_of
all-differ = refl

differ-named : (t : List ℕ) (l m : Line) → differ l m ≡ true → named t l ≡ true → named t m ≡ true → ⊥
unfolding differ named
differ-named t l m a p q =
    let u : bytes_of m.name ≡ bytes_of l.name = same_true _ _ q ∙ sym (same_true _ _ p) in
    let v : same_text (bytes_of l.name) (bytes_of m.name) ≡ true = rw u (same_refl (bytes_of l.name)) in
    false≢true (sym (not-true _ a) ∙ v)

-- a box that claims a word is the one with its name
pub claimed-named : (w : ℕ) (l : Line) → box_of w ≡ some l → box_named (bytes_of l.name) ≡ some l
unfolding box_of box_named named
claimed-named w l e =
    let t = bytes_of l.name in
    (rw e at (found-only (named t) differ (differ-named t) (claims_word w) pages all-differ)) (same_refl t)

-- no box has the empty name
pub no_name : box_named [] ≡ none
no_name = of (box_named []) refl
  where
    of : (o : Option Line) → box_named [] ≡ o → box_named [] ≡ none
    of none e = e
    of (some l) e = absurd (false≢true (sym (named-sound [] l e).some-name ∙ ap (λ t. same_text t []) (named-name [] l e) ∙ same_refl []))

-- ---- one box for a first word

-- a box with a name that claims a word is the one that claims it
pub named-claimed : (t : List ℕ) (l : Line) (w : ℕ) → box_named t ≡ some l → claims_word w l ≡ true → box_of w ≡ some l
unfolding box_of box_named
named-claimed t l w e p =
    (rw e at (found-only (claims_word w) disjoint (disjoint-claims (w / 256) (w / 16 % 16) (w % 16)) (named t) pages pages-disjoint)) p

-- ---- the first words of a box, by their fields

record Tied (l : Line) : Type 0 where
  codes : opcodes l.first l.last (covers (shapes_of l) Base) ≡ true
  small : l.first < 256
  high : agrees l.upper (covers (shapes_of l) Upper) ≡ true
  low : agrees l.lower (covers (shapes_of l) Lower) ≡ true
  head : covers (shapes_of l) Top ≡ false

tied-true : (l : Line) → tied l ≡ true → Tied l
unfolding tied
tied-true l t =
    let a = both (opcodes l.first l.last (covers (shapes_of l) Base) && ltb l.first 256) _ t in
    let b = both (opcodes l.first l.last (covers (shapes_of l) Base)) _ a.0 in
    let c = both (not (covers (shapes_of l) Top)) _ a.1 in
    let d = both (agrees l.upper (covers (shapes_of l) Upper)) _ c.1 in
    record { codes = b.0; small = ltb-true _ _ b.1; high = d.0; low = d.1; head = not-true _ c.0 }

pub top-fixed : (l : Line) → tied l ≡ true → covers (shapes_of l) Top ≡ false
top-fixed l t = (tied-true l t).head

-- an extension has four bits
extension-small : (f : Field) (b : Bool) → agrees f b ≡ true → extension f < 16
extension-small free b t = omega arith
extension-small (fixed x) b t = ltb-true x 16 (both (not b) _ t).1

-- four bits that are as those of the box wherever no shape covers them are as it asks, and the other way round
fits_kept : (f : Field) (b : Bool) (n : ℕ) → agrees f b ≡ true → (b ≡ false → n ≡ extension f) → fits n f ≡ true
fits_kept free b n t h = refl
fits_kept (fixed x) b n t h = eq-eqb n x (h (not-true b (both (not b) _ t).0))

kept-fits : (f : Field) (b : Bool) (n : ℕ) → agrees f b ≡ true → fits n f ≡ true → b ≡ false → n ≡ extension f
kept-fits free b n t h z = absurd (false≢true (sym z ∙ t))
kept-fits (fixed x) b n t h z = eqb-true n x h

-- the fields of a first word
module _ (f x y : ℕ) (h : f < 256) (i : x < 16) (j : y < 16) where
  top-made : (256 * f + 16 * x + y) / 1024 % 64 ≡ f / 4
  top-made = omega arith

  base-made : (256 * f + 16 * x + y) / 256 % 4 ≡ f % 4
  base-made = omega arith

  upper-made : (256 * f + 16 * x + y) / 16 % 16 ≡ x
  upper-made = omega arith

  lower-made : (256 * f + 16 * x + y) % 16 ≡ y
  lower-made = omega arith

-- the opcode of a number's first word
opcode-top : (m : ℕ) → m % 65536 / 256 / 4 ≡ m / 1024 % 64
opcode-top m = omega arith

opcode-base : (m : ℕ) → m % 65536 / 256 % 4 ≡ m / 256 % 4
opcode-base m = omega arith

from-four : (o f last : ℕ) → f % 4 ≡ 0 → last ≡ f + 3 → o / 4 ≡ f / 4 → (f ≤ o) × (o ≤ last)
from-four o f last p q t = (omega arith, omega arith)

from_one : (o f last : ℕ) → last ≡ f → o / 4 ≡ f / 4 → o % 4 ≡ f % 4 → (f ≤ o) × (o ≤ last)
from_one o f last q t u = (omega arith, omega arith)

module _ (l : Line) (t : tied l ≡ true) where
  s : Tied l
  s = tied-true l t

  x-small : extension l.upper < 16
  x-small = extension-small l.upper _ s.high

  y-small : extension l.lower < 16
  y-small = extension-small l.lower _ s.low

  -- a number whose first word is as the box's wherever no shape has a bit: the box claims it
  module _ (m : ℕ) (keeps : (q : Place) → covers (shapes_of l) q ≡ false → field_of q m ≡ field_of q (base_of l)) where
    top_kept : m % 65536 / 256 / 4 ≡ l.first / 4
    unfolding field_of
    top_kept = opcode-top m ∙ keeps Top s.head ∙ top-made l.first _ _ s.small x-small y-small

    between : (four : Bool) → covers (shapes_of l) Base ≡ four → opcodes l.first l.last four ≡ true → (l.first ≤ m % 65536 / 256) × (m % 65536 / 256 ≤ l.last)
    unfolding field_of
    between true e t =
        let u = both (eqb (l.first % 4) 0) _ t in
        from-four _ _ _ (eqb-true (l.first % 4) 0 u.0) (eqb-true l.last (l.first + 3) u.1) top_kept
    between false e t =
        from_one _ _ _ (eqb-true l.last l.first t) top_kept (opcode-base m ∙ keeps Base e ∙ base-made l.first _ _ s.small x-small y-small)

    pub kept-claims : claims_word (m % 65536) l ≡ true
    unfolding field_of
    kept-claims =
        let b = between _ refl s.codes in
        let u : m % 65536 / 16 % 16 ≡ m / 16 % 16 = omega arith in
        let v : m % 65536 % 16 ≡ m / 1 % 16 = omega arith in
        let z : base_of l / 1 % 16 ≡ base_of l % 16 = omega arith in
        rw (
          le-leb _ _ b.0,
          le-leb _ _ b.1,
          fits_kept l.upper _ (m % 65536 / 16 % 16) s.high (λ f. u ∙ keeps Upper f ∙ upper-made l.first _ _ s.small x-small y-small),
          fits_kept l.lower _ (m % 65536 % 16) s.low (λ f. v ∙ keeps Lower f ∙ z ∙ lower-made l.first _ _ s.small x-small y-small),
        ) refl

  -- and the other way round: a first word that the box claims is as the box's there
  module _ (w : ℕ) (h : w < 65536) (p : claims_word w l ≡ true) where
    claimed : (l.first ≤ w / 256) × (w / 256 ≤ l.last) × (fits (w / 16 % 16) l.upper ≡ true) × (fits (w % 16) l.lower ≡ true)
    claimed =
        let a = both (within (w / 256) l) _ p in
        let b = both (leb l.first (w / 256)) _ a.0 in
        let c = both (fits (w / 16 % 16) l.upper) _ a.1 in
        (leb-true _ _ b.0, leb-true _ _ b.1, c.0, c.1)

    same_codes : (four : Bool) → covers (shapes_of l) Base ≡ four → opcodes l.first l.last four ≡ true
        → (w / 256 / 4 ≡ l.first / 4) × (four ≡ false → w / 256 % 4 ≡ l.first % 4)
    same_codes true e t =
        let u = both (eqb (l.first % 4) 0) _ t in
        let a = eqb-true (l.first % 4) 0 u.0 in
        let b = eqb-true l.last (l.first + 3) u.1 in
        let c = claimed in
        (omega arith, λ z. absurd (false≢true (sym z)))
    same_codes false e t =
        let b = eqb-true l.last l.first t in
        let c = claimed in
        (omega arith, λ z. omega arith)

    pub claims-kept : (q : Place) → Digit q → meets q Second ≡ false → covers (shapes_of l) q ≡ false → field_of q w ≡ field_of q (base_of l)
    unfolding field_of meets
    claims-kept Top top x f =
        let a : w / 1024 % 64 ≡ w / 256 / 4 = omega arith in
        a ∙ (same_codes _ refl s.codes).0 ∙ sym (top-made l.first _ _ s.small x-small y-small)
    claims-kept Base base x f =
        let a : w / 256 % 4 ≡ l.first % 4 = (same_codes _ refl s.codes).1 f in
        a ∙ sym (base-made l.first _ _ s.small x-small y-small)
    claims-kept Upper upper x f = kept-fits l.upper _ (w / 16 % 16) s.high claimed.2 f ∙ sym (upper-made l.first _ _ s.small x-small y-small)
    claims-kept Lower lower x f =
        let a : w / 1 % 16 ≡ w % 16 = omega arith in
        let z : base_of l % 16 ≡ base_of l / 1 % 16 = omega arith in
        a ∙ kept-fits l.lower _ (w % 16) s.low claimed.3 f ∙ sym (lower-made l.first _ _ s.small x-small y-small) ∙ z
    claims-kept Second second x f = absurd (false≢true (sym x))
    claims-kept Nowhere d x f = elim d [ ]
    claims-kept Byte d x f = elim d [ ]
