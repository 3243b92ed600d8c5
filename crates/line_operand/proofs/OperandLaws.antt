-- One operand there and back: what is spelt is read as the field, and what is read as a field is spelt so. Assumes nothing.
use Prim.Native.Nat.{ℕ, ◌+◌, ◌*◌, ◌-◌, ◌/◌, ◌%◌, ◌≤◌, ◌<◌}
use mathlib.Core.Path.{◌≡◌, refl, sym, ap, ◌∙◌}
use mathlib.Core.Bool.{Bool, true, false, cond, ◌&&◌, false≢true}
use mathlib.Core.List.{List, [], ◌∷◌}
use native.Mathlib.Omega.{arith}
use native.Mathlib.Nat.{zero-add}
use lib.Dec.{eqb, leb, ltb, lit≤}
use lib.ListN.{length}
use borrow.Author.Tests.{ne_eqb, lt-ltb, le-ltb, le-leb, eqb-true, eqb-false, leb-true, ltb-true, ltb-false}
use Rattle.line_operand.specs.declared.Kind.{Kind}
use Rattle.line_operand.specs.declared.Kind.TheVariants.{Register, Number, Label, Word, Index, Unread}
use Rattle.std.proofs.Common.{Option, None, Some, Ok, Err}
use Rattle.line_operand.specs.declared.OperandError.TheVariants.{Malformed, Outside}
use Rattle.text.specs.Texts.{decimal, hex, digit_of, word_by, word_of}
use Rattle.line_operand.specs.Numerals.{numeral, value, lacks}
use Rattle.line_operand.specs.Operands.{Parsed, spell, omitted, inside, ranged, marked, nonzero, negated, labelled, word_in, worded, taken_as, joined}
use Rattle.choice.proofs.TestLaws.{split, both}
use Rattle.line_operand.proofs.NumeralLaws.{spelt, respelt, digit-reads, digit-spells, digit-plain}

-- the answers differ
pub malformed-field : {A : Type 0} {f : ℕ} → ◌≡◌ {A = Parsed} (Err Malformed) (Ok f) → A
malformed-field {A} {f} e = let z : ◌≡◌ {A = ℕ} 0 1 = cc in absurd (let y : ⊥ = omega arith in y)

pub outside-field : {A : Type 0} {f : ℕ} → ◌≡◌ {A = Parsed} (Err Outside) (Ok f) → A
outside-field {A} {f} e = let z : ◌≡◌ {A = ℕ} 0 1 = cc in absurd (let y : ⊥ = omega arith in y)

pub field-field : {f g : ℕ} → ◌≡◌ {A = Parsed} (Ok f) (Ok g) → f ≡ g
field-field {f} {g} e = cc

-- ---- numbers from low on

pub ranged-spelt : (low count f : ℕ) → low + count ≤ 1000 → f < count → ranged low count (decimal (low + f)) ≡ Ok f
unfolding ranged inside
ranged-spelt low count f l h =
    let s = spelt (low + f) (omega arith) in
    let e : low + f - low ≡ f = omega arith in
    rw (s.right, s.worth, le-leb low (low + f) (omega arith), lt-ltb (low + f) (low + count) (omega arith), e) refl

inside-field : (low count v f : ℕ) → inside low count v ≡ Ok f → (v ≡ low + f) × (f < count)
unfolding inside
inside-field low count v f e =
    split (leb low v && ltb v (low + count))
    (λ t.
    let u = both (leb low v) (ltb v (low + count)) t in
    let a = leb-true low v u.0 in
    let b = ltb-true v (low + count) u.1 in
    let g : v - low ≡ f = field-field (rw t at e) in
    (omega arith, omega arith))
    (λ t. outside-field (rw t at e))

pub ranged-read : (low count f : ℕ) (t : List ℕ) → low + count ≤ 1000 → ranged low count t ≡ Ok f → (decimal (low + f) ≡ t) × (f < count)
unfolding ranged
ranged-read low count f t l e =
    split (numeral t)
    (λ n.
    let u = inside-field low count (value 0 t) f (rw n at e) in
    (rw (← u.0) (respelt t n (omega arith)), u.1))
    (λ n. malformed-field (rw n at e))

-- ---- after "R"

pub marked-spelt : (low count f : ℕ) → low + count ≤ 1000 → f < count → marked low count (82 ∷ decimal (low + f)) ≡ Ok f
unfolding marked
marked-spelt low count f l h = ranged-spelt low count f l h

pub marked-read : (low count f : ℕ) (t : List ℕ) → low + count ≤ 1000 → marked low count t ≡ Ok f → (82 ∷ decimal (low + f) ≡ t) × (f < count)
unfolding marked
marked-read low count f [] l e = malformed-field e
marked-read low count f (b ∷ t) l e =
    split (eqb b 82)
    (λ r.
    let u = ranged-read low count f t l (rw r at e) in
    (rw (eqb-true b 82 r, u.0) refl, u.1))
    (λ r. malformed-field (rw r at e))

-- ---- index registers

nonzero-read : (o : Parsed) (f : ℕ) → nonzero o ≡ Ok f → (o ≡ Ok f) × (eqb f 0 ≡ false)
unfolding nonzero
nonzero-read (Err Malformed) f e = malformed-field e
nonzero-read (Err Outside) f e = outside-field e
nonzero-read (Ok g) f e =
    split (eqb g 0)
    (λ z. malformed-field (rw z at e))
    (λ z. let q : g ≡ f = field-field (rw z at e) in (ap (λ x. Ok x) q, rw (← q) z))

-- ---- displacements

-- numbers from 0 on
zero-spelt : (count f : ℕ) → count ≤ 1000 → f < count → ranged 0 count (decimal f) ≡ Ok f
zero-spelt count f l h = ap (λ x. ranged 0 count (decimal x)) (sym (zero-add f)) ∙ ranged-spelt 0 count f (omega arith) h

zero-read : (count f : ℕ) (t : List ℕ) → count ≤ 1000 → ranged 0 count t ≡ Ok f → (decimal f ≡ t) × (f < count)
zero-read count f t l e =
    let u = ranged-read 0 count f t (omega arith) e in
    (ap decimal (sym (zero-add f)) ∙ u.0, u.1)

pub labelled-spelt : (f : ℕ) → f < 256 → labelled (cond (ltb f 128) (decimal f) (45 ∷ decimal (256 - f))) ≡ Ok f
unfolding labelled negated
labelled-spelt f h =
    split (ltb f 128)
    (λ e. rw (e, (spelt f (omega (arith, ltb-true f 128 e))).first) (zero-spelt 128 f (lit≤ tt) (ltb-true f 128 e)))
    (λ e.
    let k = ltb-false f 128 e in
    let z : eqb (256 - f) 0 ≡ false = ne_eqb (256 - f) 0 (λ (y : 256 - f ≡ 0). omega arith) in
    let g : 256 - (256 - f) ≡ f = omega arith in
    rw (e, zero-spelt 129 (256 - f) (lit≤ tt) (omega arith), z, g) refl)

negated-read : (o : Parsed) (f : ℕ) → negated o ≡ Ok f → (g : ℕ) × (o ≡ Ok g) × (0 < g) × (f ≡ 256 - g)
unfolding negated
negated-read (Err Malformed) f e = malformed-field e
negated-read (Err Outside) f e = outside-field e
negated-read (Ok g) f e =
    split (eqb g 0)
    (λ z. malformed-field (rw z at e))
    (λ z.
    let q : 256 - g ≡ f = field-field (rw z at e) in
    let n = eqb-false g 0 z in
    (g, refl, omega arith, omega arith))

minus-read : (f : ℕ) (t : List ℕ) → negated (ranged 0 129 t) ≡ Ok f → (cond (ltb f 128) (decimal f) (45 ∷ decimal (256 - f)) ≡ 45 ∷ t) × (f < 256)
minus-read f t e =
    let u = negated-read (ranged 0 129 t) f e in
    let g = u.0 in
    let v = zero-read 129 g t (lit≤ tt) u.1 in
    let p = u.2 in
    let q = u.3 in
    let k = v.1 in
    let m : 256 - f ≡ g = omega arith in
    (rw (le-ltb f 128 (omega arith), m, v.0) refl, omega arith)

pub labelled-read : (f : ℕ) (t : List ℕ) → labelled t ≡ Ok f → (cond (ltb f 128) (decimal f) (45 ∷ decimal (256 - f)) ≡ t) × (f < 256)
unfolding labelled
labelled-read f [] e = let u = zero-read 128 f [] (lit≤ tt) e in (rw (lt-ltb f 128 u.1) u.0, omega arith)
labelled-read f (b ∷ t) e =
    split (eqb b 45)
    (λ m. rw (eqb-true b 45 m) (minus-read f t (rw m at e)))
    (λ m. let u = zero-read 128 f (b ∷ t) (lit≤ tt) (rw m at e) in (rw (lt-ltb f 128 u.1) u.0, omega arith))

-- ---- words

-- the four digits of a word
module _ (f : ℕ) (h : f < 65536) where
  sum : f / 4096 * 4096 + f / 256 % 16 * 256 + f / 16 % 16 * 16 + f % 16 ≡ f
  sum =
      let p : f / 256 ≡ f / 16 / 16 = omega arith in
      let q : f / 4096 ≡ f / 16 / 16 / 16 = omega arith in
      rw (p, q) (of (f / 16) (f / 16 / 16) (f / 16 / 16 / 16) _ _ _ _ (omega arith) (omega arith) (omega arith) (omega arith))
    where
      of : (u v w a b c d : ℕ) → f ≡ 16 * u + d → u ≡ 16 * v + c → v ≡ 16 * w + b → w ≡ a → a * 4096 + b * 256 + c * 16 + d ≡ f
      of u v w a b c d p q r s = omega arith

  pub worded-spelt : worded (hex f) ≡ Ok f
  unfolding worded word_in word_by hex word_of
  worded-spelt =
      let a : f / 4096 < 16 = omega arith in
      let b : f / 256 % 16 < 16 = omega arith in
      let c : f / 16 % 16 < 16 = omega arith in
      let d : f % 16 < 16 = omega arith in
      rw (digit-reads _ a, digit-reads _ b, digit-reads _ c, digit-reads _ d, sum) refl

-- the digits of a word that is read
record Digits (p q r s : Option ℕ) (f : ℕ) : Type 0 where
  a : ℕ
  b : ℕ
  c : ℕ
  d : ℕ
  first : p ≡ Some a
  second : q ≡ Some b
  third : r ≡ Some c
  fourth : s ≡ Some d
  word : a * 4096 + b * 256 + c * 16 + d ≡ f

digits_in : (p q r s : Option ℕ) (f : ℕ) → word_in (word_by p q r s) ≡ Ok f → Digits p q r s f
unfolding word_in word_by
digits_in None q r s f e = malformed-field e
digits_in (Some a) None r s f e = malformed-field e
digits_in (Some a) (Some b) None s f e = malformed-field e
digits_in (Some a) (Some b) (Some c) None f e = malformed-field e
digits_in (Some a) (Some b) (Some c) (Some d) f e = record { a = a; b = b; c = c; d = d; first = refl; second = refl; third = refl; fourth = refl; word = field-field e }

word_read : (a b c d f : ℕ) → word_in (word_of a b c d) ≡ Ok f → (hex f ≡ a ∷ b ∷ c ∷ d ∷ []) × (f < 65536)
unfolding word_of hex
word_read a b c d f e =
    let u = digits_in (digit_of a) (digit_of b) (digit_of c) (digit_of d) f e in
    let p = digit-spells a u.a u.first in
    let q = digit-spells b u.b u.second in
    let r = digit-spells c u.c u.third in
    let s = digit-spells d u.d u.fourth in
    let i = digits_of u.a u.b u.c u.d f p.1 q.1 r.1 s.1 u.word in
    (rw (i.0, i.1, i.2, i.3, p.0, q.0, r.0, s.0) refl, i.4)
  where
    digits_of : (a b c d f : ℕ) → a < 16 → b < 16 → c < 16 → d < 16 → a * 4096 + b * 256 + c * 16 + d ≡ f
        → (f / 4096 ≡ a) × (f / 256 % 16 ≡ b) × (f / 16 % 16 ≡ c) × (f % 16 ≡ d) × (f < 65536)
    digits_of a b c d f p q r s w = (omega arith, omega arith, omega arith, omega arith, omega arith)

pub worded-read : (f : ℕ) (t : List ℕ) → worded t ≡ Ok f → (hex f ≡ t) × (f < 65536)
unfolding worded
worded-read f [] e = malformed-field e
worded-read f (a ∷ []) e = malformed-field e
worded-read f (a ∷ b ∷ []) e = malformed-field e
worded-read f (a ∷ b ∷ c ∷ []) e = malformed-field e
worded-read f (a ∷ b ∷ c ∷ d ∷ []) e = word_read a b c d f e
worded-read f (a ∷ b ∷ c ∷ d ∷ x ∷ t) e =
    let n = length (a ∷ b ∷ c ∷ d ∷ x ∷ t) in
    let z : eqb n 4 ≡ false = ne_eqb n 4 (λ (y : n ≡ 4). omega arith) in
    malformed-field (rw z at e)

-- ---- any operand

-- whether the numbers of a kind fit a place of so many
unfoldable pub fits : Kind → ℕ → ℕ → Bool
fits Register low count = leb (low + count) 1000
fits Number low count = leb (low + count) 1000
fits Label low count = eqb count 256
fits Word low count = eqb count 65536
fits Index low count = leb (low + count) 1000
fits Unread low count = true

module _ (low count f : ℕ) where
  pub reads-spelt : (k : Kind) → fits k low count ≡ true → f < count → omitted k f ≡ false → taken_as k low count (spell k low f) ≡ Ok f
  unfolding fits omitted taken_as spell nonzero
  reads-spelt Register t h o = marked-spelt low count f (leb-true _ _ t) h
  reads-spelt Number t h o = ranged-spelt low count f (leb-true _ _ t) h
  reads-spelt Label t h o = labelled-spelt f (omega (arith, eqb-true count 256 t))
  reads-spelt Word t h o = worded-spelt f (omega (arith, eqb-true count 65536 t))
  reads-spelt Index t h o = rw (marked-spelt low count f (leb-true _ _ t) h, o) refl
  reads-spelt Unread t h o = absurd (false≢true (sym o))

  pub spells-read : (k : Kind) (t : List ℕ) → fits k low count ≡ true → taken_as k low count t ≡ Ok f
      → (spell k low f ≡ t) × (f < count) × (omitted k f ≡ false)
  unfolding fits omitted taken_as spell
  spells-read Register t h e = let u = marked-read low count f t (leb-true _ _ h) e in (u.0, u.1, refl)
  spells-read Number t h e = let u = ranged-read low count f t (leb-true _ _ h) e in (u.0, u.1, refl)
  spells-read Label t h e = let u = labelled-read f t e in (u.0, omega (arith, eqb-true count 256 h), refl)
  spells-read Word t h e = let u = worded-read f t e in (u.0, omega (arith, eqb-true count 65536 h), refl)
  spells-read Index t h e =
      let v = nonzero-read (marked low count t) f e in
      let u = marked-read low count f t (leb-true _ _ h) v.0 in
      (u.0, u.1, v.1)
  spells-read Unread t h e = malformed-field e

  -- no operand has a comma
  pub spell-plain : (k : Kind) → fits k low count ≡ true → f < count → lacks 44 (spell k low f) ≡ true
  unfolding fits spell lacks hex
  spell-plain Register t h = (spelt (low + f) (omega (arith, leb-true (low + count) 1000 t))).plain
  spell-plain Number t h = (spelt (low + f) (omega (arith, leb-true (low + count) 1000 t))).plain
  spell-plain Label t h =
      let k = eqb-true count 256 t in
      split (ltb f 128) (λ e. rw e (spelt f (omega arith)).plain) (λ e. rw e (spelt (256 - f) (omega arith)).plain)
  spell-plain Word t h = rw (digit-plain (f / 4096), digit-plain (f / 256 % 16), digit-plain (f / 16 % 16), digit-plain (f % 16)) refl
  spell-plain Index t h = (spelt (low + f) (omega (arith, leb-true (low + count) 1000 t))).plain
  spell-plain Unread t h = refl

-- ---- what is malformed comes before what lies outside its field

pub malformed-first : (a : Parsed) → joined a (Err Malformed) ≡ (Err Malformed)
unfolding joined
malformed-first (Err Malformed) = refl
malformed-first (Err Outside) = refl
malformed-first (Ok f) = refl
