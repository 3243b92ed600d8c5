-- All operands there and back, by induction over their shapes. Assumes nothing.
use Prim.Native.Nat.{ℕ, ◌+◌, ◌*◌, ◌-◌, ◌/◌, ◌%◌, ◌≤◌, ◌<◌}
use mathlib.Core.Path.{◌≡◌, refl, sym, ap, ◌∙◌}
use mathlib.Core.Bool.{Bool, true, false, cond, not, ◌&&◌, false≢true}
use mathlib.Core.List.{List, [], ◌∷◌, ◌++◌}
use native.Mathlib.Omega.{arith}
use lib.Dec.{eqb, leb, ltb}
use lib.ListN.{length, length-append}
use borrow.Author.Tests.{eq-eqb, eqb-true, leb-true, ltb-true, not-true}
use Rattle.line_operand.specs.declared.Place.{Place}
use Rattle.line_operand.specs.declared.Place.TheVariants.{Second}
use Rattle.line_operand.specs.declared.Kind.{Kind}
use Rattle.line_operand.specs.declared.Kind.TheVariants.{Register, Number, Label, Word, Index, Unread}
use Rattle.line_operand.specs.declared.Shape.{Shape}
use Rattle.std.proofs.Common.{Ok, Err}
use Rattle.line_operand.specs.declared.OperandError.TheVariants.{Malformed, Outside}
use Rattle.text.specs.Texts.{hex}
use Rattle.line_operand.specs.Numerals.{before, onward}
use Rattle.line_operand.specs.Shapes.{low_bit, end_bit, unit_of, count_of, field_of, meets, covers}
use Rattle.line_operand.specs.Operands.{Parsed, spell, omitted, piece, sep_after, tail, taken_as, placed, taken, joined, hidden, optional, sum_after, rest_after, finished, reads}
use Rattle.choice.proofs.TestLaws.{split, both, neither}
use Rattle.line_operand.proofs.NumeralLaws.{Starts, cut, onward-starts, cut-plain, two_digits, three-digits}
use Rattle.line_operand.proofs.PlaceLaws.{field_below, field-made, field-other, field-first, field_both, field-zero, Digit, field-within}
use Rattle.line_operand.proofs.OperandLaws.{fits, malformed-field, field-field, reads-spelt, spells-read, spell-plain}

-- ---- tests of shapes that a table computes

-- whether each kind fits its place
unfoldable pub fitting : List Shape → Bool
fitting [] = true
fitting (s ∷ ss) = fits s.kind s.low (count_of s.place) && fitting ss

-- whether all are hidden, and whether only hidden ones follow one that may be missing
unfoldable pub silent : List Shape → Bool
silent [] = true
silent (s ∷ ss) = hidden s.kind && silent ss

unfoldable pub ordered : List Shape → Bool
ordered [] = true
ordered (s ∷ ss) = cond (hidden s.kind) true (cond (optional s.kind) (silent ss) true) && ordered ss

-- whether no two have a bit in common
unfoldable pub scattered : List Shape → Bool
scattered [] = true
scattered (s ∷ ss) = not (covers ss s.place) && scattered ss

-- whether a number has 0 at the places of all
unfoldable pub clear : ℕ → List Shape → Bool
clear a [] = true
clear a (s ∷ ss) = eqb (field_of s.place a) 0 && clear a ss

fitting-cons : (s : Shape) (ss : List Shape) → fitting (s ∷ ss) ≡ true → (fits s.kind s.low (count_of s.place) ≡ true) × (fitting ss ≡ true)
unfolding fitting
fitting-cons s ss h = both _ (fitting ss) h

ordered-cons : (s : Shape) (ss : List Shape) → ordered (s ∷ ss) ≡ true
    → (cond (hidden s.kind) true (cond (optional s.kind) (silent ss) true) ≡ true) × (ordered ss ≡ true)
unfolding ordered
ordered-cons s ss h = both (cond (hidden s.kind) true (cond (optional s.kind) (silent ss) true)) (ordered ss) h

scattered-cons : (s : Shape) (ss : List Shape) → scattered (s ∷ ss) ≡ true → (covers ss s.place ≡ false) × (scattered ss ≡ true)
unfolding scattered
scattered-cons s ss h =
    let u = both (not (covers ss s.place)) (scattered ss) h in
    (not-true (covers ss s.place) u.0, u.1)

clear-cons : (a : ℕ) (s : Shape) (ss : List Shape) → clear a (s ∷ ss) ≡ true → (field_of s.place a ≡ 0) × (clear a ss ≡ true)
unfolding clear
clear-cons a s ss h =
    let u = both (eqb (field_of s.place a) 0) (clear a ss) h in
    (eqb-true _ 0 u.0, u.1)

covers-cons : (s : Shape) (ss : List Shape) (q : Place) → covers (s ∷ ss) q ≡ false → (meets s.place q ≡ false) × (covers ss q ≡ false)
unfolding covers
covers-cons s ss q h = neither (meets s.place q) (covers ss q) h

-- ---- kinds

hidden-omitted : (k : Kind) (f : ℕ) → hidden k ≡ true → omitted k f ≡ true
unfolding hidden omitted
hidden-omitted Register f h = absurd (false≢true h)
hidden-omitted Number f h = absurd (false≢true h)
hidden-omitted Label f h = absurd (false≢true h)
hidden-omitted Word f h = absurd (false≢true h)
hidden-omitted Index f h = absurd (false≢true h)
hidden-omitted Unread f h = refl

optional-omitted : (k : Kind) (f : ℕ) → optional k ≡ true → f ≡ 0 → omitted k f ≡ true
unfolding optional omitted
optional-omitted Register f h e = absurd (false≢true h)
optional-omitted Number f h e = absurd (false≢true h)
optional-omitted Label f h e = absurd (false≢true h)
optional-omitted Word f h e = absurd (false≢true h)
optional-omitted Index f h e = eq-eqb f 0 e
optional-omitted Unread f h e = refl

-- what is left out without being hidden may be missing, and its field is 0
omitted-optional : (k : Kind) (f : ℕ) → omitted k f ≡ true → hidden k ≡ false → (optional k ≡ true) × (f ≡ 0)
unfolding hidden optional omitted
omitted-optional Register f h e = absurd (false≢true h)
omitted-optional Number f h e = absurd (false≢true h)
omitted-optional Label f h e = absurd (false≢true h)
omitted-optional Word f h e = absurd (false≢true h)
omitted-optional Index f h e = (refl, eqb-true f 0 h)
omitted-optional Unread f h e = absurd (false≢true (sym e))

hidden-optional : (k : Kind) → hidden k ≡ true → optional k ≡ true
unfolding hidden optional
hidden-optional Register h = absurd (false≢true h)
hidden-optional Number h = absurd (false≢true h)
hidden-optional Label h = absurd (false≢true h)
hidden-optional Word h = absurd (false≢true h)
hidden-optional Index h = absurd (false≢true h)
hidden-optional Unread h = refl

-- ---- what of an instruction a line shows: the number a with the fields of n that are not hidden

unfoldable pub shown : ℕ → List Shape → ℕ → ℕ
shown a [] n = a
shown a (s ∷ ss) n = shown (cond (hidden s.kind) a (a + unit_of s.place * field_of s.place n)) ss n

-- ---- printing, then reading

-- what is printed is nothing or starts with the separator
pub tail-starts : (ss : List Shape) (sep n : ℕ) → Starts sep (tail sep ss n)
unfolding tail piece sep_after
tail-starts [] sep n = tt
tail-starts (s ∷ ss) sep n =
    split (omitted s.kind (field_of s.place n)) (λ o. rw o (tail-starts ss sep n)) (λ o. rw o refl)

silent-tail : (ss : List Shape) (sep n : ℕ) → silent ss ≡ true → tail sep ss n ≡ []
unfolding silent tail piece sep_after
silent-tail [] sep n h = refl
silent-tail (s ∷ ss) sep n h =
    let u = both (hidden s.kind) (silent ss) h in
    rw (hidden-omitted s.kind (field_of s.place n) u.0) (silent-tail ss sep n u.1)

-- a hidden shape takes nothing
skips : (s : Shape) (a : Parsed) (t : List ℕ) → hidden s.kind ≡ true → (sum_after s a t ≡ a) × (rest_after s.kind t ≡ t)
unfolding sum_after rest_after
skips s a [] h = (rw (hidden-optional s.kind h) refl, refl)
skips s a (x ∷ t) h = rw h (refl, refl)

-- a shown shape that is not hidden
shown-seen : (k : Kind) (f : ℕ) → omitted k f ≡ false → hidden k ≡ false
shown-seen k f o = split (hidden k) (λ h. absurd (false≢true (sym o ∙ hidden-omitted k f h))) (λ h. h)

module _ (s : Shape) (ss : List Shape) (sep a n : ℕ) where
  field : ℕ
  field = field_of s.place n

  printed : List ℕ
  printed = piece s sep n ++ tail (sep_after s sep n) ss n

  Taken : Type 0
  Taken =
      (sum_after s (Ok a) printed ≡ Ok (cond (hidden s.kind) a (a + unit_of s.place * field)))
      × (rest_after s.kind printed ≡ tail (sep_after s sep n) ss n)

  hidden_taken : hidden s.kind ≡ true → Taken
  unfolding Taken printed field piece sep_after
  hidden_taken h =
      let k = skips s (Ok a) (tail sep ss n) h in
      rw (hidden-omitted s.kind (field_of s.place n) h, h) (k.0, k.1)

  missing-taken : omitted s.kind field ≡ true → hidden s.kind ≡ false → silent ss ≡ true → Taken
  unfolding Taken printed field piece sep_after sum_after rest_after
  missing-taken o h q =
      let u = omitted-optional s.kind (field_of s.place n) o h in
      let z : a + unit_of s.place * field_of s.place n ≡ a = rw u.1 (omega arith) in
      rw (o, h, silent-tail ss sep n q, u.0, z) (refl, refl)

  seen-taken : fits s.kind s.low (count_of s.place) ≡ true → omitted s.kind field ≡ false → Taken
  unfolding Taken printed field piece sep_after sum_after rest_after taken placed joined
  seen-taken f o =
      let b = field_below s.place n in
      let c = cut-plain 44 (tail 44 ss n) (tail-starts ss 44 n) (spell s.kind s.low (field_of s.place n))
      (spell-plain s.low (count_of s.place) (field_of s.place n) s.kind f b) in
      let r = reads-spelt s.low (count_of s.place) (field_of s.place n) s.kind f b o in
      rw (o, shown-seen s.kind (field_of s.place n) o, c.0, c.1, r) (refl, refl)

  one-taken : fitting (s ∷ ss) ≡ true → ordered (s ∷ ss) ≡ true → Taken
  one-taken f o =
      let k = s.kind in
      let u = fitting-cons s ss f in
      let v = ordered-cons s ss o in
      split (omitted k field)
      (λ m. split (hidden k) hidden_taken
      (λ h. missing-taken m h (rw (h, (omitted-optional k field m h).0) at v.0)))
      (seen-taken u.0)

-- a printed instruction reads back to what the line shows of it
pub tail-reads : (ss : List Shape) (sep a n : ℕ) → fitting ss ≡ true → ordered ss ≡ true → reads (Ok a) ss (tail sep ss n) ≡ Ok (shown a ss n)
unfolding reads finished shown tail Taken printed field
tail-reads [] sep a n f o = refl
tail-reads (s ∷ ss) sep a n f o =
    let u = one-taken s ss sep a n f o in
    rw (u.0, u.1) (tail-reads ss (sep_after s sep n) _ n (fitting-cons s ss f).1 (ordered-cons s ss o).1)

-- ---- reading, then printing

-- a sum that has failed stays so
fails : Parsed → Bool
fails (Err Malformed) = true
fails (Err Outside) = true
fails (Ok f) = false

fails-joined : (o x : Parsed) → fails o ≡ true → fails (joined o x) ≡ true
unfolding fails joined
fails-joined (Err Malformed) x h = refl
fails-joined (Err Outside) (Err Malformed) h = refl
fails-joined (Err Outside) (Err Outside) h = refl
fails-joined (Err Outside) (Ok f) h = refl
fails-joined (Ok f) x h = absurd (false≢true h)

fails-sum : (s : Shape) (o : Parsed) (t : List ℕ) → fails o ≡ true → fails (sum_after s o t) ≡ true
unfolding sum_after fails
fails-sum s o [] h = split (optional s.kind) (λ e. rw e h) (λ e. rw e refl)
fails-sum s o (x ∷ t) h = split (hidden s.kind) (λ e. rw e h) (λ e. rw e (fails-joined o _ h))

fails-reads : (ss : List Shape) (o : Parsed) (t : List ℕ) → fails o ≡ true → fails (reads o ss t) ≡ true
unfolding reads finished fails
fails-reads [] o [] h = h
fails-reads [] o (x ∷ t) h = refl
fails-reads (s ∷ ss) o t h = fails-reads ss (sum_after s o t) (rest_after s.kind t) (fails-sum s o t h)

no_field : {A : Type 0} (ss : List Shape) (o : Parsed) (t : List ℕ) (m : ℕ) → fails o ≡ true → reads o ss t ≡ Ok m → A
unfolding fails
no_field ss o t m h e = absurd (false≢true (sym (ap fails e) ∙ fails-reads ss o t h))

-- meeting goes both ways
meets-both : (p q : Place) → meets q p ≡ false → meets p q ≡ false
unfolding meets
meets-both p q h = swap (ltb (low_bit q) (end_bit p)) (ltb (low_bit p) (end_bit q)) h
  where
    swap : (a b : Bool) → a && b ≡ false → b && a ≡ false
    swap false true h = refl
    swap false false h = refl
    swap true true h = h
    swap true false h = refl

-- what is put at a place leaves clear what has no bit in common with it
clear_kept : (ss : List Shape) (p : Place) (a f : ℕ) → covers ss p ≡ false → field_of p a ≡ 0 → f < count_of p → clear a ss ≡ true → clear (a + unit_of p * f) ss ≡ true
unfolding clear
clear_kept [] p a f m z h c = refl
clear_kept (s ∷ ss) p a f m z h c =
    let u = covers-cons s ss p m in
    let v = clear-cons a s ss c in
    rw (field-other p s.place a f (meets-both p s.place u.0) z h, v.0) (clear_kept ss p a f u.1 z h v.1)

-- what is known of a text that is read as the number m: it is what m prints, and elsewhere m is a
pub record Came (ss : List Shape) (sep a m : ℕ) (t : List ℕ) : Type 0 where
  pub prints : tail sep ss m ≡ t
  pub keeps : (q : Place) → covers ss q ≡ false → field_of q m ≡ field_of q a

-- a shape that takes nothing
module _ (s : Shape) (ss : List Shape) (sep a m : ℕ) (t : List ℕ) (c : Came ss sep a m t) where
  came-past : omitted s.kind (field_of s.place m) ≡ true → Came (s ∷ ss) sep a m t
  unfolding tail piece sep_after
  came-past o = record { prints = rw o c.prints; keeps = λ q h. c.keeps q (covers-cons s ss q h).1 }

-- a shape that takes the field f
module _ (s : Shape) (ss : List Shape) (sep a m f : ℕ) (t : List ℕ) (scat : covers ss s.place ≡ false) (zero : field_of s.place a ≡ 0)
    (below : f < count_of s.place) (c : Came ss 44 (a + unit_of s.place * f) m (onward 44 t)) where
  found : field_of s.place m ≡ f
  found = c.keeps s.place scat ∙ field-made s.place a f zero below

  came-on : spell s.kind s.low f ≡ before 44 t → omitted s.kind f ≡ false → Came (s ∷ ss) sep a m (sep ∷ t)
  unfolding tail piece sep_after
  came-on e o = record {
    prints = rw (found, o, e, c.prints) (ap (λ u. sep ∷ u) (cut 44 t));
    keeps = λ q h.
        let u = covers-cons s ss q h in
        c.keeps q u.1 ∙ field-other s.place q a f u.0 zero below;
  }

module _ (sep a m : ℕ) where
  -- what an operand was taken for
  took : (s : Shape) (ss : List Shape) (t : List ℕ) (o : Parsed) → taken_as s.kind s.low (count_of s.place) (before 44 t) ≡ o
      → fitting (s ∷ ss) ≡ true → scattered (s ∷ ss) ≡ true → clear a (s ∷ ss) ≡ true
      → ((b : ℕ) → clear b ss ≡ true → reads (Ok b) ss (onward 44 t) ≡ Ok m → Came ss 44 b m (onward 44 t))
      → reads (joined (Ok a) (placed s.place o)) ss (onward 44 t) ≡ Ok m → Came (s ∷ ss) sep a m (sep ∷ t)
  unfolding joined placed fails
  took s ss t (Err Malformed) w f p c ih e = no_field ss (Err Malformed) (onward 44 t) m refl e
  took s ss t (Err Outside) w f p c ih e = no_field ss (Err Outside) (onward 44 t) m refl e
  took s ss t (Ok g) w f p c ih e =
      let u = spells-read s.low (count_of s.place) g s.kind (before 44 t) (fitting-cons s ss f).0 w in
      let x = (scattered-cons s ss p).0 in
      let z = clear-cons a s ss c in
      came-on s ss sep a m g t x z.0 u.1
      (ih (a + unit_of s.place * g) (clear_kept ss s.place a g x z.0 u.1 z.1) e) u.0 u.2

-- a text that is read as a number is what the number prints
pub reads-tail : (ss : List Shape) (sep a m : ℕ) (t : List ℕ) → fitting ss ≡ true → scattered ss ≡ true → clear a ss ≡ true → Starts sep t
    → reads (Ok a) ss t ≡ Ok m → Came ss sep a m t
unfolding reads finished tail sum_after rest_after taken fails
reads-tail [] sep a m [] f p c b e = record { prints = refl; keeps = λ q h. ap (field_of q) (sym (field-field e)) }
reads-tail [] sep a m (x ∷ t) f p c b e = malformed-field e
reads-tail (s ∷ ss) sep a m [] f p c b e =
    split (optional s.kind)
    (λ h.
    let z = clear-cons a s ss c in
    let i = reads-tail ss sep a m [] (fitting-cons s ss f).1 (scattered-cons s ss p).1 z.1 tt (rw h at e) in
    came-past s ss sep a m [] i (optional-omitted s.kind (field_of s.place m) h (i.keeps s.place (scattered-cons s ss p).0 ∙ z.0)))
    (λ h. no_field ss (Err Malformed) [] m refl (rw h at e))
reads-tail (s ∷ ss) sep a m (x ∷ t) f p c b e =
    split (hidden s.kind)
    (λ h.
    came-past s ss sep a m (x ∷ t) (reads-tail ss sep a m (x ∷ t) (fitting-cons s ss f).1 (scattered-cons s ss p).1 (clear-cons a s ss c).1 b (rw h at e))
    (hidden-omitted s.kind (field_of s.place m) h))
    (λ h.
    rw b
    (took sep a m s ss t (taken_as s.kind s.low (count_of s.place) (before 44 t)) refl f p c
    (λ d k r. reads-tail ss 44 d m (onward 44 t) (fitting-cons s ss f).1 (scattered-cons s ss p).1 k (onward-starts 44 t) r)
    (rw h at e)))

-- ---- instructions with the same fields print alike

abbrev pub Alike : List Shape → ℕ → ℕ → Type 0
Alike [] n m = Unit {0}
Alike (s ∷ ss) n m = (field_of s.place n ≡ field_of s.place m) × Alike ss n m

pub tail-alike : (ss : List Shape) (sep n m : ℕ) → Alike ss n m → tail sep ss n ≡ tail sep ss m
unfolding tail piece sep_after
tail-alike [] sep n m h = refl
tail-alike (s ∷ ss) sep n m h = rw h.0 (ap (λ t. piece s sep m ++ t) (tail-alike ss (sep_after s sep m) n m h.1))

pub alike-first : (ss : List Shape) (m v : ℕ) → covers ss Second ≡ false → Alike ss (m % 65536 + 65536 * v) m
alike-first [] m v h = tt
alike-first (s ∷ ss) m v h =
    let u = covers-cons s ss Second h in
    (field-first s.place m v u.0, alike-first ss m v u.1)

pub alike_both : (ss : List Shape) (m : ℕ) → Alike ss (m % 65536 + 65536 * (m / 65536 % 65536)) m
alike_both [] m = tt
alike_both (s ∷ ss) m = (field_both s.place m, alike_both ss m)

-- ---- the number that a line shows

-- what is shown leaves alone what has no bit in common with it
pub shown-keeps : (ss : List Shape) (a n : ℕ) → scattered ss ≡ true → clear a ss ≡ true → (q : Place) → covers ss q ≡ false → field_of q (shown a ss n) ≡ field_of q a
unfolding shown
shown-keeps [] a n p c q f = refl
shown-keeps (s ∷ ss) a n p c q f =
    let x = scattered-cons s ss p in
    let z = clear-cons a s ss c in
    let u = covers-cons s ss q f in
    let b = field_below s.place n in
    split (hidden s.kind)
    (λ h. rw h (shown-keeps ss a n x.1 z.1 q u.1))
    (λ h. rw h (shown-keeps ss _ n x.1 (clear_kept ss s.place a _ x.0 z.0 b z.1) q u.1 ∙ field-other s.place q a _ u.0 z.0 b))

-- the fields of m are those of n, and 0 where they are hidden
abbrev pub Held : List Shape → ℕ → ℕ → Type 0
Held [] m n = Unit {0}
Held (s ∷ ss) m n = (field_of s.place m ≡ cond (hidden s.kind) 0 (field_of s.place n)) × Held ss m n

pub shown-held : (ss : List Shape) (a n : ℕ) → scattered ss ≡ true → clear a ss ≡ true → Held ss (shown a ss n) n
unfolding shown
shown-held [] a n p c = tt
shown-held (s ∷ ss) a n p c =
    let x = scattered-cons s ss p in
    let z = clear-cons a s ss c in
    let b = field_below s.place n in
    split (hidden s.kind)
    (λ h. rw h (shown-keeps ss a n x.1 z.1 s.place x.0 ∙ z.0, shown-held ss a n x.1 z.1))
    (λ h.
    let k = clear_kept ss s.place a (field_of s.place n) x.0 z.0 b z.1 in
    let m = a + unit_of s.place * field_of s.place n in
    rw h (shown-keeps ss m n x.1 k s.place x.0 ∙ field-made s.place a _ z.0 b, shown-held ss m n x.1 k))

-- whether the first shape that has a bit of a place is hidden
unfoldable pub hides : List Shape → Place → Bool
hides [] q = false
hides (s ∷ ss) q = cond (meets s.place q) (hidden s.kind) (hides ss q)

-- so such a number has n's digits, and 0 where they are hidden, wherever a shape has a bit
pub held-digit : (ss : List Shape) (m n : ℕ) {q : Place} → Digit q → Held ss m n → covers ss q ≡ true → field_of q m ≡ cond (hides ss q) 0 (field_of q n)
unfolding covers hides field_of
held-digit [] m n d a f = absurd (false≢true f)
held-digit (s ∷ ss) m n {q} d a f =
    split (meets s.place q)
    (λ t. split (hidden s.kind)
    (λ h.
    let z : field_of s.place m ≡ field_of s.place 0 = (rw h at a.0) ∙ sym (field-zero s.place) in
    rw (t, h) (field-within s.place m 0 d t z ∙ field-zero q))
    (λ h. rw (t, h) (field-within s.place m n d t (rw h at a.0))))
    (λ t. rw t (held-digit ss m n d a.1 (rw t at f)))

-- where no shape has a bit, none is hidden
pub hides-none : (ss : List Shape) (q : Place) → covers ss q ≡ false → hides ss q ≡ false
unfolding hides
hides-none [] q f = refl
hides-none (s ∷ ss) q f =
    let u = covers-cons s ss q f in
    rw u.0 (hides-none ss q u.1)

-- ---- how long operands are

-- the most bytes of an operand's kind
abbrev width : Kind → ℕ
width Register = 3
width Number = 3
width Label = 4
width Word = 4
width Index = 3
width Unread = 0

-- whether a kind's numbers have at most so many digits
abbrev narrow : Kind → ℕ → ℕ → Bool
narrow Register low count = leb (low + count) 100
narrow Number low count = leb (low + count) 1000
narrow Label low count = eqb count 256
narrow Word low count = true
narrow Index low count = leb (low + count) 100
narrow Unread low count = true

module _ (low count f : ℕ) (h : f < count) where
  spell-width : (k : Kind) → narrow k low count ≡ true → length (spell k low f) ≤ width k
  unfolding spell hex
  spell-width Register t = omega (arith, two_digits (low + f) (omega (arith, leb-true (low + count) 100 t)))
  spell-width Number t = three-digits (low + f) (omega (arith, leb-true (low + count) 1000 t))
  spell-width Label t =
      split (ltb f 128)
      (λ e. rw e (omega (arith, three-digits f (omega (arith, ltb-true f 128 e)))))
      (λ e. rw e (omega (arith, three-digits (256 - f) (omega arith))))
  spell-width Word t = omega arith
  spell-width Index t = omega (arith, two_digits (low + f) (omega (arith, leb-true (low + count) 100 t)))
  spell-width Unread t = omega arith

-- whether all are narrow, and the most bytes of all, each with its separator
unfoldable pub slim : List Shape → Bool
slim [] = true
slim (s ∷ ss) = narrow s.kind s.low (count_of s.place) && slim ss

unfoldable pub widths : List Shape → ℕ
widths [] = 0
widths (s ∷ ss) = cond (hidden s.kind) 0 (1 + width s.kind) + widths ss

piece-width : (s : Shape) (sep n : ℕ) → narrow s.kind s.low (count_of s.place) ≡ true → length (piece s sep n) ≤ cond (hidden s.kind) 0 (1 + width s.kind)
unfolding piece
piece-width s sep n t =
    split (omitted s.kind (field_of s.place n))
    (λ o. rw o (omega arith))
    (λ o. rw (o, shown-seen s.kind (field_of s.place n) o) (omega (arith, spell-width s.low (count_of s.place) (field_of s.place n) (field_below s.place n) s.kind t)))

pub tail-width : (ss : List Shape) (sep n : ℕ) → slim ss ≡ true → length (tail sep ss n) ≤ widths ss
unfolding tail slim widths
tail-width [] sep n t = omega arith
tail-width (s ∷ ss) sep n t =
    let u = both (narrow s.kind s.low (count_of s.place)) (slim ss) t in
    simp length-append (omega (arith, piece-width s sep n u.0, tail-width ss (sep_after s sep n) n u.1))
