-- What the theorems on lines rest on (`RoundTrip`): a printed line read, a read line printed, and the decoder's form of a box. Assumes nothing.
use Prim.Native.Nat.{ℕ, ◌+◌, ◌*◌, ◌/◌, ◌%◌, ◌<◌}
use mathlib.Core.Path.{◌≡◌, refl, sym, ap, ◌∙◌}
use mathlib.Core.Bool.{Bool, true, false, cond, false≢true}
use mathlib.Core.List.{List, [], ◌∷◌, ◌++◌}
use mathlib.Core.Option.{Option, none, some}
use native.Mathlib.Omega.{arith}
use Rattle.choice.specs.Search.{found}
use Rattle.choice.specs.Table.{among}
use Rattle.choice.proofs.TestLaws.{split}
use Rattle.text.specs.Texts.{blank, bytes_of}
use Rattle.decode.specs.Operands.{Z8, Z12}
use Rattle.decode.specs.Forms.{length_of}
use Rattle.decode.specs.Pages.{Line, pages}
use Rattle.decode.specs.Decode.{line_form, first_of, decode_of}
use Rattle.line_operand.specs.declared.Place.{Place}
use Rattle.line_operand.specs.declared.Place.TheVariants.{Lower, Upper, Base, Top, Second, Nowhere, Byte}
use Rattle.std.proofs.Common.{Ok, Err}
use Rattle.line_operand.specs.Numerals.{before, onward}
use Rattle.line_operand.specs.Shapes.{field_of, meets, covers}
use Rattle.line_operand.specs.Operands.{Parsed, tail, reads}
use Rattle.line_operand.proofs.NumeralLaws.{cut, onward-starts, cut-plain}
use Rattle.line_operand.proofs.PlaceLaws.{Digit, lower, upper, base, top, second, field-first, word_same}
use Rattle.line_operand.proofs.RowLaws.{shown, shown-keeps, shown-held, hides, hides-none, held-digit, Came, tail-starts, tail-reads, reads-tail, Alike, tail-alike, alike-first, alike_both}
use Rattle.line_table.specs.Boxes.{same_text, claims_word, box_of, box_named, base_of, shapes_of}
use Rattle.line_table.proofs.BoxLaws.{Sound, named-sound, named-name, named-claimed, kept-claims, claims-kept, top-fixed, no_name}
use Rattle.line.specs.Lines.{line_by, line_of, words_from, read_by, read_line, Prints, cleared_word, cleared_by}

-- ---- small facts

-- no line is printed without a box, and nothing is read of it
pub nothing_read : (n w v : ℕ) → read_line (line_by none n) ≡ cleared_by none w v
unfolding read_line read_by before line_by cleared_by
nothing_read n w v = rw no_name refl

-- a text with a name in front has bytes
pub no_bytes : (t u : List ℕ) → same_text t [] ≡ false → t ++ u ≡ [] → ⊥
unfolding same_text
no_bytes [] u f e = false≢true (sym f)
no_bytes (x ∷ t) u f e = let z : ◌≡◌ {A = ℕ} 1 0 = ap some_byte e in let y : ⊥ = omega arith in y
  where
    some_byte : List ℕ → ℕ
    some_byte [] = 0
    some_byte (x ∷ t) = 1

-- a form with a length is not 0
pub no_length : (form : ℕ) (b : Bool) → length_of form ≡ cond b 2 1 → form ≡ 0 → ⊥
no_length form true e z = let y : ⊥ = omega arith in y
no_length form false e z = let y : ⊥ = omega arith in y

pub single : (b : Bool) → (b ≡ true → ⊥) → b ≡ false
single true f = absurd (f refl)
single false f = refl

-- the form of a box; none is illegal
unfoldable pub form_from : Option Line → ℕ
form_from none = 0
form_from (some l) = line_form l

-- ---- printing, then reading

-- the name and the operands of a printed line
module _ (l : Line) (s : Sound l) (n : ℕ) where
  pub line-cut : (before blank (line_by (some l) n) ≡ bytes_of l.name) × (onward blank (line_by (some l) n) ≡ tail blank (shapes_of l) n)
  unfolding line_by
  line-cut = cut-plain blank (tail blank (shapes_of l) n) (tail-starts (shapes_of l) blank n) (bytes_of l.name) s.unbroken

  pub line_read : box_named (bytes_of l.name) ≡ some l → read_line (line_by (some l) n) ≡ words_from (covers (shapes_of l) Second) (Ok (shown (base_of l) (shapes_of l) n))
  unfolding read_line read_by
  line_read e = rw (line-cut.0, line-cut.1, e, tail-reads (shapes_of l) blank (base_of l) n s.fit s.order) refl

-- the words that are read back: each field of the box as it was, or 0 where no line shows it
module _ (w v : ℕ) (h : w < 65536) (k : v < 65536) (l : Line) (s : Sound l) (p : claims_word w l ≡ true) where
  number : ℕ
  number = shown (base_of l) (shapes_of l) (w + 65536 * v)

  -- a field of the first word
  of-first : (q : Place) → meets q Second ≡ false → field_of q (w + 65536 * v) ≡ field_of q w
  of-first q x =
      let a : (w + 65536 * v) % 65536 ≡ w = omega arith in
      let b : w + 65536 * 0 ≡ w = omega arith in
      sym (field-first q (w + 65536 * v) 0 x) ∙ rw (a, b) refl

  digit : (q : Place) → Digit q → meets q Second ≡ false → field_of q number ≡ cond (hides (shapes_of l) q) 0 (field_of q w)
  unfolding number
  digit q d x =
      split (covers (shapes_of l) q)
      (λ t.
      held-digit (shapes_of l) number (w + 65536 * v) d (shown-held (shapes_of l) (base_of l) (w + 65536 * v) s.scatter s.zero) t
      ∙ ap (λ f. cond (hides (shapes_of l) q) 0 f) (of-first q x))
      (λ t.
      shown-keeps (shapes_of l) (base_of l) (w + 65536 * v) s.scatter s.zero q t
      ∙ sym (claims-kept l s.tie w h p q d x t)
      ∙ rw (hides-none (shapes_of l) q t) refl)

  digit-first : (q : Place) → Digit q → meets q Second ≡ false → field_of q (number % 65536) ≡ cond (hides (shapes_of l) q) 0 (field_of q w)
  digit-first q d x =
      let a : number % 65536 ≡ number % 65536 + 65536 * 0 = omega arith in
      ap (field_of q) a ∙ field-first q number 0 x ∙ digit q d x

  -- and of the first word with those fields as 0
  clear-x : cond (among Z8 l.operands) 0 (w / 16 % 16) < 16
  clear-x = split (among Z8 l.operands) (λ e. rw e (omega arith)) (λ e. rw e (omega arith))

  clear-y : cond (among Z12 l.operands) 0 (w % 16) < 16
  clear-y = split (among Z12 l.operands) (λ e. rw e (omega arith)) (λ e. rw e (omega arith))

  clear-digit : (q : Place) → Digit q → meets q Second ≡ false → field_of q (cleared_word l w) ≡ cond (hides (shapes_of l) q) 0 (field_of q w)
  unfolding field_of meets cleared_word
  clear-digit Top top x = rw (hides-none (shapes_of l) Top (top-fixed l s.tie)) (made-top (w / 256) _ _ clear-x clear-y ∙ omega arith)
    where
      made-top : (f x y : ℕ) → x < 16 → y < 16 → (f * 256 + 16 * x + y) / 1024 % 64 ≡ f / 4 % 64
      made-top f x y i j = omega arith
  clear-digit Base base x = rw s.veil.2 (made-base (w / 256) _ _ clear-x clear-y)
    where
      made-base : (f x y : ℕ) → x < 16 → y < 16 → (f * 256 + 16 * x + y) / 256 % 4 ≡ f % 4
      made-base f x y i j = omega arith
  clear-digit Upper upper x = rw s.veil.0 (made-upper (w / 256) _ _ clear-x clear-y)
    where
      made-upper : (f x y : ℕ) → x < 16 → y < 16 → (f * 256 + 16 * x + y) / 16 % 16 ≡ x
      made-upper f x y i j = omega arith
  clear-digit Lower lower x = rw s.veil.1 (made-lower (w / 256) _ _ clear-x clear-y ∙ ap (λ f. cond (among Z12 l.operands) 0 f) (omega arith))
    where
      made-lower : (f x y : ℕ) → x < 16 → y < 16 → (f * 256 + 16 * x + y) / 1 % 16 ≡ y
      made-lower f x y i j = omega arith
  clear-digit Second second x = absurd (false≢true (sym x))
  clear-digit Nowhere d x = elim d [ ]
  clear-digit Byte d x = elim d [ ]

  clear-small : cleared_word l w < 65536
  unfolding cleared_word
  clear-small = omega (arith, clear-x, clear-y)

  first-same : number % 65536 ≡ cleared_word l w
  first-same = word_same (number % 65536) (cleared_word l w) (omega arith) clear-small (λ q d x. digit-first q d x ∙ sym (clear-digit q d x))

  second-same : covers (shapes_of l) Second ≡ true → number / 65536 % 65536 ≡ v
  unfolding field_of number
  second-same t =
      let e : (w + 65536 * v) / 65536 % 65536 ≡ v = omega arith in
      held-digit (shapes_of l) number (w + 65536 * v) second (shown-held (shapes_of l) (base_of l) (w + 65536 * v) s.scatter s.zero) t
      ∙ rw s.veil.3 e

  pub read_back : words_from (covers (shapes_of l) Second) (Ok (shown (base_of l) (shapes_of l) (w + 65536 * v))) ≡ cleared_by (some l) w v
  unfolding words_from cleared_by number
  read_back =
      split (covers (shapes_of l) Second)
      (λ t. rw (t, first-same, second-same t) refl)
      (λ t. rw (t, first-same) refl)

-- ---- reading, then printing

-- a number m that was read from the line t as an instruction of the box l
module _ (l : Line) (t : List ℕ) (m : ℕ) (e : box_named (before blank t) ≡ some l) (r : reads (Ok (base_of l)) (shapes_of l) (onward blank t) ≡ Ok m) where
  came : Came (shapes_of l) blank (base_of l) m (onward blank t)
  came =
      let s = named-sound (before blank t) l e in
      reads-tail (shapes_of l) blank (base_of l) m (onward blank t) s.fit s.scatter s.zero (onward-starts blank t) r

  -- the box claims its first word
  its-box : box_of (m % 65536) ≡ some l
  its-box = named-claimed (before blank t) l (m % 65536) e (kept-claims l (named-sound (before blank t) l e).tie m came.keeps)

  -- an instruction with its first word and its fields prints as the line
  reprints : (v : ℕ) → Alike (shapes_of l) (m % 65536 + 65536 * v) m → line_of (m % 65536) v ≡ t
  unfolding line_of line_by
  reprints v a =
      rw (its-box, named-name (before blank t) l e, tail-alike (shapes_of l) blank (m % 65536 + 65536 * v) m a, came.prints) (cut blank t)

module _ (l : Line) (t : List ℕ) (e : box_named (before blank t) ≡ some l) where
  pub answered : (o : Parsed) → reads (Ok (base_of l)) (shapes_of l) (onward blank t) ≡ o → Prints (words_from (covers (shapes_of l) Second) o) t
  unfolding words_from
  answered (Err e) r = tt
  answered (Ok m) r =
      split (covers (shapes_of l) Second)
      (λ f. rw f (reprints l t m e r (m / 65536 % 65536) (alike_both (shapes_of l) m)))
      (λ f. rw f (λ v. reprints l t m e r v (alike-first (shapes_of l) m v f)))

-- ---- printing and the decoder

-- the form of a first word is that of its box
first-form : (c : Line → Bool) (ls : List Line) → first_of c line_form ls ≡ form_from (found c ls)
unfolding form_from
first-form c [] = refl
first-form c (l ∷ ls) = split (c l) (λ e. rw e refl) (λ e. rw e (first-form c ls))

pub form_of : (w : ℕ) → decode_of w ≡ form_from (box_of w)
unfolding decode_of box_of
form_of w = first-form (claims_word w) pages
