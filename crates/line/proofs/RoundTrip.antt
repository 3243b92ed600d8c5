-- The theorems on mnemonic lines: there and back, the decoder's legal words, the second word, the length. They speak of the definitions that the contracts of `print` and `read`
-- cite (`line_of`, `read_line`). Assumes nothing.
use Prim.Native.Nat.{ℕ, ◌+◌, ◌*◌, ◌%◌, ◌≤◌, ◌<◌}
use mathlib.Core.Path.{◌≡◌, refl, sym, ap, ◌∙◌}
use mathlib.Core.Bool.{false}
use mathlib.Core.List.{List, [], ◌++◌}
use mathlib.Core.Option.{Option, none, some}
use native.Mathlib.Omega.{arith}
use lib.ListN.{length, length-append}
use Rattle.text.specs.Texts.{blank, bytes_of}
use Rattle.decode.specs.Forms.{length_of}
use Rattle.decode.specs.Pages.{Line}
use Rattle.decode.specs.Decode.{line_form, decode_of}
use Rattle.line_operand.specs.declared.Place.TheVariants.{Second}
use Rattle.line_operand.specs.Numerals.{before, onward}
use Rattle.line_operand.specs.Shapes.{covers}
use Rattle.line_operand.specs.Operands.{tail}
use Rattle.line_operand.proofs.RowLaws.{Alike, tail-alike, alike-first, tail-width}
use Rattle.line_table.specs.Boxes.{box_of, box_named, shapes_of}
use Rattle.line_table.proofs.BoxLaws.{claimed-sound, claimed-claims, claimed-named}
use Rattle.line.specs.Lines.{line_by, line_of, read_by, read_line, Prints, cleared_by, cleared}
use Rattle.line.proofs.LineLaws.{nothing_read, no_bytes, no_length, single, form_from, form_of, line_read, read_back, answered}

-- words made from a line print as that line
pub read-print : (t : List ℕ) → Prints (read_line t) t
unfolding read_line read_by
read-print t = of (box_named (before blank t)) refl
  where
    of : (o : Option Line) → box_named (before blank t) ≡ o → Prints (read_by (box_named (before blank t)) (onward blank t)) t
    of none e = rw e tt
    of (some l) e = rw e (answered l t e _ refl)

-- a printed instruction reads back to its words, with the fields that are not looked at as 0; what does not print is refused by 14 either way
pub print-read : (w v : ℕ) → w < 65536 → v < 65536 → read_line (line_of w v) ≡ cleared w v
unfolding line_of cleared
print-read w v h k = of (box_of w) refl
  where
    of : (o : Option Line) → box_of w ≡ o → read_line (line_by (box_of w) (w + 65536 * v)) ≡ cleared_by (box_of w) w v
    of none e = rw e (nothing_read (w + 65536 * v) w v)
    of (some l) e =
        let s = claimed-sound w l e in
        rw e (line_read l s (w + 65536 * v) (claimed-named w l e) ∙ read_back w v h k l s (claimed-claims w l e))

-- a word prints exactly when it begins a legal instruction
pub prints-legal : (w v : ℕ) → (line_of w v ≡ [] → decode_of w ≡ 0) × (decode_of w ≡ 0 → line_of w v ≡ [])
unfolding line_of line_by form_from
prints-legal w v = of (box_of w) refl
  where
    of : (o : Option Line) → box_of w ≡ o → (line_by (box_of w) (w + 65536 * v) ≡ [] → decode_of w ≡ 0) × (decode_of w ≡ 0 → line_by (box_of w) (w + 65536 * v) ≡ [])
    of none e = (λ z. form_of w ∙ rw e refl, λ z. rw e refl)
    of (some l) e =
        let s = claimed-sound w l e in (
          λ z. absurd (no_bytes (bytes_of l.name) (tail blank (shapes_of l) (w + 65536 * v)) s.some-name (rw e at z)),
          λ z. absurd (no_length (line_form l) (covers (shapes_of l) Second) s.long (sym (form_of w ∙ rw e refl) ∙ z)),
        )

-- the line of an instruction of one word is the same whatever its second word is
pub one_word : (w v u : ℕ) → w < 65536 → (length_of (decode_of w) ≡ 2 → ⊥) → line_of w v ≡ line_of w u
unfolding line_of line_by form_from
one_word w v u h n = of (box_of w) refl
  where
    of : (o : Option Line) → box_of w ≡ o → line_by (box_of w) (w + 65536 * v) ≡ line_by (box_of w) (w + 65536 * u)
    of none e = rw e refl
    of (some l) e =
        let s = claimed-sound w l e in
        let m = w + 65536 * u in
        let q : m % 65536 ≡ w = omega arith in
        let f : covers (shapes_of l) Second ≡ false = single (covers (shapes_of l) Second) (λ t. n (ap length_of (form_of w ∙ rw e refl) ∙ s.long ∙ rw t refl)) in
        let a : Alike (shapes_of l) (w + 65536 * v) m = rw q at (alike-first (shapes_of l) m v f) in
        rw e (ap (λ x. bytes_of l.name ++ x) (tail-alike (shapes_of l) blank (w + 65536 * v) m a))

-- no line is longer than 17 bytes
pub line-short : (w v : ℕ) → length (line_of w v) ≤ 17
unfolding line_of line_by
line-short w v = of (box_of w) refl
  where
    of : (o : Option Line) → box_of w ≡ o → length (line_by (box_of w) (w + 65536 * v)) ≤ 17
    of none e = rw e (omega arith)
    of (some l) e =
        let s = claimed-sound w l e in
        rw e (simp length-append (omega (arith, s.room, tail-width (shapes_of l) blank (w + 65536 * v) s.thin)))
