-- Text after text in a buffer. Assumes nothing.
use Prim.Native.Nat.{ℕ, ◌+◌, ◌<◌, ◌≤◌, min}
use mathlib.Core.List.{List, [], ◌∷◌, ◌++◌, append_assoc, append-nil}
use mathlib.Core.Path.{◌≡◌, refl, sym, ap, subst, ◌∙◌}
use native.Mathlib.Nat.{lt_of_not-le}
use native.Mathlib.Decide.{dec_le}
use native.Mathlib.Numerals.{add-one}
use native.Mathlib.Omega.{arith}
use lib.ListN.{length, take, drop, get_or, set, take-append-drop, length-append, length-take, drop_of_length-le}
use lib.Seq.{take-suc, set_split, take_at, take_all, take-length, drop-append-add, drop-drop}
use Rattle.text.specs.Texts.{Wrote, Text}

-- no text
pub wrote_none : (b : List ℕ) (at : ℕ) → Wrote b at [] b at
wrote_none b at = record { end = omega arith; is = sym (take-append-drop at b) }

-- one byte
pub wrote_one : (b c : List ℕ) (at v : ℕ) → c ≡ set b at v → at < length b → Wrote b at (v ∷ []) c (at + 1)
wrote_one b c at v e h = record { end = refl; is = e ∙ subst (λ (n : ℕ). set b at v ≡ take at b ++ (v ∷ drop n b)) (sym (add-one at)) (set_split b at v h) }

-- a text t over a buffer b, up to byte m: the bytes up to there, and those from n bytes later on, are those of the text and of b
module _ (b t : List ℕ) (at m n : ℕ) (end : m ≡ at + length t) where
  abbrev Seam : Type 0
  Seam = (take m (take at b ++ t ++ drop m b) ≡ take at b ++ t) × (drop (m + n) (take at b ++ t ++ drop m b) ≡ drop (m + n) b)

  long : length (take at b ++ t) ≡ min at (length b) + length t
  long = rw (length-append, length-take) refl

  -- the text starts inside the buffer, or at its end
  inside : at ≤ length b → Seam
  inside h =
      let e : length (take at b ++ t) ≡ m = omega (arith, long) in
      (take_at (take at b ++ t) (drop m b) m e, subst (λ (k : ℕ). drop (k + n) (take at b ++ t ++ drop m b) ≡ drop n (drop m b)) e (drop-append-add (take at b ++ t) (drop m b) n) ∙ drop-drop n m b)

  -- or behind it: no byte is behind the text
  outside : length b < at → Seam
  outside h =
      let z : drop m b ≡ [] = drop_of_length-le b {i = m} (omega arith) in
      let l : length (take at b ++ t) ≤ m = omega (arith, long) in
      rw (z, append-nil) (take_all m (take at b ++ t) l, drop_of_length-le (take at b ++ t) {i = m + n} (omega arith) ∙ sym (drop_of_length-le b {i = m + n} (omega arith)))

  seam : Seam
  seam = elim (dec_le at (length b)) [ yes h ↦ inside h | no h ↦ outside (lt_of_not-le h) ]

-- a text, and then another
pub then : {b c d t u : List ℕ} {at m r : ℕ} → Wrote b at t c m → Wrote c m u d r → Wrote b at (t ++ u) d r
then {b = b} {c = c} {t = t} {u = u} {at = at} {m = m} p q =
    let s = seam b t at m (length u) p.end in
    let e : c ≡ take at b ++ t ++ drop m b = p.is ∙ sym (append_assoc (take at b) t (drop m b)) in
    record { end = omega (arith, length-append t u); is = q.is ∙ rw (q.end, e, s.0, s.1) (simp append_assoc) }

-- the first n bytes of a text, and then the next
pub wrote-more : {b c d : List ℕ} {at m r : ℕ} (l : List ℕ) (n : ℕ) → n < length l
    → Wrote b at (take n l) c m → Wrote c m (get_or l n 0 ∷ []) d r → Wrote b at (take (n + 1) l) d r
wrote-more l n h p q = rw (add-one, take-suc l n 0 h) (then p q)

-- all its bytes
pub wrote-all : {b c : List ℕ} {at r : ℕ} (l : List ℕ) (n : ℕ) → n ≡ length l → Wrote b at (take n l) c r → Wrote b at l c r
wrote-all {b} {c} {at} {r} l n e p = subst (λ t. Wrote b at t c r) (ap (λ k. take k l) e ∙ take-length l) p

-- a text from the start of the buffer
pub whole : {b c t : List ℕ} {r : ℕ} → Wrote b 0 t c r → Text b t c r
whole {b} {c} {t} {r} p =
    let e : r ≡ length t = omega (arith, p.end) in
    let s : take r c ≡ t = rw p.is (take_at t (drop r b) r (sym e)) in
    let l : length (take r c) ≡ length t = ap length s in
    record { end = e; is = p.is; count = omega arith; within = omega (arith, length-take r c) }

-- the bytes that are shown
pub shown : {b c t : List ℕ} {r : ℕ} → Text b t c r → take r c ≡ t
shown {b} {c} {t} {r} p = rw p.is (take_at t (drop r b) r (sym p.end))
