-- Fields at their places: what is put at a clear place is found there, and elsewhere nothing changes. Assumes nothing.
use Prim.Native.Nat.{ℕ, ◌+◌, ◌-◌, ◌*◌, ◌/◌, ◌%◌, ◌^◌, ◌≤◌, ◌<◌}
use mathlib.Core.Path.{◌≡◌, refl, sym, ap, ◌∙◌}
use mathlib.Core.Bool.{Bool, true, false, cond, ◌&&◌}
use native.Mathlib.Nat.{add-mul-div_left, add-mul-mod_self_left, add-sub_of_le, div-add-mod', mod-eq_of_lt, mod-lt, mod-one, mul_assoc, sub-add_cancel, zero-div, zero-mod}
use native.Mathlib.Omega.{arith}
use lib.Dec.{leb, ltb}
use lib.Pow.{field, high, low, mod-mod-pow, mod-pow-add, pow-add, pow_pos, shr-shr}
use borrow.Author.Tests.{leb-true, ltb-false}
use Rattle.choice.proofs.TestLaws.{split, both}
use Rattle.line_operand.specs.declared.Place.{Place}
use Rattle.line_operand.specs.declared.Place.TheVariants.{Nowhere, Lower, Upper, Byte, Base, Top, Second}
use Rattle.line_operand.specs.Shapes.{low_bit, end_bit, unit_of, count_of, field_of, meets}

-- ---- bits i to j of a number n, without j: n / 2 ^ i % 2 ^ (j - i)

-- a multiple of a power of two as one of a lower power
lower_power : (i j f : ℕ) → i ≤ j → 2 ^ j * f ≡ 2 ^ i * (2 ^ (j - i) * f)
lower_power i j f h = ap (λ x. 2 ^ x * f) (sym (add-sub_of_le h)) ∙ ap (λ x. x * f) (pow-add 2 i (j - i)) ∙ mul_assoc (2 ^ i) (2 ^ (j - i)) f

-- the number from the bit j on, by the number from an earlier bit on
higher : (i j n : ℕ) → i ≤ j → n / 2 ^ j ≡ n / 2 ^ i / 2 ^ (j - i)
higher i j n h = ap (λ x. n / 2 ^ x) (sym (add-sub_of_le h)) ∙ sym (shr-shr n i (j - i))

-- what is added above them does not change them
bits_above : (i j k a f : ℕ) → i ≤ j → j ≤ k → (a + 2 ^ k * f) / 2 ^ i % 2 ^ (j - i) ≡ a / 2 ^ i % 2 ^ (j - i)
bits_above i j k a f h l =
    ap (λ x. (a + x) / 2 ^ i % 2 ^ (j - i)) (lower_power j k f l ∙ lower_power i j _ h)
    ∙ ap (λ x. x % 2 ^ (j - i)) (add-mul-div_left a _ (pow_pos i)) ∙ add-mul-mod_self_left (a / 2 ^ i) (2 ^ (j - i)) _

-- the number from the bit i on, after f is added there and the w bits from i on were 0
bits-added : (i w a f : ℕ) → a / 2 ^ i % 2 ^ w ≡ 0 → (a + 2 ^ i * f) / 2 ^ i ≡ a / 2 ^ i / 2 ^ w * 2 ^ w + f
bits-added i w a f z = add-mul-div_left a f (pow_pos i) ∙ ap (λ x. x + f) (omega (arith, div-add-mod' (a / 2 ^ i) (2 ^ w)))

-- what is added below them where there was 0, and fits there, does not change them
bits_below : (i j k a f : ℕ) → i ≤ j → j ≤ k → a / 2 ^ i % 2 ^ (j - i) ≡ 0 → f < 2 ^ (j - i) → (a + 2 ^ i * f) / 2 ^ k ≡ a / 2 ^ k
bits_below i j k a f h l z b = higher j k _ l ∙ ap (λ x. x / 2 ^ (k - j)) same ∙ sym (higher j k a l)
  where
    same : (a + 2 ^ i * f) / 2 ^ j ≡ a / 2 ^ j
    same = higher i j _ h ∙ ap (λ x. x / 2 ^ (j - i)) (bits-added i (j - i) a f z) ∙ high _ (j - i) b ∙ sym (higher i j a h)

-- bits k to l that lie within bits i to j, by those
bits-within : (i j k l n : ℕ) → i ≤ k → k ≤ l → l ≤ j → n / 2 ^ k % 2 ^ (l - k) ≡ n / 2 ^ i % 2 ^ (j - i) / 2 ^ (k - i) % 2 ^ (l - k)
bits-within i j k l n g h e =
    let w : j - l + (l - k) + (k - i) ≡ j - i = omega arith in
    ap (λ x. x % 2 ^ (l - k)) (higher i k n g) ∙ sym (mod-mod-pow _ (j - l) (l - k))
    ∙ ap (λ x. x % 2 ^ (l - k)) (sym (field (n / 2 ^ i) (j - l + (l - k)) (k - i)) ∙ ap (λ x. n / 2 ^ i % 2 ^ x / 2 ^ (k - i)) w)

-- the number below the bit j, by these bits and the number below the bit i
bits-under : (i j n : ℕ) → i ≤ j → n % 2 ^ j ≡ n / 2 ^ i % 2 ^ (j - i) * 2 ^ i + n % 2 ^ i
bits-under i j n h = ap (λ x. n % 2 ^ x) (sym (sub-add_cancel h)) ∙ mod-pow-add n (j - i) i

-- ---- places

-- no place ends before its first bit, and all are within 32 bits
in-number : (p : Place) → (low_bit p ≤ end_bit p) × (low_bit p < 32) × (end_bit p ≤ 32)
in-number Nowhere = omega arith
in-number Lower = omega arith
in-number Upper = omega arith
in-number Byte = omega arith
in-number Base = omega arith
in-number Top = omega arith
in-number Second = omega arith

-- of two places without a bit in common one ends before the other
apart : {A : Type 0} (p q : Place) → meets p q ≡ false → (end_bit q ≤ low_bit p → A) → (end_bit p ≤ low_bit q → A) → A
unfolding meets
apart p q m f g = split (ltb (low_bit p) (end_bit q)) (λ t. g (ltb-false _ _ (rw t at m))) (λ t. f (ltb-false _ _ t))

pub field_below : (p : Place) (n : ℕ) → field_of p n < count_of p
unfolding field_of
field_below p n = mod-lt _ (pow_pos _)

pub field-zero : (p : Place) → field_of p 0 ≡ 0
unfolding field_of
field-zero p = ap (λ x. x % count_of p) (zero-div (unit_of p)) ∙ zero-mod (count_of p)

-- what is put at a place where there was 0
pub field-made : (p : Place) (a f : ℕ) → field_of p a ≡ 0 → f < count_of p → field_of p (a + unit_of p * f) ≡ f
unfolding field_of
field-made p a f z h = ap (λ x. x % count_of p) (bits-added (low_bit p) (end_bit p - low_bit p) a f z) ∙ low _ (end_bit p - low_bit p) h

-- a place that has no bit in common with it
pub field-other : (p q : Place) (a f : ℕ) → meets p q ≡ false → field_of p a ≡ 0 → f < count_of p → field_of q (a + unit_of p * f) ≡ field_of q a
unfolding field_of
field-other p q a f m z h =
    apart p q m
    (λ l. bits_above (low_bit q) (end_bit q) (low_bit p) a f (in-number q).0 l)
    (λ l. ap (λ x. x % count_of q) (bits_below (low_bit p) (end_bit p) (low_bit q) a f (in-number p).0 l z h))

-- a number with the same bits up to the end of a place has the same field there
field-low : (p : Place) (k n v : ℕ) → end_bit p ≤ k → field_of p (n % 2 ^ k + 2 ^ k * v) ≡ field_of p n
unfolding field_of
field-low p k n v h = above v ∙ sym (above (n / 2 ^ k)) ∙ ap (field_of p) (omega (arith, div-add-mod' n (2 ^ k)))
  where
    above : (f : ℕ) → field_of p (n % 2 ^ k + 2 ^ k * f) ≡ field_of p (n % 2 ^ k)
    above f = bits_above (low_bit p) (end_bit p) k (n % 2 ^ k) f (in-number p).0 h

-- the first word has the fields of the instruction, but for those of the second word
pub field-first : (p : Place) (n v : ℕ) → meets p Second ≡ false → field_of p (n % 65536 + 65536 * v) ≡ field_of p n
field-first p n v m = field-low p 16 n v (apart p Second m (λ l. omega (arith, in-number p)) (λ l. l))

-- both words have all its fields
pub field_both : (p : Place) (n : ℕ) → field_of p (n % 65536 + 65536 * (n / 65536 % 65536)) ≡ field_of p n
field_both p n = ap (field_of p) (omega arith) ∙ field-low p 32 n 0 (in-number p).2

-- the places that every instruction is made of: four of the first word, and the second word
pub data Digit : Place → Type 0 where
  lower : Digit Lower
  upper : Digit Upper
  base : Digit Base
  top : Digit Top
  second : Digit Second

-- whether a place that has a bit of another has all its bits: each place passes with each of the five
abbrev holds : Place → Place → Bool
holds p q = cond (meets p q) (leb (low_bit p) (low_bit q) && leb (end_bit q) (end_bit p)) true

holds-each : (p : Place) → (holds p Lower ≡ true) × (holds p Upper ≡ true) × (holds p Base ≡ true) × (holds p Top ≡ true) × (holds p Second ≡ true)
unfolding meets
holds-each Nowhere = (refl, refl, refl, refl, refl)
holds-each Lower = (refl, refl, refl, refl, refl)
holds-each Upper = (refl, refl, refl, refl, refl)
holds-each Byte = (refl, refl, refl, refl, refl)
holds-each Base = (refl, refl, refl, refl, refl)
holds-each Top = (refl, refl, refl, refl, refl)
holds-each Second = (refl, refl, refl, refl, refl)

holds-digit : (p : Place) {q : Place} → Digit q → holds p q ≡ true
holds-digit p lower = (holds-each p).0
holds-digit p upper = (holds-each p).1
holds-digit p base = (holds-each p).2
holds-digit p top = (holds-each p).3
holds-digit p second = (holds-each p).4

-- such a place lies within any place that it has a bit in common with
pub field-within : (p : Place) {q : Place} (m n : ℕ) → Digit q → meets p q ≡ true → field_of p m ≡ field_of p n → field_of q m ≡ field_of q n
unfolding field_of
field-within p {q} m n d t e = within m ∙ ap (λ x. x / 2 ^ (low_bit q - low_bit p) % count_of q) e ∙ sym (within n)
  where
    within : (n : ℕ) → field_of q n ≡ field_of p n / 2 ^ (low_bit q - low_bit p) % count_of q
    within n =
        let u = both (leb (low_bit p) (low_bit q)) (leb (end_bit q) (end_bit p)) (rw t at (holds-digit p d)) in
        bits-within (low_bit p) (end_bit p) (low_bit q) (end_bit q) n (leb-true _ _ u.0) (in-number q).0 (leb-true _ _ u.1)

-- a first word is known by its four
pub word_same : (a b : ℕ) → a < 65536 → b < 65536 → ((q : Place) → Digit q → meets q Second ≡ false → field_of q a ≡ field_of q b) → a ≡ b
unfolding field_of meets
word_same a b h k e =
    sym (mod-eq_of_lt h) ∙ joined top refl (joined base refl (joined upper refl (joined lower refl (mod-one a ∙ sym (mod-one b))))) ∙ mod-eq_of_lt k
  where
    joined : {q : Place} → Digit q → meets q Second ≡ false → a % unit_of q ≡ b % unit_of q → a % 2 ^ end_bit q ≡ b % 2 ^ end_bit q
    joined {q} d m s = rw (bits-under (low_bit q) (end_bit q) a (in-number q).0, bits-under (low_bit q) (end_bit q) b (in-number q).0, e q d m, s) refl
