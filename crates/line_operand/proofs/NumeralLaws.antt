-- Numbers as bytes and back: what is printed reads as the number, and what reads as a number is printed so. Assumes nothing.
use Prim.Native.Nat.{ℕ, ◌+◌, ◌*◌, ◌-◌, ◌/◌, ◌%◌, ◌≤◌, ◌<◌}
use mathlib.Core.Path.{◌≡◌, refl, sym, ap, ◌∙◌}
use mathlib.Core.Bool.{true, false, not, ◌&&◌, false≢true}
use mathlib.Core.List.{List, [], ◌∷◌, ◌++◌}
use native.Mathlib.Omega.{arith}
use lib.Dec.{eqb, leb, ltb, lit<}
use lib.ListN.{length, get_or, length-append}
use borrow.Author.Tests.{not-true, eq-eqb, ne_eqb, lt-ltb, le-ltb, le-leb, eqb-true, leb-true, ltb-true, ltb-false}
use Rattle.std.proofs.Common.{Option, None, Some}
use Rattle.text.specs.Texts.{leading, decimal, digit, digit_of}
use Rattle.line_operand.specs.Numerals.{digits, value, plain, numeral, before, onward, lacks}
use Rattle.choice.proofs.TestLaws.{split, both}

-- ---- a text cut at a byte

-- nothing, or a text that starts with b
abbrev pub Starts : ℕ → List ℕ → Type 0
Starts b [] = Unit {0}
Starts b (x ∷ t) = x ≡ b

pub cut : (b : ℕ) (t : List ℕ) → before b t ++ onward b t ≡ t
unfolding before onward
cut b [] = refl
cut b (x ∷ t) = split (eqb x b) (λ e. rw e refl) (λ e. rw e (ap (λ u. x ∷ u) (cut b t)))

pub onward-starts : (b : ℕ) (t : List ℕ) → Starts b (onward b t)
unfolding onward
onward-starts b [] = tt
onward-starts b (x ∷ t) = split (eqb x b) (λ e. rw e (eqb-true x b e)) (λ e. rw e (onward-starts b t))

pub before-lacks : (b : ℕ) (t : List ℕ) → lacks b (before b t) ≡ true
unfolding before lacks
before-lacks b [] = refl
before-lacks b (x ∷ t) = split (eqb x b) (λ e. rw e refl) (λ e. rw e (rw e (before-lacks b t)))

module _ (b : ℕ) (r : List ℕ) (s : Starts b r) where
  at_once : (before b r ≡ []) × (onward b r ≡ r)
  unfolding before onward
  at_once = of r s
    where
      of : (r : List ℕ) → Starts b r → (before b r ≡ []) × (onward b r ≡ r)
      of [] s = (refl, refl)
      of (x ∷ r) s = rw (eq-eqb x b s) (refl, refl)

  pub cut-plain : (t : List ℕ) → lacks b t ≡ true → (before b (t ++ r) ≡ t) × (onward b (t ++ r) ≡ r)
  unfolding before onward lacks
  cut-plain [] l = at_once
  cut-plain (x ∷ t) l =
      let u = both (not (eqb x b)) (lacks b t) l in
      let e = not-true (eqb x b) u.0 in
      let q = cut-plain t u.1 in
      rw e (ap (λ v. x ∷ v) q.0, q.1)

-- ---- decimal numbers

-- the bytes of the number n: they read as n, without needless zeros, and start with a digit
pub record Spelt (n : ℕ) (t : List ℕ) : Type 0 where
  pub right : numeral t ≡ true
  pub worth : value 0 t ≡ n
  pub plain : lacks 44 t ≡ true
  pub first : eqb (get_or t 0 0) 45 ≡ false

-- a digit's byte
is_digit : (a : ℕ) → a < 10 → leb 48 (48 + a) && leb (48 + a) 57 ≡ true
is_digit a h = rw (le-leb 48 (48 + a) (omega arith), le-leb (48 + a) 57 (omega arith)) refl

other : (a k : ℕ) → k < 48 → eqb (48 + a) k ≡ false
other a k h = ne_eqb (48 + a) k (λ (e : 48 + a ≡ k). omega arith)

no-comma : (a : ℕ) → not (eqb (48 + a) 44) ≡ true
no-comma a = rw (other a 44 (lit< tt)) refl

no_zero : (a : ℕ) → 0 < a → eqb (48 + a) 48 ≡ false
no_zero a h = ne_eqb (48 + a) 48 (λ (e : 48 + a ≡ 48). omega arith)

spelt-1 : (n a : ℕ) → a < 10 → n ≡ a → Spelt n ((48 + a) ∷ [])
unfolding numeral plain digits value lacks
spelt-1 n a h e = record {
  right = rw (is_digit a h) (split (eqb (48 + a) 48) (λ z. rw z refl) (λ z. rw z refl));
  worth = omega arith;
  plain = rw (no-comma a) refl;
  first = other a 45 (lit< tt);
}

spelt-2 : (n a b : ℕ) → 0 < a → a < 10 → b < 10 → n ≡ 10 * a + b → Spelt n ((48 + a) ∷ (48 + b) ∷ [])
unfolding numeral plain digits value lacks
spelt-2 n a b z h k e = record {
  right = rw (no_zero a z, is_digit a h, is_digit b k) refl;
  worth = omega arith;
  plain = rw (no-comma a, no-comma b) refl;
  first = other a 45 (lit< tt);
}

spelt-3 : (n a b c : ℕ) → 0 < a → a < 10 → b < 10 → c < 10 → n ≡ 100 * a + (10 * b + c) → Spelt n ((48 + a) ∷ (48 + b) ∷ (48 + c) ∷ [])
unfolding numeral plain digits value lacks
spelt-3 n a b c z h k l e = record {
  right = rw (no_zero a z, is_digit a h, is_digit b k, is_digit c l) refl;
  worth = omega arith;
  plain = rw (no-comma a, no-comma b, no-comma c) refl;
  first = other a 45 (lit< tt);
}

-- a number below 1,000 has at most three digits
decimal-short : (n : ℕ) → n < 1000 → decimal n ≡ leading n 100 ++ (leading n 10 ++ ((48 + n % 10) ∷ []))
unfolding decimal leading
decimal-short n h =
    rw (
      lt-ltb n 1000000000 (omega arith),
      lt-ltb n 100000000 (omega arith),
      lt-ltb n 10000000 (omega arith),
      lt-ltb n 1000000 (omega arith),
      lt-ltb n 100000 (omega arith),
      lt-ltb n 10000 (omega arith),
      lt-ltb n 1000 h,
    ) refl

decimal-1 : (n : ℕ) → n < 10 → decimal n ≡ (48 + n % 10) ∷ []
unfolding leading
decimal-1 n h = decimal-short n (omega arith) ∙ rw (lt-ltb n 100 (omega arith), lt-ltb n 10 h) refl

decimal-2 : (n : ℕ) → 10 ≤ n → n < 100 → decimal n ≡ (48 + n / 10 % 10) ∷ (48 + n % 10) ∷ []
unfolding leading
decimal-2 n l h = decimal-short n (omega arith) ∙ rw (lt-ltb n 100 h, le-ltb n 10 l) refl

decimal-3 : (n : ℕ) → 100 ≤ n → n < 1000 → decimal n ≡ (48 + n / 100 % 10) ∷ (48 + n / 10 % 10) ∷ (48 + n % 10) ∷ []
unfolding leading
decimal-3 n l h = decimal-short n h ∙ rw (le-ltb n 100 l, le-ltb n 10 (omega arith)) refl

-- how long it is
one-digit-most : (n unit : ℕ) → length (leading n unit) ≤ 1
unfolding leading
one-digit-most n unit = split (ltb n unit) (λ e. rw e (omega arith)) (λ e. rw e (omega arith))

pub three-digits : (n : ℕ) → n < 1000 → length (decimal n) ≤ 3
three-digits n h = rw (decimal-short n h) (simp length-append (omega (arith, one-digit-most n 100, one-digit-most n 10)))

pub two_digits : (n : ℕ) → n < 100 → length (decimal n) ≤ 2
unfolding leading
two_digits n h = rw (decimal-short n (omega arith), lt-ltb n 100 h) (simp length-append (omega (arith, one-digit-most n 10)))

-- a number below 1,000 is spelt by its decimal digits
pub spelt : (n : ℕ) → n < 1000 → Spelt n (decimal n)
spelt n h =
    split (ltb n 10) (λ e. let k = ltb-true n 10 e in rw (decimal-1 n k) (spelt-1 n (n % 10) (omega arith) (omega arith)))
    (λ d. split (ltb n 100)
    (λ e.
    let k = ltb-true n 100 e in
    let l = ltb-false n 10 d in
    rw (decimal-2 n l k) (spelt-2 n (n / 10 % 10) (n % 10) (omega arith) (omega arith) (omega arith) (omega arith)))
    (λ e.
    let l = ltb-false n 100 e in
    rw (decimal-3 n l h) (spelt-3 n (n / 100 % 10) (n / 10 % 10) (n % 10) (omega arith) (omega arith) (omega arith) (omega arith) (omega arith))))

-- a number is no smaller with more digits
grows : (v : ℕ) (t : List ℕ) → v ≤ value v t
unfolding value
grows v [] = omega arith
grows v (b ∷ t) = omega (arith, grows (10 * v + (b - 48)) t)

-- the first of some digits
digit-first : (b : ℕ) (t : List ℕ) → digits (b ∷ t) ≡ true → (48 ≤ b) × (b ≤ 57) × (digits t ≡ true)
unfolding digits
digit-first b t h =
    let u = both (leb 48 b && leb b 57) (digits t) h in
    let v = both (leb 48 b) (leb b 57) u.0 in
    (leb-true _ _ v.0, leb-true _ _ v.1, u.1)

one-digit : (b : ℕ) → numeral (b ∷ []) ≡ true → digits (b ∷ []) ≡ true
unfolding numeral
one-digit b h = (both (plain (b ∷ [])) (digits (b ∷ [])) h).1

-- a longer number does not start with 0
starts : (b c : ℕ) (t : List ℕ) → numeral (b ∷ c ∷ t) ≡ true → (b ≡ 48 → ⊥) × (digits (b ∷ c ∷ t) ≡ true)
unfolding numeral plain
starts b c t h =
    let n = length (b ∷ c ∷ t) in
    let u = both (plain (b ∷ c ∷ t)) (digits (b ∷ c ∷ t)) h in
    let y : eqb n 0 ≡ false = ne_eqb n 0 (λ (e : n ≡ 0). omega arith) in
    let z : eqb n 1 ≡ false = ne_eqb n 1 (λ (e : n ≡ 1). omega arith) in
    let f : b ≡ 48 → plain (b ∷ c ∷ t) ≡ false = λ e. rw (y, eq-eqb b 48 e, z) refl in
    ((λ e. false≢true (sym (f e) ∙ u.0)), u.1)

last : (x y : ℕ) → y < 10 → (10 * x + y) % 10 ≡ y
last x y h = omega arith

-- a decimal number below 1,000 is spelt as it is printed
pub respelt : (t : List ℕ) → numeral t ≡ true → value 0 t < 1000 → decimal (value 0 t) ≡ t
unfolding value numeral plain
respelt [] h k = absurd (false≢true h)
respelt (b ∷ []) h k =
    let d = digit-first b [] (one-digit b h) in
    decimal-1 _ (omega arith) ∙ ap (λ x. x ∷ []) (omega arith)
respelt (b ∷ c ∷ []) h k =
    let s = starts b c [] h in
    let d = digit-first b (c ∷ []) s.1 in
    let e = digit-first c [] d.2 in
    let z = s.0 in
    let n = value 0 (b ∷ c ∷ []) in
    let p : 48 + n / 10 % 10 ≡ b = omega arith in
    let q : 48 + n % 10 ≡ c = omega arith in
    decimal-2 n (omega arith) (omega arith) ∙ rw (p, q) refl
respelt (b ∷ c ∷ d ∷ []) h k =
    let s = starts b c (d ∷ []) h in
    let e = digit-first b (c ∷ d ∷ []) s.1 in
    let f = digit-first c (d ∷ []) e.2 in
    let g = digit-first d [] f.2 in
    let z = s.0 in
    let n = value 0 (b ∷ c ∷ d ∷ []) in
    let m : n / 10 ≡ 10 * (b - 48) + (c - 48) = omega arith in
    let o : 48 + n / 100 % 10 ≡ b = omega arith in
    let p : 48 + n / 10 % 10 ≡ c = rw (m, last (b - 48) (c - 48) (omega arith)) (omega arith) in
    let q : 48 + n % 10 ≡ d = omega arith in
    decimal-3 n (omega arith) k ∙ rw (o, p, q) refl
respelt (b ∷ c ∷ d ∷ e ∷ t) h k =
    let s = starts b c (d ∷ e ∷ t) h in
    let f = digit-first b (c ∷ d ∷ e ∷ t) s.1 in
    let z = s.0 in
    let n : ⊥ = omega (arith, grows (value 0 (b ∷ c ∷ d ∷ e ∷ [])) t) in
    absurd n

-- ---- hexadecimal digits

pub digit-reads : (d : ℕ) → d < 16 → digit_of (digit d) ≡ Some d
unfolding digit digit_of
digit-reads d h =
    let low : 48 + d - 48 ≡ d = omega arith in
    let high : 55 + d - 55 ≡ d = omega arith in
    split (ltb d 10)
    (λ e. let k = ltb-true d 10 e in rw (e, le-ltb (48 + d) 48 (omega arith), lt-ltb (48 + d) 58 (omega arith), low) refl)
    (λ e. let k = ltb-false d 10 e in rw (e, le-ltb (55 + d) 48 (omega arith), le-ltb (55 + d) 58 (omega arith), le-ltb (55 + d) 65 (omega arith), lt-ltb (55 + d) 71 (omega arith), high) refl)

none-some : {A : Type 0} {d : ℕ} → ◌≡◌ {A = Option ℕ} None (Some d) → A
none-some {A} {d} e = let z : ◌≡◌ {A = ℕ} 0 1 = cc in absurd (let y : ⊥ = omega arith in y)

some-some : {c d : ℕ} → ◌≡◌ {A = Option ℕ} (Some c) (Some d) → c ≡ d
some-some {c} {d} e = cc

pub digit-spells : (b d : ℕ) → digit_of b ≡ Some d → (digit d ≡ b) × (d < 16)
unfolding digit digit_of
digit-spells b d h =
    split (ltb b 48) (λ p. none-some (rw p at h))
    (λ p. let k = ltb-false b 48 p in split (ltb b 58)
    (λ q. let l = ltb-true b 58 q in let e : b - 48 ≡ d = some-some (rw (p, q) at h) in (rw (lt-ltb d 10 (omega arith)) (omega arith), omega arith))
    (λ q. split (ltb b 65) (λ r. none-some (rw (p, q, r) at h))
    (λ r. let m = ltb-false b 65 r in split (ltb b 71)
    (λ s. let l = ltb-true b 71 s in let e : b - 55 ≡ d = some-some (rw (p, q, r, s) at h) in (rw (le-ltb d 10 (omega arith)) (omega arith), omega arith))
    (λ s. none-some (rw (p, q, r, s) at h)))))

pub digit-plain : (d : ℕ) → not (eqb (digit d) 44) ≡ true
unfolding digit
digit-plain d = split (ltb d 10) (λ e. rw (e, no-comma d) refl) (λ e. rw (e, ne_eqb (55 + d) 44 (λ (z : 55 + d ≡ 44). omega arith)) refl)
