-- The clock after deferred ticks is reached tick by tick. Assumes nothing.
use Rattle.std.proofs.Common.{◌≡◌, ℕ, zero, suc, ◌+◌, ◌*◌, ◌/◌, ◌%◌, ◌<◌, ◌≤◌, Bool, true, false, sym, refl, ap, ◌∙◌, ap₂, arith, ne_eqb}
use native.Mathlib.Nat.{mod-add-div', add-mul-div_right, mod-add-mod}
use lib.Bits.{bit_or, or_zero_r}
use borrow.Author.Tests.{lt-leb}
use Rattle.page.specs.Spans.{wrapped}
use Rattle.machine.specs.declared.State.{State}
use Rattle.machine.specs.declared.Clock.{Clock}
use Rattle.machine.specs.State.{with_clock, with_pi, with_count}
use Rattle.machine.specs.Step.{counted, rises, remaining, risen, passing, elapsed, expired, ticked}
use Rattle.clock.specs.Deferred.{Deferrable, after_ticks, ticked_by}

-- ---- a timer of any unit u, with the remainder r: over e tenths and then over d, as over both

rises-on : (u r e d : ℕ) → 0 < u → rises u r e + rises u ((r + e) % u) d ≡ rises u r (e + d)
unfolding rises
rises-on u r e d p =
    let whole : (r + e) % u + (r + e) / u * u ≡ r + e = mod-add-div' (r + e) u in
    let both : r + (e + d) ≡ (r + e) % u + d + (r + e) / u * u = omega (arith, whole) in
    let sum : ((r + e) % u + d + (r + e) / u * u) / u ≡ ((r + e) % u + d) / u + (r + e) / u = add-mul-div_right ((r + e) % u + d) ((r + e) / u) p in
    sym (ap (λ n. n / u) both ∙ sum ∙ omega arith)

remaining-on : (on : Bool) (u r e d : ℕ) → remaining on u (remaining on u r e) d ≡ remaining on u r (e + d)
unfolding remaining
remaining-on true u r e d = mod-add-mod (r + e) u d ∙ ap (λ n. n % u) (omega arith)
remaining-on false u r e d = refl

-- two rises modulo 65,536
wrapped-on : (t a b : ℕ) → wrapped (wrapped (t + a) + b) ≡ wrapped (t + (a + b))
unfolding wrapped
wrapped-on t a b = omega arith

risen-on : (on : Bool) (u t r e d : ℕ) → 0 < u → risen on (risen on t (rises u r e)) (rises u (remaining on u r e) d) ≡ risen on t (rises u r (e + d))
unfolding risen remaining
risen-on true u t r e d p = wrapped-on t (rises u r e) (rises u ((r + e) % u) d) ∙ ap (λ n. wrapped (t + n)) (rises-on u r e d p)
risen-on false u t r e d p = refl

-- where it does not pass its end over e tenths, it does over d where it does over both
passing-on : (on : Bool) (u t r e d k : ℕ) → 0 < u → (on ≡ true → t + rises u r e ≤ 65535)
    → passing on (risen on t (rises u r e)) (rises u (remaining on u r e) d) k ≡ passing on t (rises u r (e + d)) k
unfolding passing risen remaining wrapped
passing-on true u t r e d k p h =
    let inside = h refl in
    let same : (t + rises u r e) % 65536 + rises u ((r + e) % u) d ≡ t + rises u r (e + d) = omega (arith, inside, rises-on u r e d p) in
    rw same refl
passing-on false u t r e d k p h = refl

passing-none : (on : Bool) (t n k : ℕ) → (on ≡ true → t + n ≤ 65535) → passing on t n k ≡ 0
unfolding passing
passing-none true t n k h = rw (lt-leb 65536 (t + n) (let b = h refl in omega arith)) refl
passing-none false t n k h = refl

-- ---- timers A and B

a-inside : (k : Clock) (e : ℕ) → Deferrable e k → k.taon ≡ true → k.ta + rises 100 k.rema e ≤ 65535
unfolding rises
a-inside k e h on = let b = h.a-inside on in omega arith

b-inside : (k : Clock) (e : ℕ) → Deferrable e k → k.tbon ≡ true → k.tb + rises 1000 k.remb e ≤ 65535
unfolding rises
b-inside k e h on = let b = h.b-inside on in omega arith

elapsed-elapsed : (k : Clock) (n e d : ℕ) → elapsed d (with_count (elapsed e k) ((k.count + n) % 4294967296)) ≡ with_count (elapsed (e + d) k) ((k.count + (n + 1)) % 4294967296)
unfolding elapsed counted with_count
elapsed-elapsed k n e d =
    let count : ((k.count + n) % 4294967296 + 1) % 4294967296 ≡ (k.count + (n + 1)) % 4294967296 = omega arith in
    rw (
      count,
      risen-on k.taon 100 k.ta k.rema e d (omega arith),
      risen-on k.tbon 1000 k.tb k.remb e d (omega arith),
      remaining-on k.taon 100 k.rema e d,
      remaining-on k.tbon 1000 k.remb e d,
    ) refl

expired-elapsed : (k : Clock) (c e d : ℕ) → Deferrable e k → expired d (with_count (elapsed e k) c) ≡ expired (e + d) k
unfolding expired elapsed with_count
expired-elapsed k c e d h =
    ap₂ bit_or (passing-on k.taon 100 k.ta k.rema e d 7 (omega arith) (a-inside k e h)) (passing-on k.tbon 1000 k.tb k.remb e d 9 (omega arith) (b-inside k e h))

-- one tick more; before the first no time has passed
elapsed-after-ticks : (k : Clock) (n e d : ℕ) → (n ≡ 0 → e ≡ 0) → elapsed d (after_ticks n e k) ≡ after_ticks (n + 1) (e + d) k
unfolding after_ticks with_count elapsed counted
elapsed-after-ticks k zero e d z = let same : e + d ≡ d = omega (arith, z refl) in rw same refl
elapsed-after-ticks k (suc n) e d z = rw (ne_eqb (suc n) 0 (omega arith), ne_eqb (suc n + 1) 0 (omega arith)) (elapsed-elapsed k (suc n) e d)

expired-after-ticks : (k : Clock) (n e d : ℕ) → (n ≡ 0 → e ≡ 0) → (0 < n → Deferrable e k) → expired d (after_ticks n e k) ≡ expired (e + d) k
unfolding after_ticks
expired-after-ticks k zero e d z h = let same : e + d ≡ d = omega (arith, z refl) in rw same refl
expired-after-ticks k (suc n) e d z h = rw (ne_eqb (suc n) 0 (omega arith)) (expired-elapsed k ((k.count + suc n) % 4294967296) e d (h (omega arith)))

-- ---- of a state with this clock

pub ticked-after-ticks : (s : State) (k : Clock) (n e d : ℕ) → (n ≡ 0 → e ≡ 0) → (0 < n → Deferrable e k)
    → ticked d (with_clock s (after_ticks n e k)) ≡ ticked_by (n + 1) (e + d) (with_clock s k)
unfolding ticked ticked_by with_pi
ticked-after-ticks s k n e d z h = rw (expired-after-ticks k n e d z h, elapsed-after-ticks k n e d z) refl

-- where no timer passes its end
pub ticked-inside : (s : State) (k : Clock) (n e : ℕ) → Deferrable e k → ticked_by n e (with_clock s k) ≡ with_clock s (after_ticks n e k)
unfolding ticked_by expired with_pi
ticked-inside s k n e h =
    rw (passing-none k.taon k.ta (rises 100 k.rema e) 7 (a-inside k e h), passing-none k.tbon k.tb (rises 1000 k.remb e) 9 (b-inside k e h), or_zero_r s.core.pi) refl

-- no tick
pub after-ticks-none : (k : Clock) (e : ℕ) → after_ticks 0 e k ≡ k
unfolding after_ticks
after-ticks-none k e = refl

-- less time
pub deferrable-less : (e f : ℕ) (k : Clock) → e ≤ f → Deferrable f k → Deferrable e k
deferrable-less e f k h d = record {
  a-inside = λ on. let b = d.a-inside on in omega arith;
  b-inside = λ on. let b = d.b-inside on in omega arith;
}
