-- A span of at most three words, word by word. Assumes nothing.
use Rattle.std.proofs.Common.{◌≡◌, ℕ, zero, suc, ◌+◌, ◌%◌, ◌≤◌, Bool, true, false, cond, ltb, List, length, set, sym, refl, ap, ◌∙◌, arith, Err, Ok, Result}
use Rattle.page.specs.declared.Refusal.{Refusal}
use Rattle.std.specs.Result.{result_unwrap_or, is_ok}
use mathlib.Core.Bool.{false≢true}
use Rattle.page.specs.declared.Span.{Span}
use Rattle.page.specs.declared.Access.TheVariants.{Read, Write}
use Rattle.page.specs.Pages.{lookup}
use Rattle.page.specs.Spans.{wrapped, got_at, word_of, put_at, and_then, sixteen_zeros, passed, checked_from, checked, read_from, words_of, written_from, written}
use Rattle.page.proofs.SpanLaws.{passed-elim}
use Rattle.page.proofs.EachLaws.{put-length}
use Rattle.machine.specs.Machine.{span_from}
use Rattle.isa.specs.Effects.{three}
use Rattle.operand_words.specs.declared.Words.{Words}
use Rattle.operand_words.specs.Gathers.{FirstThree, complete, gathered, with_word, from_third, from_second, stored_one}

-- ---- words read

-- by their places, from one to three of them
module _ (m : List ℕ) where
  one : (q : Result ℕ Refusal) → with_word (got_at m q) (λ x. complete x 0 0) ≡ gathered (and_then q (Ok tt)) (set sixteen_zeros 0 (word_of (got_at m q)))
  unfolding gathered with_word and_then got_at word_of
  one (Ok p) = refl
  one (Err b) = refl

  two : (q r : Result ℕ Refusal)
      → with_word (got_at m q) (λ x. with_word (got_at m r) (λ y. complete x y 0))
      ≡ gathered (and_then q (and_then r (Ok tt))) (set (set sixteen_zeros 0 (word_of (got_at m q))) 1 (word_of (got_at m r)))
  unfolding gathered with_word and_then got_at word_of
  two (Ok p) (Ok a) = refl
  two (Ok p) (Err b) = refl
  two (Err b) r = refl

  all_three : (q r s : Result ℕ Refusal)
      → with_word (got_at m q) (λ x. with_word (got_at m r) (λ y. with_word (got_at m s) (λ z. complete x y z)))
      ≡ gathered (and_then q (and_then r (and_then s (Ok tt))))
      (set (set (set sixteen_zeros 0 (word_of (got_at m q))) 1 (word_of (got_at m r))) 2 (word_of (got_at m s)))
  unfolding gathered with_word and_then got_at word_of
  all_three (Ok p) (Ok a) (Ok c) = refl
  all_three (Ok p) (Ok a) (Err b) = refl
  all_three (Ok p) (Err b) s = refl
  all_three (Err b) r s = refl

-- k words one by one, from the first on, at a
unfoldable pub from_first : ℕ → ℕ → List ℕ → ℕ → List ℕ → ℕ → ℕ → Result Words Refusal
from_first key group g size m k a =
    cond (ltb 0 k) (with_word (got_at m (lookup Read key group g size a)) (λ x. from_second key group g size m k x (wrapped (a + 1)))) (complete 0 0 0)

-- one by one, or all checked and then read
pub gathered-few : (key group : ℕ) (g : List ℕ) (size : ℕ) (m : List ℕ) (a k : ℕ) → k ≤ 3
    → from_first key group g size m k a ≡ gathered (checked key group g size (span_from a k) Read) (words_of key group g size (span_from a k) m)
unfolding from_first from_second from_third checked checked_from words_of read_from passed gathered
gathered-few key group g size m a zero h = refl
gathered-few key group g size m a (suc zero) h = one m (lookup Read key group g size a)
gathered-few key group g size m a (suc (suc zero)) h = two m (lookup Read key group g size a) (lookup Read key group g size (wrapped (a + 1)))
gathered-few key group g size m a (suc (suc (suc zero))) h =
    all_three m (lookup Read key group g size a) (lookup Read key group g size (wrapped (a + 1))) (lookup Read key group g size (wrapped (wrapped (a + 1) + 1)))
gathered-few key group g size m a (suc (suc (suc (suc n)))) h = absurd (omega arith)

-- ---- a result is one thing

fault-of : {A E : Type 0} → Result A E → E → E
fault-of (Ok x) b = b
fault-of (Err e) b = e

module _ {A E : Type 0} {r : Result A E} where
  pub ok-same : {x y : A} → r ≡ Ok x → r ≡ Ok y → x ≡ y
  ok-same {x} h k = sym (ap (λ q. result_unwrap_or q x) h) ∙ ap (λ q. result_unwrap_or q x) k

  pub err-same : {b d : E} → r ≡ Err b → r ≡ Err d → b ≡ d
  unfolding fault-of
  err-same {b} h k = sym (ap (λ q. fault-of q b) h) ∙ ap (λ q. fault-of q b) k

  pub ok-not_err : {x : A} {b : E} → r ≡ Ok x → r ≡ Err b → ⊥
  ok-not_err h k = false≢true (sym (ap is_ok k) ∙ ap is_ok h)

-- ---- what was gathered tells the check

pub all-gathered : (w : Result (Unit {0}) Refusal) (ws : List ℕ) (v : Words) → gathered w ws ≡ Ok v → (w ≡ Ok tt) × FirstThree ws v.x v.y v.z
unfolding gathered
all-gathered (Ok u) ws v e =
    let s = ok-same e refl in
    (refl, record { first-is = ap (λ r. r.x) s; second_is = ap (λ r. r.y) s; third-is = ap (λ r. r.z) s })
all-gathered (Err b) ws v e = absurd (ok-not_err e refl)

pub denied-gathered : (w : Result (Unit {0}) Refusal) (ws : List ℕ) (b : Refusal) → gathered w ws ≡ Err b → w ≡ Err b
unfolding gathered
denied-gathered (Ok u) ws b e = absurd (ok-not_err refl e)
denied-gathered (Err d) ws b e = ap Err (err-same refl e)

-- ---- stores

module _ (key group : ℕ) (g : List ℕ) (size : ℕ) (p : Span) (j a v : ℕ) (m : List ℕ) where
  stored-length : length (stored_one key group g size p j a v m) ≡ length m
  unfolding stored_one
  stored-length = by (ltb j p.count)
    where
      by : (b : Bool) → length (cond b (passed p j m (put_at m (lookup Write key group g size a) v)) m) ≡ length m
      by true = passed-elim p j (λ x. length x ≡ length m) m _ (λ e. refl) (λ e. put-length m _ v)
      by false = refl

module _ (key group : ℕ) (g : List ℕ) (size : ℕ) (p : Span) (x y z : ℕ) (m : List ℕ) where
  by_count : (n : ℕ) → p.count ≡ n → n ≤ 3
      → written key group g size p (three x y z) m
      ≡ stored_one key group g size p 2 (wrapped (wrapped (p.start + p.stride) + p.stride)) z
      (stored_one key group g size p 1 (wrapped (p.start + p.stride)) y
      (stored_one key group g size p 0 p.start x m))
  unfolding written written_from stored_one
  by_count zero e h = rw e refl
  by_count (suc zero) e h = rw e refl
  by_count (suc (suc zero)) e h = rw e refl
  by_count (suc (suc (suc zero))) e h = rw e refl
  by_count (suc (suc (suc (suc n)))) e h = absurd (omega arith)

-- the memories after each of the three stores
pub three-stored : (key group : ℕ) (g : List ℕ) (p : Span) (x y z : ℕ) (m : List ℕ) → p.count ≤ 3
    → (b c : ℕ) → b ≡ (p.start + p.stride) % 65536 → c ≡ (b + p.stride) % 65536
    → (m₁ m₂ m₃ : List ℕ) → m₁ ≡ stored_one key group g (length m) p 0 p.start x m
    → m₂ ≡ stored_one key group g (length m₁) p 1 b y m₁
    → m₃ ≡ stored_one key group g (length m₂) p 2 c z m₂
    → m₃ ≡ written key group g (length m) p (three x y z) m
unfolding wrapped
three-stored key group g p x y z m h b c e f m₁ m₂ m₃ i j k =
    let l : length m₁ ≡ length m = ap length i ∙ stored-length key group g (length m) p 0 p.start x m in
    let o : length m₂ ≡ length m₁ = ap length j ∙ stored-length key group g (length m₁) p 1 b y m₁ in
    k
    ∙ ap (λ n. stored_one key group g n p 2 c z m₂) (o ∙ l)
    ∙ ap (stored_one key group g (length m) p 2 c z) (j ∙ ap (λ n. stored_one key group g n p 1 b y m₁) l ∙ ap (stored_one key group g (length m) p 1 b y) i)
    ∙ rw (f, e) (sym (by_count key group g (length m) p x y z m p.count refl h))
