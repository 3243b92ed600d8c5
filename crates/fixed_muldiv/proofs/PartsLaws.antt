-- Signs and magnitudes at every width: as the code holds them, and of all bits. Assumes nothing.
use mathlib.Core.Path.{◌≡◌, refl, sym, ◌∙◌}
use mathlib.Core.Bool.{Bool, true, false, not}
use mathlib.Core.Logic.{⊎_elim}
use Prim.Native.Nat.{ℕ, zero, suc, ◌+◌, ◌-◌, ◌^◌, ◌≤◌, ◌<◌}
use native.Mathlib.Omega.{arith}
use lib.IntN.{sub_ℕ}
use lib.Dec.{eqb}
use lib.Pow.{pow_pos}
use borrow.Author.Tests.{le-ltb, le-leb, lt-leb, ne_eqb}
use Rattle.twos_complement.specs.Whole.{holds, with_sign, Parts}
use Rattle.twos_complement.proofs.Diff.{order, diff-pos, diff-neg}
use Rattle.twos_complement.proofs.Laws.{half}
use Rattle.twos_complement.proofs.Signs.{long-pos, long-neg, parts_low, parts-high}
use Rattle.fixed_add.proofs.SumLines.{bit0}

-- a sign and a magnitude as the code holds them, with K added
pub plus : (K m : ℕ) → sub_ℕ (m + K) K ≡ with_sign false m
unfolding with_sign
plus K m = diff-pos m (m + K) K (omega arith)

pub minus : (K m : ℕ) → m < K → sub_ℕ (K - m) K ≡ with_sign true m
unfolding with_sign
minus K zero l = diff-pos 0 (K - 0) K (omega arith)
minus K (suc m) l = diff-neg m (K - suc m) K (omega arith)

-- the w bits a: their sign s and magnitude m, which is zero where a is, and 2^(w-1) only for the lowest number
pub record Split (w a : ℕ) (s : Bool) (m : ℕ) : Type 0 where
  pub parts : Parts w a s m
  pub sign : bit0 w a ≡ s
  pub none : eqb m 0 ≡ eqb a 0
  pub some : 0 < a → 0 < m
  pub other : (a ≡ 2 ^ (w - 1) → ⊥) → m < 2 ^ (w - 1)

pub split : (w a : ℕ) → 1 ≤ w → a < 2 ^ w → {P : Type 0} → ((s : Bool) (m : ℕ) → Split w a s m → P) → P
split w a p l f =
    let H = 2 ^ (w - 1) in
    let h = half w p in
    let g = pow_pos (w - 1) in
    ⊎_elim (λ x. f false a (record { parts = parts_low w a x; sign = lt-leb H a x; none = refl; some = λ n. n; other = λ n. x }))
    (λ x. f true (2 ^ w - a) (record {
      parts = parts-high w a p x l;
      sign = le-leb H a x;
      none = ne_eqb (2 ^ w - a) 0 (λ e. omega arith) ∙ sym (ne_eqb a 0 (λ e. omega arith));
      some = λ n. omega arith;
      other = λ n. ⊎_elim (λ u. let r : 2 ^ w - a < H = omega arith in r) (λ u. absurd (n (omega arith))) (order H a);
    }))
    (order a H)

-- w bits hold a magnitude below 2^(w-1) with either sign
pub held : (w q : ℕ) (d : Bool) → q < 2 ^ (w - 1) → not (holds w (with_sign d q)) ≡ false
held w q false l = long-pos w q ∙ lt-leb (2 ^ (w - 1)) q l
held w q true l = long-neg w q ∙ le-ltb (2 ^ (w - 1)) q (omega arith)
