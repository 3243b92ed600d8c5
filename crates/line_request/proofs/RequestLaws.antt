-- Requests and answers: what a request is told by its bytes, and a printed line with its newline. Assumes nothing.
use Rattle.std.proofs.Common.{◌≡◌, ℕ, ◌<◌, ◌≤◌, List, [], ◌∷◌, ◌++◌, length, sym, refl, ◌∙◌, arith, Option, None, Some}
use Rattle.text.specs.Texts.{newline}
use Rattle.line.specs.Lines.{text_of}
use Rattle.line_request.specs.declared.Request.{Request}
use Rattle.line_request.specs.Requests.{request_of, refused, print_text}

-- ---- a request

-- a line of fewer than two bytes asks nothing
pub too_short : (l : List ℕ) → length l < 2 → None ≡ request_of l
unfolding request_of
too_short [] h = refl
too_short (a ∷ []) h = refl
too_short (a ∷ b ∷ l) h = let z : ⊥ = omega arith in absurd z

-- one that asks something has two
asked : {A : Type 0} {q : Request} → ◌≡◌ {A = Option Request} None (Some q) → A
asked {A} {q} p = let z : ◌≡◌ {A = ℕ} 0 1 = cc in absurd (let y : ⊥ = omega arith in y)

pub asked-long : (l : List ℕ) (q : Request) → request_of l ≡ Some q → 2 ≤ length l
asked-long [] q e = asked (too_short [] (omega arith) ∙ e)
asked-long (a ∷ []) q e = asked (too_short (a ∷ []) (omega arith) ∙ e)
asked-long (a ∷ b ∷ l) q e = omega arith

-- ---- a printed line

-- the line with a newline behind it
pub print-some : (l t : List ℕ) → Some t ≡ text_of l → t ++ (newline ∷ []) ≡ print_text l
unfolding print_text text_of
print-some [] t e = of (sym e)
  where
    of : {A : Type 0} → ◌≡◌ {A = Option (List ℕ)} None (Some t) → A
    of {A} p = let z : ◌≡◌ {A = ℕ} 0 1 = cc in absurd (let y : ⊥ = omega arith in y)
print-some (b ∷ l) t e = let q : t ≡ b ∷ l = cc in rw q refl

-- no line
pub print-none : (l : List ℕ) → None ≡ text_of l → refused 14 ≡ print_text l
unfolding print_text text_of
print-none [] e = refl
print-none (b ∷ l) e = of e
  where
    of : {A : Type 0} → ◌≡◌ {A = Option (List ℕ)} None (Some (b ∷ l)) → A
    of {A} p = let z : ◌≡◌ {A = ℕ} 0 1 = cc in absurd (let y : ⊥ = omega arith in y)
