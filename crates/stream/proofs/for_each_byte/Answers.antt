-- The answers to the goals of `stream::for_each_byte`: the bytes of the pieces so far, and of the next. Assumes nothing.
use Rattle.std.proofs.Common.{List, [], ◌∷◌, ◌++◌, take, subst, sym}
use Rattle.std.proofs.KnownBytes.{Consumes-trans}
use Rattle.std.specs.List.{FoldsTo}
use Rattle.stream.proofs.for_each_byte.Goals as goal

-- two runs of items, one behind the other
FoldsTo-append : {P A : Type 0} (R : P → A → P → Type 0) (p q r : P) (xs ys : List A) → FoldsTo R p xs q → FoldsTo R q ys r → FoldsTo R p (xs ++ ys) r
FoldsTo-append R p q r [] ys h k = subst (λ j. FoldsTo R j ys r) (sym h) k
FoldsTo-append R p q r (x ∷ xs) ys h k = (h.0, h.1, FoldsTo-append R h.0 q r xs ys h.2 k)

pub returns-then-n-lt32768 : goal.returns-then-n-lt32768
returns-then-n-lt32768 g c =
    let so_far = c.pieces.invariant.in_order in
    (so_far.0 ++ take c.read_full-n.result c.read_full-n.new.buf, c.feed.new.hear, Consumes-trans _ _ _ _ _ so_far.1 c.read_full-n.ensures.bytes, FoldsTo-append _ _ _ _ _ _ so_far.2 c.in_ok-feed.ensures.in_order)

pub pieces-preserved : goal.pieces-preserved
pieces-preserved g c =
    let so_far = c.pieces.invariant.in_order in
    record {
      callable = λ a. c.feed.ensures.callable;
      in_order = (so_far.0 ++ take c.read_full-n.result c.read_full-n.new.buf, Consumes-trans _ _ _ _ _ so_far.1 c.read_full-n.ensures.bytes, FoldsTo-append _ _ _ _ _ _ so_far.2 c.in_ok-feed.ensures.in_order);
    }
