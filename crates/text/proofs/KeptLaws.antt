-- The bytes of a list, kept one by one while there is room. Assumes nothing.
use Prim.Native.Nat.{ℕ, ◌+◌, ◌<◌}
use mathlib.Core.Path.{◌≡◌, sym}
use mathlib.Core.List.{List}
use native.Mathlib.Omega.{arith}
use lib.ListN.{length, take, get_or}
use lib.Seq.{take-suc}
use borrow.Author.Tests.{lt-ltb}
use Rattle.std.proofs.Common.{add-one, length-take-le}
use Rattle.text.specs.FirstBytes.{kept}

-- keeping the next byte of a list behind its first i gives its first i + 1
pub kept-next : (l : List ℕ) (i n : ℕ) → i < length l → i < n → kept n (take i l) (get_or l i 0) ≡ take (i + 1) l
unfolding kept
kept-next l i n h r = rw (length-take-le i l (omega arith), lt-ltb i n r, add-one) (sym (take-suc l i 0 h))
