-- The answers to the goals of `float_convert::convert::from_integer`. Assumes nothing.
use mathlib.Core.Path.{◌≡◌, ap, ◌∙◌, subst}
use Prim.Native.Nat.{ℕ, ◌+◌, ◌-◌, ◌*◌, ◌^◌, ◌<◌}
use native.Mathlib.Omega.{arith}
use lib.Pow.{shl_lt}
use Rattle.twos_complement.specs.Whole.{signed}
use Rattle.float.specs.Float.{given, normalised}
use Rattle.float_convert.specs.Convert.{float_of}
use Rattle.float_convert.proofs.ConvertLaws.{floated}
use Rattle.float_convert.proofs.convert.from_integer.Goals as goal

pub invariant_of-m-clause-held : goal.invariant_of-m-clause-held
invariant_of-m-clause-held g c = subst (λ (k : ℕ). c.args.integer * 2 ^ 8 < 2 ^ k) (let p = c.requires.0 in omega arith) (shl_lt (g.row.W - 8) 8 c.requires.2)

pub returns : goal.returns
returns g c = c.normalise.ensures ∙ ap (given _) (subst (λ (k : ℕ). normalised k (signed k (c.args.integer * 2 ^ 8)) (g.row.W - 8 + 127) ≡ float_of (g.row.W - 8) k (signed (g.row.W - 8) c.args.integer)) (let p = c.requires.0 in omega arith) (floated 8 (g.row.W - 8) c.args.integer (let p = c.requires.0 in omega arith) c.requires.2))
