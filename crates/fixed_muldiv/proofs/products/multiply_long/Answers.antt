-- The answers to the goals of `fixed_muldiv::products::multiply_long`. Assumes nothing.
use Rattle.std.proofs.Common.{◌∙◌}
use Rattle.fixed_muldiv.proofs.ProductLaws.{long-product-is}
use Rattle.fixed_muldiv.proofs.products.multiply_long.Goals as goal

pub returns : goal.returns
returns c = c.join.ensures ∙ rw (c.from.ensures, c.from-2.ensures) (long-product-is c.split-x.ensures c.split-y.ensures)
