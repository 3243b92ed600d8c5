-- The answers to the goals of `fixed_muldiv::products::multiply`. Assumes nothing.
use Rattle.std.proofs.Common.{◌∙◌}
use Rattle.fixed_muldiv.proofs.ProductLaws.{product_is}
use Rattle.fixed_muldiv.proofs.products.multiply.Goals as goal

pub returns : goal.returns
returns g c = c.join.ensures ∙ rw (c.from.ensures, c.from-2.ensures) (product_is c.split-x.ensures c.split-y.ensures)
