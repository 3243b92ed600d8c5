-- The answers to the goals of `execute_float_words::operands::combine`. Assumes nothing.
use Rattle.execute_float_words.proofs.operands.combine.Goals as goal

pub returns-in-Sum : goal.returns-in-Sum
returns-in-Sum g c = rw c.in-Sum.is c.add.ensures

pub returns-in-Difference : goal.returns-in-Difference
returns-in-Difference g c = rw c.in-Difference.is c.subtract.ensures

pub returns-in-Product : goal.returns-in-Product
returns-in-Product g c = rw c.in-Product.is c.multiply.ensures

pub returns-in-Quotient : goal.returns-in-Quotient
returns-in-Quotient g c = rw c.in-Quotient.is c.divide.ensures
