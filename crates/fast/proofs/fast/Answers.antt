-- The answers to the goals of `fast::fast`. Assumes nothing.
use Rattle.form_table.proofs.NumberLaws.{number-path}
use Rattle.std.proofs.Common.{◌∙◌, arith, rules}
use Rattle.fast.proofs.fast.Goals as goal

pub into_single-requires : goal.into_single-requires
into_single-requires c = (c.requires.0, (number-path c.args.n.form c.args.number c.requires.1 (search rules) (omega (arith, c.requires.3)) ∙ omega (arith, c.requires.2, c.requires.3)), c.requires.1)

pub into_double-requires : goal.into_double-requires
into_double-requires c = (c.requires.0, (number-path c.args.n.form c.args.number c.requires.1 (search rules) (omega (arith, c.requires.3)) ∙ omega (arith, c.requires.2, c.requires.3)), c.requires.1)

pub store_one-requires : goal.store_one-requires
store_one-requires c = (c.requires.0, (number-path c.args.n.form c.args.number c.requires.1 (search rules) (omega (arith, c.requires.3)) ∙ omega (arith, c.requires.2, c.requires.3)), c.requires.1)

pub branch-core-requires : goal.branch-core-requires
branch-core-requires c = (number-path c.args.n.form c.args.number c.requires.1 (search rules) (omega (arith, c.requires.3)) ∙ omega (arith, c.requires.2, c.requires.3))

pub store_two-requires : goal.store_two-requires
store_two-requires c = (c.requires.0, (number-path c.args.n.form c.args.number c.requires.1 (search rules) (omega (arith, c.requires.3)) ∙ omega (arith, c.requires.2, c.requires.3)), c.requires.1)

pub returns-in-33554432-to-41943039 : goal.returns-in-33554432-to-41943039
returns-in-33554432-to-41943039 c = c.branch-core.ensures c.args.regs.now c.args.memory.now c.args.pages.now
