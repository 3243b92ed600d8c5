-- The answers to the goals of `instruction::carry`. Assumes nothing.
use Rattle.form_table.proofs.NumberLaws.{number-least, number-path, number-block, number-rest}
use Rattle.instruction.proofs.UserLaws.{on-block, off-block}
use borrow.Author.Rules.{rules}
use mathlib.Core.Path.{refl, ◌∙◌}
use native.Mathlib.Omega.{arith}
use Rattle.instruction.proofs.carry.Goals as goal

pub carry_fast-requires : goal.carry_fast-requires
carry_fast-requires c = (c.requires.0, c.requires.1, number-least c.args.n.form c.args.number c.requires.1 (search rules), omega arith)

pub command-requires : goal.command-requires
command-requires c = (number-path c.args.n.form c.args.number c.requires.1 (search rules) (omega arith) ∙ omega arith)

pub executive-requires : goal.executive-requires
executive-requires c = (number-path c.args.n.form c.args.number c.requires.1 (search rules) (omega arith) ∙ omega arith)

pub load-requires : goal.load-requires
load-requires c = (c.requires.0, (number-path c.args.n.form c.args.number c.requires.1 (search rules) (omega arith) ∙ omega arith), c.requires.1)

pub carry_block-requires : goal.carry_block-requires
carry_block-requires c = (on-block c.args.n.form _ refl (number-block c.args.n.form c.args.number c.requires.1 (search rules) (omega arith) (omega arith)), c.requires.0)

pub carry_ordinary-requires : goal.carry_ordinary-requires
carry_ordinary-requires c = (c.requires.0, c.requires.1, off-block c.args.n.form _ refl (λ z. let y = (number-rest c.args.n.form c.args.number c.requires.1 (search rules) (omega arith)).1 in omega (arith, y, z)), (number-rest c.args.n.form c.args.number c.requires.1 (search rules) (omega arith)).0)

pub returns-in-0-to-50331647 : goal.returns-in-0-to-50331647
returns-in-0-to-50331647 c = c.carry_fast.ensures c.args.ports.now

pub returns-in-50331648-to-58720255 : goal.returns-in-50331648-to-58720255
returns-in-50331648-to-58720255 c = c.command.ensures c.args.memory.now

pub returns-in-58720256-to-67108863 : goal.returns-in-58720256-to-67108863
returns-in-58720256-to-67108863 c = c.executive.ensures c.args.regs.now c.args.ports.now

pub returns-in-67108864-to-75497471 : goal.returns-in-67108864-to-75497471
returns-in-67108864-to-75497471 c = c.load.ensures c.args.ports.now

pub returns-in-75497472-to-83886079 : goal.returns-in-75497472-to-83886079
returns-in-75497472-to-83886079 c = c.carry_block.ensures c.args.ports.now

pub returns-in_default : goal.returns-in_default
returns-in_default c = c.carry_ordinary.ensures c.args.ports.now
