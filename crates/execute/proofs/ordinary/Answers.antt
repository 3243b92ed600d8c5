-- The answers to the goals of `execute::ordinary`. Assumes nothing.
use Rattle.decode.specs.Forms.{operation_of}
use Rattle.effect.specs.Work.{context}
use Rattle.execute.proofs.OrdinaryLaws.{in-range, past_all, jump-left, loads-left, stores-left, integers-left, logic-left}
use mathlib.Core.Path.{refl, ◌∙◌}
use native.Mathlib.Omega.{arith}
use Rattle.execute.proofs.ordinary.Goals as goal

pub jump_operation-requires : goal.jump_operation-requires
jump_operation-requires c = jump-left (operation_of c.args.before.n.form) c.requires (omega arith) (omega arith) (omega arith)

pub load_operation-requires : goal.load_operation-requires
load_operation-requires c = loads-left (operation_of c.args.before.n.form) c.requires

pub load_operation-requires-in-42-to-44 : goal.load_operation-requires-in-42-to-44
load_operation-requires-in-42-to-44 c = loads-left (operation_of c.args.before.n.form) c.requires

pub store_operation-requires : goal.store_operation-requires
store_operation-requires c = stores-left (operation_of c.args.before.n.form) c.requires

pub store_operation-requires-in-50-to-54 : goal.store_operation-requires-in-50-to-54
store_operation-requires-in-50-to-54 c = stores-left (operation_of c.args.before.n.form) c.requires

pub integer_operation-requires : goal.integer_operation-requires
integer_operation-requires c = integers-left (operation_of c.args.before.n.form) c.requires

pub integer_operation-requires-in-63-to-67 : goal.integer_operation-requires-in-63-to-67
integer_operation-requires-in-63-to-67 c = integers-left (operation_of c.args.before.n.form) c.requires

pub integer_operation-requires-in-71-to-73 : goal.integer_operation-requires-in-71-to-73
integer_operation-requires-in-71-to-73 c = integers-left (operation_of c.args.before.n.form) c.requires

pub integer_operation-requires-in-76-to-78 : goal.integer_operation-requires-in-76-to-78
integer_operation-requires-in-76-to-78 c = integers-left (operation_of c.args.before.n.form) c.requires

pub logical_operation-requires : goal.logical_operation-requires
logical_operation-requires c = logic-left (operation_of c.args.before.n.form) c.requires

pub logical_operation-requires-in-89-to-93 : goal.logical_operation-requires-in-89-to-93
logical_operation-requires-in-89-to-93 c = logic-left (operation_of c.args.before.n.form) c.requires

pub returns-in-0-to-5 : goal.returns-in-0-to-5
returns-in-0-to-5 c = c.bit_operation.ensures ∙ in-range (context c.args.regs.now c.args.before.sw c.args.before.pi) c.args.before.n c.args.x c.args.y c.args.z (operation_of c.args.before.n.form) 0 0 6 refl (omega arith) (omega arith)

pub returns-in-6-to-9 : goal.returns-in-6-to-9
returns-in-6-to-9 c = c.bit_operation-in-6-to-9.ensures ∙ in-range (context c.args.regs.now c.args.before.sw c.args.before.pi) c.args.before.n c.args.x c.args.y c.args.z (operation_of c.args.before.n.form) 0 6 10 refl (omega arith) (omega arith)

pub returns-in-10-to-17 : goal.returns-in-10-to-17
returns-in-10-to-17 c = c.shift_operation.ensures ∙ in-range (context c.args.regs.now c.args.before.sw c.args.before.pi) c.args.before.n c.args.x c.args.y c.args.z (operation_of c.args.before.n.form) 1 10 18 refl (omega arith) (omega arith)

pub returns-in-18-to-23 : goal.returns-in-18-to-23
returns-in-18-to-23 c = c.shift_operation-in-18-to-23.ensures ∙ in-range (context c.args.regs.now c.args.before.sw c.args.before.pi) c.args.before.n c.args.x c.args.y c.args.z (operation_of c.args.before.n.form) 1 18 24 refl (omega arith) (omega arith)

pub returns-in-24-to-37 : goal.returns-in-24-to-37
returns-in-24-to-37 c = c.jump_operation.ensures ∙ in-range (context c.args.regs.now c.args.before.sw c.args.before.pi) c.args.before.n c.args.x c.args.y c.args.z (operation_of c.args.before.n.form) 2 24 38 refl (omega arith) (omega arith)

pub returns-in-38-to-41 : goal.returns-in-38-to-41
returns-in-38-to-41 c = c.load_operation.ensures ∙ in-range (context c.args.regs.now c.args.before.sw c.args.before.pi) c.args.before.n c.args.x c.args.y c.args.z (operation_of c.args.before.n.form) 3 38 42 refl (omega arith) (omega arith)

pub returns-in-42-to-44 : goal.returns-in-42-to-44
returns-in-42-to-44 c = c.load_operation-in-42-to-44.ensures ∙ in-range (context c.args.regs.now c.args.before.sw c.args.before.pi) c.args.before.n c.args.x c.args.y c.args.z (operation_of c.args.before.n.form) 3 42 45 refl (omega arith) (omega arith)

pub returns-in-45-to-49 : goal.returns-in-45-to-49
returns-in-45-to-49 c = c.store_operation.ensures ∙ in-range (context c.args.regs.now c.args.before.sw c.args.before.pi) c.args.before.n c.args.x c.args.y c.args.z (operation_of c.args.before.n.form) 4 45 50 refl (omega arith) (omega arith)

pub returns-in-50-to-54 : goal.returns-in-50-to-54
returns-in-50-to-54 c = c.store_operation-in-50-to-54.ensures ∙ in-range (context c.args.regs.now c.args.before.sw c.args.before.pi) c.args.before.n c.args.x c.args.y c.args.z (operation_of c.args.before.n.form) 4 50 55 refl (omega arith) (omega arith)

pub returns-in-55-to-59 : goal.returns-in-55-to-59
returns-in-55-to-59 c = c.integer_operation.ensures ∙ in-range (context c.args.regs.now c.args.before.sw c.args.before.pi) c.args.before.n c.args.x c.args.y c.args.z (operation_of c.args.before.n.form) 5 55 60 refl (omega arith) (omega arith)

pub returns-in-60-to-62 : goal.returns-in-60-to-62
returns-in-60-to-62 c = c.float_operation.ensures ∙ in-range (context c.args.regs.now c.args.before.sw c.args.before.pi) c.args.before.n c.args.x c.args.y c.args.z (operation_of c.args.before.n.form) 6 60 63 refl (omega arith) (omega arith)

pub returns-in-63-to-67 : goal.returns-in-63-to-67
returns-in-63-to-67 c = c.integer_operation-in-63-to-67.ensures ∙ in-range (context c.args.regs.now c.args.before.sw c.args.before.pi) c.args.before.n c.args.x c.args.y c.args.z (operation_of c.args.before.n.form) 7 63 68 refl (omega arith) (omega arith)

pub returns-in-68-to-70 : goal.returns-in-68-to-70
returns-in-68-to-70 c = c.float_operation-in-68-to-70.ensures ∙ in-range (context c.args.regs.now c.args.before.sw c.args.before.pi) c.args.before.n c.args.x c.args.y c.args.z (operation_of c.args.before.n.form) 8 68 71 refl (omega arith) (omega arith)

pub returns-in-71-to-73 : goal.returns-in-71-to-73
returns-in-71-to-73 c = c.integer_operation-in-71-to-73.ensures ∙ in-range (context c.args.regs.now c.args.before.sw c.args.before.pi) c.args.before.n c.args.x c.args.y c.args.z (operation_of c.args.before.n.form) 9 71 74 refl (omega arith) (omega arith)

pub returns-in-74-to-75 : goal.returns-in-74-to-75
returns-in-74-to-75 c = c.float_operation-in-74-to-75.ensures ∙ in-range (context c.args.regs.now c.args.before.sw c.args.before.pi) c.args.before.n c.args.x c.args.y c.args.z (operation_of c.args.before.n.form) 10 74 76 refl (omega arith) (omega arith)

pub returns-in-76-to-78 : goal.returns-in-76-to-78
returns-in-76-to-78 c = c.integer_operation-in-76-to-78.ensures ∙ in-range (context c.args.regs.now c.args.before.sw c.args.before.pi) c.args.before.n c.args.x c.args.y c.args.z (operation_of c.args.before.n.form) 11 76 79 refl (omega arith) (omega arith)

pub returns-in-79-to-80 : goal.returns-in-79-to-80
returns-in-79-to-80 c = c.float_operation-in-79-to-80.ensures ∙ in-range (context c.args.regs.now c.args.before.sw c.args.before.pi) c.args.before.n c.args.x c.args.y c.args.z (operation_of c.args.before.n.form) 12 79 81 refl (omega arith) (omega arith)

pub returns-in-81-to-84 : goal.returns-in-81-to-84
returns-in-81-to-84 c = c.logical_operation.ensures ∙ in-range (context c.args.regs.now c.args.before.sw c.args.before.pi) c.args.before.n c.args.x c.args.y c.args.z (operation_of c.args.before.n.form) 13 81 85 refl (omega arith) (omega arith)

pub returns-in-85-to-88 : goal.returns-in-85-to-88
returns-in-85-to-88 c = c.float_operation-in-85-to-88.ensures ∙ in-range (context c.args.regs.now c.args.before.sw c.args.before.pi) c.args.before.n c.args.x c.args.y c.args.z (operation_of c.args.before.n.form) 14 85 89 refl (omega arith) (omega arith)

pub returns-in-89-to-93 : goal.returns-in-89-to-93
returns-in-89-to-93 c = c.logical_operation-in-89-to-93.ensures ∙ in-range (context c.args.regs.now c.args.before.sw c.args.before.pi) c.args.before.n c.args.x c.args.y c.args.z (operation_of c.args.before.n.form) 15 89 94 refl (omega arith) (omega arith)

pub returns-in-94-to-95 : goal.returns-in-94-to-95
returns-in-94-to-95 c = c.float_operation-in-94-to-95.ensures ∙ in-range (context c.args.regs.now c.args.before.sw c.args.before.pi) c.args.before.n c.args.x c.args.y c.args.z (operation_of c.args.before.n.form) 16 94 96 refl (omega arith) (omega arith)

pub returns-in_default : goal.returns-in_default
returns-in_default c = c.nothing.ensures c.args.regs.now ∙ past_all (context c.args.regs.now c.args.before.sw c.args.before.pi) c.args.before.n c.args.x c.args.y c.args.z (operation_of c.args.before.n.form) 96 refl (omega arith)
