-- The answers to the goals of `operand_words::store_words`. Assumes nothing.
use Rattle.std.proofs.Common.{refl}
use Rattle.operand_words.proofs.GatherLaws.{three-stored}
use Rattle.operand_words.proofs.store_words.Goals as goal

pub returns : goal.returns
returns c = rw (← c.key_of-key.ensures.0, ← c.group_of-group.ensures.0) (three-stored c.key_of-key.result c.group_of-group.result c.args.pages.now c.args.span c.args.x c.args.y c.args.z c.args.memory.now c.requires _ _ refl refl _ _ _ c.store_at.ensures c.store_at-2.ensures c.store_at-3.ensures)
