-- The answers to the goals of `image_load::write_body`. Assumes nothing.
use Rattle.std.proofs.Common.{◌≡◌, sym, ap, ◌∙◌, arith}
use Rattle.image.specs.Image.{kind_of}
use Rattle.image_load.proofs.BodyLaws.{within-memory, within-pages, within-registers, within-control, to-memory, to-pages, to-registers, to-control}
use Rattle.image_load.proofs.write_body.Goals as goal

pub write_words-requires : goal.write_words-requires
write_words-requires c = (within-memory _ _ c.requires.2 (sym (c.in-Ok-Memory.ensures {u = tt}) ∙ ap kind_of c.in-Ok-Memory.field-0-is), c.requires.4)

pub write_words-requires-in-Ok-Pages : goal.write_words-requires-in-Ok-Pages
write_words-requires-in-Ok-Pages c =
    let k : 2 ≡ c.args.e.kind = ap kind_of (sym c.in-Ok-Pages.field-0-is) ∙ c.in-Ok-Pages.ensures {u = tt} in
    (rw c.requires.3 (within-pages _ _ c.requires.2 (λ h. omega arith) (sym k)), c.requires.4)

pub write_registers-requires : goal.write_registers-requires
write_registers-requires c =
    let k : 3 ≡ c.args.e.kind = ap kind_of (sym c.in-Ok-Registers.field-0-is) ∙ c.in-Ok-Registers.ensures {u = tt} in
    (within-registers _ _ c.requires.2 (λ h. omega arith) (λ h. omega arith) (sym k), c.requires.4)

pub write_control-requires : goal.write_control-requires
write_control-requires c =
    let k : 4 ≡ c.args.e.kind = ap kind_of (sym c.in-Ok-Control.field-0-is) ∙ c.in-Ok-Control.ensures {u = tt} in
    (within-control _ _ c.requires.2 (λ h. omega arith) (λ h. omega arith) (λ h. omega arith), c.requires.4)

pub returns-in-Ok-Memory : goal.returns-in-Ok-Memory
returns-in-Ok-Memory c = λ ports. to-memory _ _ _ _ _ _ _ (sym (c.in-Ok-Memory.ensures {u = tt}) ∙ ap kind_of c.in-Ok-Memory.field-0-is) _ c.write_words.ensures

pub returns-in-Ok-Pages : goal.returns-in-Ok-Pages
returns-in-Ok-Pages c =
    let k : 2 ≡ c.args.e.kind = ap kind_of (sym c.in-Ok-Pages.field-0-is) ∙ c.in-Ok-Pages.ensures {u = tt} in
    λ ports. to-pages _ _ _ _ _ _ _ (λ h. omega arith) (sym k) _ c.write_words-in-Ok-Pages.ensures

pub returns-in-Ok-Registers : goal.returns-in-Ok-Registers
returns-in-Ok-Registers c =
    let k : 3 ≡ c.args.e.kind = ap kind_of (sym c.in-Ok-Registers.field-0-is) ∙ c.in-Ok-Registers.ensures {u = tt} in
    λ ports. to-registers _ _ _ _ _ _ _ (λ h. omega arith) (λ h. omega arith) _ (sym k) c.write_registers.ensures

pub returns-in-Ok-Control : goal.returns-in-Ok-Control
returns-in-Ok-Control c =
    let k : 4 ≡ c.args.e.kind = ap kind_of (sym c.in-Ok-Control.field-0-is) ∙ c.in-Ok-Control.ensures {u = tt} in
    λ ports. to-control _ _ _ _ _ _ _ (λ h. omega arith) (λ h. omega arith) (λ h. omega arith) _ c.write_control.ensures
