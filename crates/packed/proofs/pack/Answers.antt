-- The answers to the goals of `packed::pack`. Assumes nothing.
use Rattle.std.proofs.Common.{◌≡◌, length, rules, refl, sym, ◌∙◌}
use Rattle.packed.proofs.PackLaws.{registers-first}
use Rattle.packed.proofs.pack.Goals as goal

pub returns : goal.returns
returns c =
    let l : length c.args.s.regs ≡ 16 = search rules in
    c.copy_from_slice-2.ensures.after ∙ rw (c.copy_from_slice.ensures.after, c.marks.ensures) refl ∙ sym (registers-first _ l)
