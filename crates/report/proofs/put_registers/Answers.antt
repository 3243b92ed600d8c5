-- The answers to the goals of `report::put_registers`. Assumes nothing.
use Rattle.std.proofs.Common.{◌≡◌, ℕ, ◌+◌, ◌<◌, List, ◌∷◌, ◌++◌, take, drop, length, rules, arith, refl, ◌∙◌, append-nil, append_assoc, add-one, get_or, get_or-take, get_or-drop, length-take}
use Rattle.text.specs.Texts.{blank, hex}
use Rattle.report.specs.Report.{registers}
use Rattle.report.proofs.put_registers.Goals as goal

-- one register more, which is an element of a part of the list
more : (regs : List ℕ) (first m n : ℕ) → n < length (take m (drop first regs)) → registers regs first (n + 1) ≡ registers regs first n ++ (blank ∷ hex (get_or (take m (drop first regs)) n 0))
unfolding registers
more regs first m n h =
    let k : get_or (take m (drop first regs)) n 0 ≡ get_or regs (first + n) 0 = get_or-take m (drop first regs) n 0 (omega (arith, length-take m (drop first regs))) ∙ get_or-drop first regs n 0 in
    rw (add-one, k) refl

pub loop-word-init : goal.loop-word-init
unfolding registers
loop-word-init g c = search (rules, append-nil)

pub loop-word-preserved : goal.loop-word-preserved
loop-word-preserved g c = record {
  text =
      rw (c.put_hex.ensures.text, c.push.ensures.items, c.loop-word.invariant.text, more c.args.regs.now c.args.first _ c.loop-word.word-index c.loop-word-test.true)
      (simp append_assoc);
  long = omega arith;
}
