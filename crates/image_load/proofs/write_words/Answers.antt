-- The answers to the goals of `image_load::write_words`. Assumes nothing.
use Rattle.std.proofs.Common.{◌≡◌, ◌+◌, ◌-◌, ◌*◌, refl, sym, ◌∙◌, arith}
use Rattle.image_load.proofs.BodyLaws.{words-none, words_step}
use Rattle.image_load.proofs.write_words.Goals as goal

pub loop-i-preserved : goal.loop-i-preserved
loop-i-preserved c =
    let e : c.args.start + c.loop-i.i + 1 ≡ c.args.start + (c.loop-i.i + 1) = omega arith in
    let f : c.args.at + 2 * c.loop-i.i + 2 ≡ c.args.at + 2 * (c.loop-i.i + 1) = omega arith in
    let g : c.args.n - c.loop-i.i - 1 ≡ c.args.n - (c.loop-i.i + 1) = omega arith in
    c.loop-i.invariant ∙ words_step _ _ _ _ (c.args.n - c.loop-i.i) _ (omega arith) c.word_at.ensures ∙ rw (e, f, g) refl

pub returns : goal.returns
returns c = sym (c.loop-i.invariant ∙ words-none _ _ _ _ (c.args.n - c.loop-i.i) (omega arith))
