-- The answers to the goals of `image_load::write_bodies`. Assumes nothing.
use Rattle.std.proofs.Common.{◌≡◌, ◌+◌, ◌-◌, refl, sym, ap, ◌∙◌, arith}
use Rattle.image.proofs.SoundLaws.{entries-within, entries-rest, table-sound}
use Rattle.image.specs.Image.{words_before, table_end, body_at, with_bodies}
use Rattle.image_load.proofs.BodyLaws.{bodies-none, bodies-step, body-next, body-inside, table-inside}
use Rattle.machine.proofs.MachineLaws.{became-machine, machine-became}
use Rattle.image_load.proofs.write_bodies.Goals as goal

pub loop-k-init : goal.loop-k-init
unfolding table_end body_at words_before
loop-k-init c =
    let e = c.count-n.ensures.0 in
    let f : c.count-n.result - 0 ≡ c.count-n.result = omega arith in
    (omega (arith, e), rw (f, e) (table-sound _ _ c.requires.0 c.requires.1).entries, λ ports. rw (f, e) refl)

pub entry_at-e-requires : goal.entry_at-e-requires
entry_at-e-requires c = table-inside _ _ (table-sound _ _ c.requires.0 c.requires.1) c.loop-k.k (c.count-n.result - c.loop-k.k) (omega (arith, c.count-n.ensures.0)) (omega arith)

pub write_body-t-requires : goal.write_body-t-requires
write_body-t-requires c =
    let w = entries-within _ _ (c.count-n.result - c.loop-k.k) c.loop-k.k (omega arith) c.loop-k.invariant.1 _ c.entry_at-e.ensures _ c.loop-k.auto.memory in (
      w.0,
      w.1,
      w.2,
      c.loop-k.auto.pages ∙ c.requires.2,
      body-inside _ _ _ c.entry_at-e.ensures _ c.loop-k.invariant.0 _ (table-sound _ _ c.requires.0 c.requires.1) (c.count-n.result - c.loop-k.k) (omega (arith, c.count-n.ensures.0)) (omega arith),
    )

pub overflow_add-at-in-loop-k : goal.overflow_add-at-in-loop-k
overflow_add-at-in-loop-k c = omega (arith, c.well_formed.1.0.0, body-inside _ _ _ c.entry_at-e.ensures _ c.loop-k.invariant.0 _ (table-sound _ _ c.requires.0 c.requires.1) (c.count-n.result - c.loop-k.k) (omega (arith, c.count-n.ensures.0)) (omega arith))

pub loop-k-preserved : goal.loop-k-preserved
loop-k-preserved c =
    let f : c.count-n.result - c.loop-k.k - 1 ≡ c.count-n.result - (c.loop-k.k + 1) = omega arith in (
      body-next _ _ _ c.entry_at-e.ensures _ c.loop-k.invariant.0,
      rw f at (entries-rest _ _ (c.count-n.result - c.loop-k.k) c.loop-k.k (omega arith) c.loop-k.invariant.1),
      λ ports. c.loop-k.invariant.2 ports ∙ bodies-step _ _ _ c.entry_at-e.ensures _ c.loop-k.invariant.0 (c.count-n.result - c.loop-k.k) _ (omega arith) ∙ rw f (ap (with_bodies _ _ _) (sym (became-machine (c.write_body-t.ensures ports)))),
    )

pub returns : goal.returns
returns c = λ ports. machine-became (sym (c.loop-k.invariant.2 ports ∙ bodies-none _ (c.count-n.result - c.loop-k.k) _ _ (omega arith)))
