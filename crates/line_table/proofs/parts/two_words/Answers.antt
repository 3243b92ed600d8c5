-- The answers to the goals of `line_table::parts::two_words`. Assumes nothing.
use Rattle.std.proofs.Common.{◌≡◌, List, [], ◌∷◌, refl, ap, ◌∙◌, rules, tests, ◌||◌}
use Rattle.std.proofs.lemmas.Iterator.{YieldsList-from_slice}
use Rattle.std.proofs.lemmas.Iterator.Search.{any_from_yields_List}
use Rattle.std.specs.List.{list_any}
use Rattle.line_operand.specs.declared.Shape.{Shape}
use Rattle.line_operand.specs.declared.Place.TheVariants.{Second}
use Rattle.line_operand.specs.Shapes.{meets, covers}
use Rattle.line_table.proofs.parts.two_words.Goals as goal

any-covers : (ss : List Shape) → list_any (λ s. meets s.place Second) ss ≡ covers ss Second
unfolding covers
any-covers [] = refl
any-covers (s ∷ ss) = ap (λ b. meets s.place Second || b) (any-covers ss)

pub returns : goal.returns
returns c = any_from_yields_List (λ (s : Shape). meets s.place Second) _ _ _ c.any.ensures.ran (YieldsList-from_slice c.args.shapes.now cc) (λ x b q k. search (rules, tests)) ∙ any-covers c.args.shapes.now
