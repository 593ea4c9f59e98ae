use Rattle.std.proofs.Common.{◌≡◌, ◌∙◌, true, List, subst, sym}
use Rattle.std.proofs.lemmas.Bool.{and_from}
use Rattle.std.specs.List.{All}
use Rattle.geo_base.specs.Near.{IsNearRect}
use Rattle.geo_base.specs.Rects.{has}
use Rattle.geo_base.specs.declared.shapes.Rect.{Rect}
use Rattle.rect_sets.specs.Rects.{covers}
use Rattle.gate_phase.proofs.Bringing.{part_near}
use Rattle.gate_phase.proofs.seeds.push_part.Goals as goal

pub push_array-requires-clause-near_rects : goal.push_array-requires-clause-near_rects
push_array-requires-clause-near_rects c =
    subst (λ (l : List Rect). All IsNearRect l) (sym c.rects-2.ensures.list) (part_near c.args.below.now c.args.zone.now c.in_ok-part.part c.requires.below c.rects-2.ensures.sound c.in_ok-part.ensures)

pub returns-clause-brings : goal.returns-clause-brings
returns-clause-brings c = λ row column s a b inner covered met.
    let zone = c.args.zone.now in let below = c.args.below.now in
    let here = c.in_ok-part.ensures s ∙ and_from (covers zone s) (has below s) covered inner in
    c.in_ok-push_array.ensures.brings row column s a b inner (subst (λ (l : List Rect). covers l s ≡ true) (sym c.rects-2.ensures.list) here) met
