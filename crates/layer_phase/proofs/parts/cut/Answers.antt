use Rattle.std.proofs.Common.{◌≡◌, ◌∙◌, ◌<◌, ◌&&◌, ◌||◌, not, Bool, true, false, List, length, arith, ap, refl}
use Rattle.geo_base.specs.Rects.{has}
use Rattle.geo_base.specs.declared.shapes.Rect.{Rect}
use Rattle.rect_sets.specs.Rects.{covers}
use Rattle.cell_graph.proofs.Bridge.{inside_has}
use Rattle.layer_phase.proofs.Held.{listed_has}
use Rattle.layer_phase.proofs.Results.{if_ok}
use Rattle.layer_phase.proofs.parts.cut.Goals as goal

only : (here : Bool) (b : Bool) → ((here || false) && not b) ≡ (here && not b)
only true b = refl
only false b = refl

none_left : (a b : Bool) → (a ≡ true → b ≡ true) → false ≡ (a && not b)
none_left false b h = refl
none_left true true h = refl
none_left true false h = h refl

pub returns-in-len1 : goal.returns-in-len1
returns-in-len1 c = λ q.
    let there = c.args.there.now in
    let least = c.in-len1.len_at_least in
    let some : 0 < length there = omega (arith, least) in
    ap (λ (l : List Rect). covers l q) c.empty.ensures ∙ none_left (has c.args.window.now q) (covers there q) (λ h. listed_has there 0 _ q some (inside_has c.args.window.now _ q (c.is_inside.ensures.inside.0 c.if-is_inside.true) h))

pub returns-in_default : goal.returns-in_default
returns-in_default c = if_ok _ _ c.combine_rects.result (λ r h q. h q ∙ only (has c.args.window.now q) (covers c.args.there.now q)) c.combine_rects.ensures
