use Rattle.std.proofs.Common.{◌∙◌, ◌++◌, ◌∷◌, [], List, ap, sym, subst, get_or}
use Rattle.std.proofs.lemmas.List.{map_more, take_all}
use Rattle.geo_base.specs.declared.shapes.Rect.{Rect}
use Rattle.cell_context.proofs.Collecting.{no_rect}
use Rattle.cell_context.proofs.Near.{chosen, own_inside}
use Rattle.gate_phase.specs.Indexes.{AreMetOf}
use Rattle.gate_phase.proofs.Indexing.{chosen_met}
use Rattle.gate_phase.proofs.met.rects_at.Goals as goal

pub bounds-rects-i : goal.bounds-rects-i
bounds-rects-i c = own_inside c.args.rects.now c.args.window.now c.args.near.now c.loop-i.i-index c.requires c.loop-i-test.true

pub loop-i-preserved : goal.loop-i-preserved
loop-i-preserved c =
    let rects = c.args.rects.now in let near = c.args.near.now in let k = c.loop-i.i-index in
    c.in_ok-push.ensures.items ∙ ap (λ (l : List Rect). l ++ get_or rects (get_or near k 0) no_rect ∷ []) c.loop-i.invariant
    ∙ sym (map_more (λ i. get_or rects i no_rect) near k 0 c.loop-i-test.true)

pub returns : goal.returns
returns c =
    let rects = c.args.rects.now in
    subst (AreMetOf rects c.args.window.now)
    (sym (c.loop-i.invariant ∙ ap (chosen rects) (take_all c.loop-i.i-index c.args.near.now c.loop-i-test.false)))
    (chosen_met rects c.args.window.now c.args.near.now c.requires)
