use Rattle.std.proofs.Common.{◌≡◌, ◌∙◌, ◌==◌, true, List, ap, subst, sym, length}
use Rattle.geo_base.specs.declared.shapes.Rect.{Rect}
use Rattle.rect_sets.specs.Rects.{covers}
use Rattle.cell_graph.specs.Linked.{cell_at, places_at}
use Rattle.flat_layout.specs.Layers.{Input}
use Rattle.layer_phase.specs.Names.{IsFlatIn}
use Rattle.layer_phase.proofs.Flattening.{input_flats, leaf_flat}
use Rattle.layer_phase.proofs.flats.input_flat.Goals as goal

pub returns-then-is_empty : goal.returns-then-is_empty
returns-then-is_empty c =
    let d = c.args.design.now in
    let none : (length (places_at (cell_at d c.args.cell)) == 0) ≡ true = ap (λ l. length l == 0) (sym c.places.ensures) ∙ sym c.is_empty.ensures ∙ c.if-is_empty.true in
    leaf_flat d c.args.cell c.args.key c.args.looks.now c.lent.result c.sound.ensures none c.requires.own (λ q. ap (λ (l : List Rect). covers l q) (c.lent.ensures ∙ c.own.ensures))

pub returns : goal.returns
returns c =
    let d = c.args.design.now in
    subst (IsFlatIn d c.args.cell c.args.looks.now (Input c.args.key)) (sym c.own-flat.ensures)
    (input_flats d c.args.cell c.args.key c.args.looks.now c.in_ok-set.set c.in_ok-set.ensures)
