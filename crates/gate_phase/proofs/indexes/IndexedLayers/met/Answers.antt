use Rattle.std.proofs.Common.{◌≡◌, ◌∙◌, List, Option, Some, ap, sym, subst}
use Rattle.std.specs.Global.{Vec}
use Rattle.geo_base.specs.declared.shapes.Rect.{Rect}
use Rattle.deep_tables.specs.Layers.{layer_of}
use Rattle.gate_phase.specs.Indexes.{AreMetOf, LayersOf, index_in, index_lists}
use Rattle.gate_phase.proofs.Keeping.{one_layer}
use Rattle.gate_phase.proofs.Results.{if_ok}
use Rattle.gate_phase.proofs.indexes.IndexedLayers.met.Goals as goal

pub found_rects-requires : goal.found_rects-requires
found_rects-requires c =
    let a = c.self.inside in let cell = c.args.cell in let name = c.args.name in let index : List Rect = c.in-Some.index.now in
    let at = ap (λ (l : List (Vec (Option (List Rect)))). index_in (index_lists l) cell name) (sym c.deref.ensures.value) ∙ c.in-Some.ensures in
    let held = subst (λ (x : LayersOf). layer_of x.table cell name ≡ Some index) c.self.view_is (c.self.invariant.right cell name index at) in
    one_layer (layer_of c.args.self.now.table cell name) index c.local.result.now held c.local.ensures ∙ sym c.rects-rects.ensures.list

pub returns-in-Some : goal.returns-in-Some
returns-in-Some c =
    if_ok _ _ c.found_rects.result (λ v met layer at.
    subst (λ (l : List Rect). AreMetOf l c.args.window.now v.items) (c.rects-rects.ensures.list ∙ one_layer (layer_of c.args.self.now.table c.args.cell c.args.name) c.local.result.now layer c.local.ensures at) met) c.found_rects.ensures

pub returns-in-None : goal.returns-in-None
returns-in-None c =
    if_ok _ _ c.met_rects.result (λ v met layer at.
    subst (λ (l : List Rect). AreMetOf l c.args.window.now v.items) (c.rects-rects.ensures.list ∙ one_layer (layer_of c.args.self.now.table c.args.cell c.args.name) c.local.result.now layer c.local.ensures at) met) c.met_rects.ensures
