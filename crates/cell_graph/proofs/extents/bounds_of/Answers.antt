use Rattle.std.proofs.Common.{◌≡◌, ◌⊎◌, None, subst, List}
use Rattle.geo_base.specs.declared.shapes.Point.{Point}
use Rattle.cell_graph.specs.declared.cells.OwnLayer.{OwnLayer}
use Rattle.cell_graph.specs.declared.cells.RawText.{RawText}
use Rattle.cell_graph.specs.Drafts.{IsCorner}
use Rattle.cell_graph.specs.Extents.{PlacesPoint}
use Rattle.cell_graph.specs.Sides.{Widens, Among}
use Rattle.cell_graph.proofs.Widening.{widens_both}
use Rattle.cell_graph.proofs.Hulls.{near_or_far}
use Rattle.cell_graph.proofs.extents.bounds_of.Goals as goal

pub returns-clause-bounds : goal.returns-clause-bounds
returns-clause-bounds c =
    let d = c.args.cell.now in
    let layers : Widens None (Among (λ (l : OwnLayer). Among IsCorner l.set) d.layers.items) c.with_layers.result = subst (λ (ls : List OwnLayer). Widens None (Among (λ (l : OwnLayer). Among IsCorner l.set) ls) c.with_layers.result) c.deref.ensures.value c.with_layers.ensures.widens in
    let texts : Widens c.with_layers.result (Among (λ (t : RawText) (p : Point). t.at ≡ p) d.texts.items) c.with_texts-own.result = subst (λ (ts : List RawText). Widens c.with_layers.result (Among (λ (t : RawText) (p : Point). t.at ≡ p) ts) c.with_texts-own.result) c.deref-2.ensures.value c.with_texts-own.ensures in
    let own = widens_both None c.with_layers.result c.with_texts-own.result (Among (λ (l : OwnLayer). Among IsCorner l.set) d.layers.items) (Among (λ (t : RawText) (p : Point). t.at ≡ p) d.texts.items) layers texts in
    let all = widens_both None c.with_texts-own.result c.in-Some.all (λ p. Among (λ (l : OwnLayer). Among IsCorner l.set) d.layers.items p ⊎ Among (λ (t : RawText) (p : Point). t.at ≡ p) d.texts.items p) (PlacesPoint c.args.places.now c.args.found.now) own (c.in-Some.ensures {u = tt}) in
    near_or_far d c.args.places.now c.args.found.now c.in-Some.all c.near_only.result all c.near_only.ensures
