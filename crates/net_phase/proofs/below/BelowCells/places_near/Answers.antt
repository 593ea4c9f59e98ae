use Rattle.std.proofs.Common.{◌∙◌, List, [], ap, get_or, refl, sym, subst}
use Rattle.std.proofs.Math.ListN.{get_or-map}
use Rattle.cell_graph.specs.Linked.{plain}
use Rattle.geo_base.specs.declared.shapes.Rect.{Rect}
use Rattle.net_phase.proofs.Holding.{span_has}
use Rattle.net_phase.proofs.Nearing.{found_places, no_places}
use Rattle.net_phase.proofs.Results.{if_ok}
use Rattle.net_phase.proofs.below.BelowCells.places_near.Goals as goal
use Rattle.net_phase.specs.Below.{BelowSeen, below_seen, tables_seen}
use Rattle.net_phase.specs.Elements.{element_lists}
use Rattle.net_phase.specs.Indexes.{spans_of}
use Rattle.net_phase.specs.Own.{rect_lists}
use Rattle.net_walk.specs.Windows.{ArePlacesNear}
use Rattle.tile_index.specs.Windows.{ArePositions}

pub returns-in-None : goal.returns-in-None
returns-in-None c =
    let a = c.self.inside in let d = a.design.now in let cell = c.args.cell in let w = c.args.window.now in
    let elements = element_lists a.elements.now in
    let spans = ap (λ (l : List (List Rect)). get_or l cell []) c.self.invariant.indexes.spans ∙ get_or-map (spans_of a.indexes.now.reach d) elements cell [] in
    let none = sym spans ∙ c.in-None.ensures in
    rw c.new.ensures.items
    (subst (λ (v : BelowSeen). ArePlacesNear (plain v.design) (tables_seen v) cell w []) c.self.view_is (no_places a.indexes.now.reach d (tables_seen (below_seen a)) cell w (get_or elements cell []) (c.self.invariant.elements cell).all none))

pub returns-in-Some : goal.returns-in-Some
returns-in-Some c =
    let a = c.self.inside in let d = a.design.now in let cell = c.args.cell in let w = c.args.window.now in
    let elements = element_lists a.elements.now in
    let t = tables_seen (below_seen a) in
    let spans = ap (λ (l : List (List Rect)). get_or l cell []) c.self.invariant.indexes.spans ∙ get_or-map (spans_of a.indexes.now.reach d) elements cell [] in
    let is = c.in-Some.ensures ∙ spans in
    if_ok _ _ c.query.result (λ v found.
    subst (λ (s : BelowSeen). ArePlacesNear (plain s.design) (tables_seen s) cell w v.items) c.self.view_is
    (found_places a.indexes.now.reach d t cell w (get_or elements cell []) v.items (c.self.invariant.elements cell).all (subst (λ (l : List Rect). ArePositions l w v.items) is found)
    (span_has a.indexes.now.reach c.self.invariant.indexes.reach.most d t (rect_lists a.own.now) c.self.invariant.sound c.self.invariant.own (λ e k. refl)))) c.query.ensures
