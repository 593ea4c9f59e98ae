use Rattle.std.proofs.Common.{◌≡◌, ◌∙◌, List, [], Option, Vec, Global, sym, ap, subst, IfOk, IfSome}
use Rattle.geo_base.specs.declared.shapes.Rect.{Rect}
use Rattle.tile_index.specs.Windows.{ArePositions}
use Rattle.cell_graph.specs.Indexes.{sets_of}
use Rattle.cell_graph.specs.Linked.{Linked, own_rects, own_of, cell_at}
use Rattle.cell_graph.proofs.Windows.{index_here, none_found}
use Rattle.cell_graph.proofs.design.Design.own_in.Goals as goal

pub find_index-requires : goal.find_index-requires
find_index-requires c =
    let h = index_here c.args.self.now c.self.inside.cells.items c.self.inside.indexes.items c.args.cell c.args.key c.index-part.result.now c.index.result.now
    c.deref.result.now (ap (λ (d : Linked). d.cells) c.self.view_is) c.self.invariant.indexed c.requires c.index-part.ensures c.index.ensures c.deref.ensures.value in
    let own : c.in-Some.own.items ≡ sets_of c.index-part.result.now.layers.items = subst (λ (o : Option (Vec (List Rect) Global)). IfSome o (λ v. v.items ≡ sets_of c.index-part.result.now.layers.items)) c.in-Some.is h.1.own in
    c.deref-2.ensures.value ∙ own ∙ ap sets_of (sym c.deref.ensures.value)

pub returns-in-Some-find_index : goal.returns-in-Some-find_index
returns-in-Some-find_index c =
    let h = index_here c.args.self.now c.self.inside.cells.items c.self.inside.indexes.items c.args.cell c.args.key c.index-part.result.now c.index.result.now
    c.deref.result.now (ap (λ (d : Linked). d.cells) c.self.view_is) c.self.invariant.indexed c.requires c.index-part.ensures c.index.ensures c.deref.ensures.value in
    let found : c.in-Some-find_index.rects.now ≡ own_rects c.deref.result.now c.args.key = c.in-Some-find_index.ensures {u = tt} in
    subst (λ (rs : List Rect). IfOk c.query.result (λ v. ArePositions rs c.args.w v.items)) (found ∙ sym h.0) c.query.ensures

pub returns-in-None : goal.returns-in-None
returns-in-None c =
    let h = index_here c.args.self.now c.self.inside.cells.items c.self.inside.indexes.items c.args.cell c.args.key c.index-part.result.now c.index.result.now
    c.deref.result.now (ap (λ (d : Linked). d.cells) c.self.view_is) c.self.invariant.indexed c.requires c.index-part.ensures c.index.ensures c.deref.ensures.value in
    let own : own_of (cell_at c.args.self.now c.args.cell) c.args.key ≡ [] = h.0 ∙ c.in-None.ensures {u = tt} in
    rw (own, c.new.ensures.items) (none_found c.args.w)
