use Rattle.std.proofs.Common.{◌≡◌, ◌<◌, ◌∙◌, ℕ, List, length, map, slice_index, sym, ap, subst}
use Rattle.std.specs.List.{All}
use Rattle.std.proofs.lemmas.Result.{IfOk-weaker}
use Rattle.tile_index.specs.Windows.{ArePositions}
use Rattle.cell_graph.specs.Indexes.{AreSpans}
use Rattle.cell_graph.specs.Linked.{Linked, cell_at, places_at}
use Rattle.cell_graph.specs.Spans.{ArePlacesIn}
use Rattle.cell_graph.proofs.Windows.{index_at_cell, all_inside, places_found}
use Rattle.cell_graph.proofs.design.Design.places_in.Goals as goal

pub numbers_at-requires : goal.numbers_at-requires
numbers_at-requires c =
    let x = c.index-index.result.now in
    let in_cells : c.args.cell < length c.self.inside.cells.items = subst (λ (d : Linked). c.args.cell < length d.cells) (sym c.self.view_is) c.requires in
    let h = index_at_cell c.self.inside.cells.items c.self.inside.indexes.items c.self.invariant.indexed c.args.cell in_cells x c.index-index.ensures in
    let found : ArePositions x.spans c.args.w c.in_ok-found.found.items = c.in_ok-found.ensures {u = tt} in
    let all : All (λ j. j < length x.spanned.items) c.in_ok-found.found.items = all_inside x.spans c.args.w c.in_ok-found.found.items (length x.spanned.items) h.count found in
    rw (c.deref.ensures.value, c.deref-2.ensures.value) all

pub returns : goal.returns
returns c =
    let x = c.index-index.result.now in
    let in_cells : c.args.cell < length c.self.inside.cells.items = subst (λ (d : Linked). c.args.cell < length d.cells) (sym c.self.view_is) c.requires in
    let h = index_at_cell c.self.inside.cells.items c.self.inside.indexes.items c.self.invariant.indexed c.args.cell in_cells x c.index-index.ensures in
    let d = c.args.self.now in
    let spans : AreSpans d.cells (places_at (cell_at d c.args.cell)) x.spanned.items x.spans = subst (λ (d : Linked). AreSpans d.cells (places_at (cell_at d c.args.cell)) x.spanned.items x.spans) c.self.view_is h in
    let found : ArePositions x.spans c.args.w c.in_ok-found.found.items = c.in_ok-found.ensures {u = tt} in
    let places : ArePlacesIn d c.args.cell c.args.w (map (slice_index x.spanned.items) c.in_ok-found.found.items) = places_found d c.args.cell c.args.w x.spanned.items x.spans c.in_ok-found.found.items spans found in
    let same : map (slice_index x.spanned.items) c.in_ok-found.found.items ≡ map (slice_index c.deref.result.now) c.deref-2.result.now = ap (λ (ns : List ℕ). map (slice_index ns) c.in_ok-found.found.items) (sym c.deref.ensures.value) ∙ ap (map (slice_index c.deref.result.now)) (sym c.deref-2.ensures.value) in
    IfOk-weaker c.numbers_at.result (λ v. v.items ≡ map (slice_index c.deref.result.now) c.deref-2.result.now) (λ v. ArePlacesIn d c.args.cell c.args.w v.items)
    (λ v e. subst (ArePlacesIn d c.args.cell c.args.w) (same ∙ sym e) places) c.numbers_at.ensures
