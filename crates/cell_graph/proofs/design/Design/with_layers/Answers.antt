use Rattle.std.proofs.Common.{◌≡◌, ◌∙◌, List, sym, ap, subst, length}
use Rattle.std.proofs.lemmas.Result.{err_from_is_err_and}
use Rattle.cell_graph.specs.declared.cells.CellPart.{CellPart}
use Rattle.cell_graph.specs.Layering.{cell_names, IsLayeredDesign}
use Rattle.cell_graph.specs.Linked.{Linked, keeping}
use Rattle.cell_graph.proofs.Relinking.{arrays, fault, inside_of, keys_apart, layered, made_of, top_at, top_named}
use Rattle.flat_layout.specs.declared.way.Way.{Way}
use Rattle.cell_graph.proofs.design.Design.with_layers.Goals as goal

pub drafts_of-requires-clause-inside : goal.drafts_of-requires-clause-inside
drafts_of-requires-clause-inside c =
    inside_of c.args.self c.into_cells-cells.result.items c.deref-2.result.now c.sound.ensures c.into_cells-cells.ensures (c.deref-2.ensures.value ∙ c.in_ok-names.ensures {u = tt} ∙ ap (λ (cs : List CellPart). cell_names cs) c.deref.ensures.value)

pub drafts_of-requires-clause-further : goal.drafts_of-requires-clause-further
drafts_of-requires-clause-further c = c.requires.further.count ∙ sym (ap length c.into_cells-cells.ensures)

pub link-requires-clause-keys : goal.link-requires-clause-keys
link-requires-clause-keys c =
    let d = c.args.self in
    let names : c.deref-2.result.now ≡ cell_names c.into_cells-cells.result.items = c.deref-2.ensures.value ∙ c.in_ok-names.ensures {u = tt} ∙ ap (λ (cs : List CellPart). cell_names cs) c.deref.ensures.value in
    let made = made_of d c.into_cells-cells.result.items c.deref-2.result.now c.args.keys.now c.args.further.items c.in_ok-drafts.drafts.items c.into_cells-cells.ensures names (c.in_ok-drafts.ensures {u = tt}) in
    keys_apart d c.sound.ensures c.requires.names c.args.keys.now c.args.further.items c.requires.further c.in_ok-drafts.drafts.items made

pub link-requires-clause-arrays : goal.link-requires-clause-arrays
link-requires-clause-arrays c =
    let d = c.args.self in
    let names : c.deref-2.result.now ≡ cell_names c.into_cells-cells.result.items = c.deref-2.ensures.value ∙ c.in_ok-names.ensures {u = tt} ∙ ap (λ (cs : List CellPart). cell_names cs) c.deref.ensures.value in
    let made = made_of d c.into_cells-cells.result.items c.deref-2.result.now c.args.keys.now c.args.further.items c.in_ok-drafts.drafts.items c.into_cells-cells.ensures names (c.in_ok-drafts.ensures {u = tt}) in
    arrays d c.sound.ensures c.requires.names c.args.keys.now c.args.further.items c.requires.further c.in_ok-drafts.drafts.items made

pub returns-in_err-linked-clause-fault : goal.returns-in_err-linked-clause-fault
returns-in_err-linked-clause-fault c =
    let d = c.args.self in
    let keys = c.args.keys.now in
    let further = c.args.further.items in
    let drafts = c.in_ok-drafts.drafts.items in
    let top = c.in_ok-top.top in
    let names : c.deref-2.result.now ≡ cell_names c.into_cells-cells.result.items = c.deref-2.ensures.value ∙ c.in_ok-names.ensures {u = tt} ∙ ap (λ (cs : List CellPart). cell_names cs) c.deref.ensures.value in
    let made = made_of d c.into_cells-cells.result.items c.deref-2.result.now keys further drafts c.into_cells-cells.ensures names (c.in_ok-drafts.ensures {u = tt}) in
    let at_top = top_named d c.sound.ensures c.requires.names keys further c.requires.further drafts made top (λ cell at. c.in_ok-top.ensures {u = tt} ∙ c.name.ensures cell (top_at d c.top.result cell c.top.ensures at)) in
    let p = err_from_is_err_and c.from_residual-in_err-linked.result c.from_residual-in_err-linked.ensures.1 in
    rw (p.1, p.2) (fault d c.sound.ensures c.requires.names keys further c.requires.further drafts made top at_top c.in_err-linked.field-0.0 (c.in_err-linked.ensures {u = tt}).fault)

pub returns-clause-design : goal.returns-clause-design
returns-clause-design c =
    let d = c.args.self in
    let keys = c.args.keys.now in
    let further = c.args.further.items in
    let drafts = c.in_ok-drafts.drafts.items in
    let top = c.in_ok-top.top in
    let names : c.deref-2.result.now ≡ cell_names c.into_cells-cells.result.items = c.deref-2.ensures.value ∙ c.in_ok-names.ensures {u = tt} ∙ ap (λ (cs : List CellPart). cell_names cs) c.deref.ensures.value in
    let made = made_of d c.into_cells-cells.result.items c.deref-2.result.now keys further drafts c.into_cells-cells.ensures names (c.in_ok-drafts.ensures {u = tt}) in
    let at_top = top_named d c.sound.ensures c.requires.names keys further c.requires.further drafts made top (λ cell at. c.in_ok-top.ensures {u = tt} ∙ c.name.ensures cell (top_at d c.top.result cell c.top.ensures at)) in
    let e = c.in_ok-linked.linked in
    let made_one : IsLayeredDesign d keys further (keeping d.way e) = layered d c.sound.ensures c.requires.names keys further c.requires.further drafts made top at_top e (c.in_ok-linked.ensures {u = tt}).design in
    let way_one : IsLayeredDesign d keys further (keeping c.way-way.result e) = subst (λ (w : Way). IsLayeredDesign d keys further (keeping w e)) (sym c.way-way.ensures) made_one in
    subst (λ (x : Linked). IsLayeredDesign d keys further x) (sym c.keeping.ensures) way_one
