use Rattle.std.proofs.Common.{List, sym, subst}
use Rattle.std.proofs.lemmas.Result.{err_from_is_err_and}
use Rattle.cell_graph.specs.Linked.{Linked}
use Rattle.cell_graph.specs.declared.drafts.CellDraft.{CellDraft}
use Rattle.cell_graph.specs.Drafts.{IsFault, IsLink}
use Rattle.cell_graph.specs.Extents.{HaveArrays}
use Rattle.cell_graph.specs.Tops.{now_of}
use Rattle.cell_graph.proofs.Paths.{all_sound}
use Rattle.cell_graph.proofs.Sound.{is_link, done_of}
use Rattle.cell_graph.proofs.design.Design.link.Goals as goal

pub examined-requires : goal.examined-requires
examined-requires c = record { arrays = subst (λ (ds : List CellDraft). HaveArrays ds) (sym c.deref.ensures.value) c.requires.arrays }

pub returns-in_err-found-clause-fault : goal.returns-in_err-found-clause-fault
returns-in_err-found-clause-fault c =
    let p = err_from_is_err_and c.from_residual.result c.from_residual.ensures.1 in
    rw (p.1, p.2) (subst (λ (ds : List CellDraft). IsFault ds (now_of c.args.top) c.in_err-found.field-0.0) c.deref.ensures.value (c.in_err-found.ensures {u = tt}).fault)

pub from_parts-requires : goal.from_parts-requires
from_parts-requires c =
    let cells = c.args.cells.items in
    let e = c.in_ok-found.found in
    let ds = c.in_ok-made.made.items in
    let it = done_of cells c.deref.result.now (now_of c.args.top) e c.deref-2.result.now c.deref-3.result.now ds c.deref.ensures.value c.deref-2.ensures.value c.deref-3.ensures.value
    (c.in_ok-found.ensures {u = tt}).found (c.in_ok-made.ensures {u = tt}) c.requires.keys c.requires.arrays in
    all_sound cells e.parts.items e.heights.items it.0.all e.bounds.items e.top e.order.items ds it.1

pub returns-clause-design : goal.returns-clause-design
returns-clause-design c =
    let cells = c.args.cells.items in
    let e = c.in_ok-found.found in
    let ds = c.in_ok-made.made.items in
    let it = done_of cells c.deref.result.now (now_of c.args.top) e c.deref-2.result.now c.deref-3.result.now ds c.deref.ensures.value c.deref-2.ensures.value c.deref-3.ensures.value
    (c.in_ok-found.ensures {u = tt}).found (c.in_ok-made.ensures {u = tt}) c.requires.keys c.requires.arrays in
    subst (λ (d : Linked). IsLink cells (now_of c.args.top) d) (sym (c.in_ok-design.ensures {u = tt}))
    (is_link cells e.parts.items e.heights.items it.0.all e.bounds.items e.top e.order.items ds (now_of c.args.top) it.1 it.0.tops)
