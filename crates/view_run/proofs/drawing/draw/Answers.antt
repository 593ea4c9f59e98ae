use Rattle.std.proofs.Common.{◌≡◌, ℕ, List, Some, map, refl, slice_get, subst, sym}
use Rattle.cell_graph.specs.Linked.{Linked, plain}
use Rattle.flat_layout.specs.Layout.{IsReached}
use Rattle.net_model.specs.Rows.{plain_circuit, plain_netlist}
use Rattle.net_model.specs.declared.netlist.Circuit.{Circuit}
use Rattle.rule_text.specs.Seen.{rules_seen}
use Rattle.view_drawing.specs.Drawn.{listed_tables}
use Rattle.view_drawing.proofs.Reading.{inside}
use Rattle.view_picture.specs.Picture.{AreDrawn}
use Rattle.view_shapes.specs.Shown.{called_by}
use Rattle.std.proofs.lemmas.Result.{err_from_is_err_and}
use Rattle.view_drawing.proofs.Fars.{err_as}
use Rattle.view_run.proofs.Pictured.{all_there, far_circuit, reached, sketched}
use Rattle.view_run.proofs.drawing.draw.Goals as goal

pub draw_lists-requires-clause-cells : goal.draw_lists-requires-clause-cells
draw_lists-requires-clause-cells c =
    let s = c.source_of-source in
    let cells = c.args.found in
    let here = reached c.args.layout.now (rules_seen c.args.rules.now) cells c.requires.cells in
    let by_source = subst (λ (d : Linked). (k : ℕ) → (cell : ℕ) → slice_get cells.cells.items k ≡ Some cell → IsReached (plain d) cell) (sym s.ensures.design) here in
    subst (λ (xs : List ℕ). (k : ℕ) → (cell : ℕ) → slice_get xs k ≡ Some cell → IsReached (plain s.result.design.now) cell) (sym c.deref.ensures.value) by_source

pub returns-clause-sketched : goal.returns-clause-sketched
returns-clause-sketched c =
    let s = c.source_of-source in
    let lists = c.in_ok-lists.lists in
    let found = c.args.found in
    let l = c.args.layout.now in
    let drawn = c.in_ok-sketch.sketch in
    let here = reached l (rules_seen c.args.rules.now) found c.requires.cells in
    let Is : List ℕ → List (List ℕ) → List Circuit → Type 0 = λ xs ns cs. AreDrawn s.result (listed_tables lists) (called_by lists.called.items) xs ns (map plain_circuit cs) drawn in
    let by_cells = subst (λ (xs : List ℕ). Is xs c.deref-2.result.now c.as_slice-circuits.result.now) c.deref.ensures.value c.in_ok-sketch.ensures.drawn in
    let by_names = subst (λ (ns : List (List ℕ)). Is found.cells.items ns c.as_slice-circuits.result.now) c.deref-2.ensures.value by_cells in
    let by = subst (λ (cs : List Circuit). Is found.cells.items c.args.names.items cs) c.as_slice-circuits.ensures.value by_names in
    sketched l c.args.rules.now found c.args.names.items (plain_netlist c.args.written.now) s.result lists s.ensures.design s.ensures.rules _ refl refl (λ k cell at. inside l.design cell c.sound.ensures (here k cell at)) c.requires.cells
    s.ensures.layers s.ensures.nets s.ensures.gates s.ensures.pins s.ensures.circuits c.in_ok-lists.ensures.lists c.in_ok-lists.ensures.right by c.in_ok-sketch.ensures.small c.in_ok-sketch.ensures.small_regions

pub returns-in_err-sketch-clause-far : goal.returns-in_err-sketch-clause-far
returns-in_err-sketch-clause-far c =
    let e = err_from_is_err_and c.from_residual-in_err-sketch.result c.from_residual-in_err-sketch.ensures.1 in
    let s = c.source_of-source in
    rw (e.1, e.2) (λ is. far_circuit c.args.layout.now c.args.rules.now c.args.found c.args.names.items (plain_netlist c.args.written.now) s.result c.in_ok-lists.lists s.ensures.design s.ensures.rules c.requires.cells
    s.ensures.layers s.ensures.nets s.ensures.gates s.ensures.pins s.ensures.circuits c.in_ok-lists.ensures.lists c.in_ok-lists.ensures.right (c.in_err-sketch.ensures.far (err_as _ _ is)))

pub draw_lists-requires-clause-entries : goal.draw_lists-requires-clause-entries
draw_lists-requires-clause-entries c =
    let s = c.source_of-source in
    all_there c.args.layout.now (rules_seen c.args.rules.now) c.args.found s.result c.requires.cells s.ensures.design s.ensures.nets s.ensures.gates s.ensures.pins s.ensures.circuits
