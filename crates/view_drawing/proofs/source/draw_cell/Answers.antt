use Rattle.std.proofs.Common.{◌≡◌, ◌∙◌, List, [], Some, ap, get_or, map, slice_get, subst, sym}
use Rattle.std.proofs.lemmas.List.{length-map}
use Rattle.std.specs.Global.{Vec}
use Rattle.std.proofs.lemmas.Result.{err_from_is_err_and}
use Rattle.cell_graph.specs.Linked.{plain}
use Rattle.deep_tables.specs.Entries.{entry}
use Rattle.deep_tables.specs.declared.gates.Gate.{Gate}
use Rattle.geo_base.specs.declared.motion.Motion.{Motion}
use Rattle.net_model.specs.Rows.{plain_device}
use Rattle.net_phase.specs.Elements.{element_lists}
use Rattle.net_walk.specs.declared.cells.Element.{Element}
use Rattle.view_netlist.specs.declared.drawing.Shape.{Shape}
use Rattle.view_drawing.specs.Calls.{AreCallsDrawn, called_motions}
use Rattle.view_drawing.specs.Devices.{ArePlaced, areas_of}
use Rattle.view_drawing.specs.Drawn.{listed_tables}
use Rattle.view_drawing.specs.Far.{Device, HasFarCall, HasFarGate, Hull, IsFarHull, Net}
use Rattle.view_drawing.proofs.Fars.{err_as, far_placed}
use Rattle.view_shapes.specs.Shown.{called_by}
use Rattle.view_drawing.proofs.Reading.{element_reached, gates_are, inside}
use Rattle.view_drawing.proofs.Moving.{calls_drawn}
use Rattle.view_drawing.proofs.source.draw_cell.Goals as goal

pub hull-requires : goal.hull-requires
hull-requires c = inside c.args.source.design.now c.args.cell c.sound.ensures c.requires.reached

pub call_motions-requires : goal.call_motions-requires
call_motions-requires c k e at =
    let d = c.args.source.design.now in let cell = c.args.cell in
    let es = get_or (element_lists c.args.lists.now.elements.items) cell [] in
    let same : c.elements_at.result.now ≡ es = c.elements_at.ensures ∙ ap (λ (l : List (Vec Element)). get_or (element_lists l) cell []) c.deref-2.ensures.value in
    (c.requires.entries e.cell (element_reached d cell k es e (c.requires.lists.elements cell) c.requires.reached (subst (λ (l : List Element). slice_get l k ≡ Some e) same at))).circuits

pub returns-clause-drawn : goal.returns-clause-drawn
returns-clause-drawn c =
    let d = c.args.source.design.now in let cell = c.args.cell in
    let es = get_or (element_lists c.args.lists.now.elements.items) cell [] in
    let same : c.elements_at.result.now ≡ es = c.elements_at.ensures ∙ ap (λ (l : List (Vec Element)). get_or (element_lists l) cell []) c.deref-2.ensures.value in
    let areas = areas_of c.place_devices.new.found.regions.items in
    record {
      hull = c.in_ok-hull.ensures.hull ∙ c.hull.ensures;
      count = length-map c.in_ok-nets.nets.items (λ (s : Vec Shape). s.items) ∙ c.in_ok-nets.ensures.count;
      nets = c.in_ok-nets.ensures.drawn;
      devices = subst (λ (g : List Gate). ArePlaced areas g (map plain_device c.args.circuit.now.devices.items) c.in_ok-devices.devices.items)
          (sym (gates_are (entry c.args.source.gates.now cell) c.of.result.now c.of.ensures))
          (subst (λ l. ArePlaced areas c.of.result.now (map plain_device l) c.in_ok-devices.devices.items) c.deref.ensures.value c.in_ok-devices.ensures.places);
      calls = λ cells calls tells of. subst (λ (ms : List Motion). AreCallsDrawn (plain d) cell calls ms)
          (sym (c.in_ok-calls.ensures.motions ∙ ap (called_motions c.args.source.circuits.now) same))
          (calls_drawn c.args.source.circuits.now (plain d) cell cells calls es (c.requires.lists.elements cell).all tells of.placements of.rising);
    }

pub returns-in_err-hull-clause-far : goal.returns-in_err-hull-clause-far
returns-in_err-hull-clause-far c =
    let e = err_from_is_err_and c.from_residual.result c.from_residual.ensures.1 in
    rw (e.1, e.2) (λ s. Hull (subst IsFarHull c.hull.ensures (c.in_err-hull.ensures.far (err_as _ _ s))))

pub returns-in_err-nets-clause-far : goal.returns-in_err-nets-clause-far
returns-in_err-nets-clause-far c =
    let e = err_from_is_err_and c.from_residual-in_err-nets.result c.from_residual-in_err-nets.ensures.1 in
    rw (e.1, e.2) (λ s. Net (c.in_err-nets.ensures.far (err_as _ _ s)))

pub returns-in_err-devices-clause-far : goal.returns-in_err-devices-clause-far
returns-in_err-devices-clause-far c =
    let e = err_from_is_err_and c.from_residual-in_err-devices.result c.from_residual-in_err-devices.ensures.1 in
    let gates = gates_are (entry c.args.source.gates.now c.args.cell) c.of.result.now c.of.ensures in
    rw (e.1, e.2) (λ s. Device (subst (λ (l : List Gate). HasFarGate l) (sym gates) (c.in_err-devices.ensures.far (err_as _ _ s))))

pub returns-in_err-calls-clause-far : goal.returns-in_err-calls-clause-far
returns-in_err-calls-clause-far c =
    let e = err_from_is_err_and c.from_residual-in_err-calls.result c.from_residual-in_err-calls.ensures.1 in
    let cell = c.args.cell in
    let es = get_or (element_lists c.args.lists.now.elements.items) cell [] in
    let same : c.elements_at.result.now ≡ es = c.elements_at.ensures ∙ ap (λ (l : List (Vec Element)). get_or (element_lists l) cell []) c.deref-2.ensures.value in
    rw (e.1, e.2) (λ s. far_placed c.args.source (listed_tables c.args.lists.now) (called_by c.args.lists.now.called.items) cell es (c.requires.lists.elements cell)
    (subst (λ (l : List Element). HasFarCall c.args.source.circuits.now l) same (c.in_err-calls.ensures.far (err_as _ _ s))))
