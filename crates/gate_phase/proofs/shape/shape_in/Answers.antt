use Rattle.std.proofs.Common.{◌∙◌, ap}
use Rattle.flat_layout.specs.Gates.{InGate, form_of, geometry, sheets}
use Rattle.cell_graph.specs.Linked.{plain}
use Rattle.rule_text.specs.Seen.{rules_seen}
use Rattle.rule_layers.specs.Meaning.{wiring_of}
use Rattle.gate_phase.proofs.Results.{if_ok}
use Rattle.gate_phase.proofs.Shaping.{as_alone, as_form, has_groups, has_none}
use Rattle.gate_phase.proofs.shape.shape_in.Goals as goal

pub grouped_shape-requires-clause-ends : goal.grouped_shape-requires-clause-ends
grouped_shape-requires-clause-ends c = (has_groups (rules_seen c.args.site.now.rules.now) c.args.device.now.kind c.args.device.now.ends c.in-Some.ends c.requires.device.ends c.in-Some.is).1

pub returns-in-Some : goal.returns-in-Some
returns-in-Some c =
    let r = rules_seen c.args.site.now.rules.now in let x = c.args.device.now in
    if_ok _ _ c.grouped_shape.result
    (λ shape told u s is here.
    let form = ap (λ k. form_of k) is.kind ∙ (has_groups r x.kind x.ends c.in-Some.ends c.requires.device.ends c.in-Some.is).0 in
    as_form (form_of u.kind) (sheets (plain c.args.site.now.design.now) (wiring_of r) u c.args.site.now.cell) (InGate (plain c.args.site.now.design.now) (geometry (wiring_of r) u) c.args.site.now.cell s) shape form (told u s is c.in-Some.is here))
    c.grouped_shape.ensures

pub returns-in-None : goal.returns-in-None
returns-in-None c =
    let r = rules_seen c.args.site.now.rules.now in let x = c.args.device.now in
    if_ok _ _ c.alone_shape.result
    (λ shape told u s is here.
    let form = ap (λ k. form_of k) is.kind ∙ has_none r x.kind x.ends c.requires.device.ends c.in-None.is in
    as_alone (form_of u.kind) (sheets (plain c.args.site.now.design.now) (wiring_of r) u c.args.site.now.cell) (InGate (plain c.args.site.now.design.now) (geometry (wiring_of r) u) c.args.site.now.cell s) shape form (told u s is here.settled here.squares))
    c.alone_shape.ensures
