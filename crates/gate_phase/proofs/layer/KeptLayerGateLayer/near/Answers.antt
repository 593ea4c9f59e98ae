use Rattle.std.proofs.Common.{◌^◌, ◌∷◌, [], List, sym, subst}
use Rattle.geo_base.specs.declared.shapes.Rect.{Rect}
use Rattle.cell_graph.specs.Linked.{IsRectWithin, plain}
use Rattle.cell_context.proofs.Visiting.{within_inside}
use Rattle.rule_text.specs.Seen.{rules_seen}
use Rattle.gate_phase.proofs.Reaching.{name_most}
use Rattle.gate_search.specs.Gather.{AreMet}
use Rattle.gate_phase.specs.Layer.{IsKeptNear, KeptOf, kept_of, formula_of}
use Rattle.gate_phase.proofs.Locals.{locals_of, met_near, none_near, one_all, reached_cell}
use Rattle.gate_phase.proofs.Results.{if_ok}
use Rattle.gate_phase.proofs.layer.KeptLayerGateLayer.near.Goals as goal

pub kept_in-requires-clause-cell : goal.kept_in-requires-clause-cell
kept_in-requires-clause-cell c = reached_cell c.self.inside.design.now c.self.inside.cell c.sound.ensures c.self.invariant.reached

pub kept_in-requires-clause-locals : goal.kept_in-requires-clause-locals
kept_in-requires-clause-locals c =
    (formula_of c.self.inside.rules.now c.self.inside.name, locals_of (plain c.self.inside.design.now) (rules_seen c.self.inside.rules.now) c.self.inside.layers.now c.self.inside.name c.self.invariant.layers c.self.invariant.name c.self.invariant.rules)

pub kept_in-requires-clause-windows : goal.kept_in-requires-clause-windows
kept_in-requires-clause-windows c = one_all (IsRectWithin (2 ^ 39)) c.in-Some.near (within_inside (2 ^ 39) c.in-Some.near c.plane.result c.in-Some.ensures.some c.in-Some.ensures.second c.plane.ensures.near)

pub returns-in-Some : goal.returns-in-Some
returns-in-Some c =
    let v = kept_of c.self.inside in
    let locals = locals_of (plain c.self.inside.design.now) (rules_seen c.self.inside.rules.now) c.self.inside.layers.now c.self.inside.name c.self.invariant.layers c.self.invariant.name c.self.invariant.rules in
    if_ok _ (λ r. AreMet (IsKeptNear c.args.self.now) (c.args.window ∷ []) r) c.kept_in.result
    (λ r h. subst (λ (x : KeptOf). AreMet (IsKeptNear x) (c.args.window ∷ []) r) c.self.view_is (met_near v c.args.window c.in-Some.near c.plane.result r c.sound.ensures (name_most (rules_seen c.self.inside.rules.now) c.self.inside.name c.self.invariant.rules) c.plane.ensures.all c.in-Some.ensures (h (formula_of c.self.inside.rules.now c.self.inside.name) locals)))
    c.kept_in.ensures

pub returns-in-None : goal.returns-in-None
returns-in-None c =
    subst (λ (r : List Rect). AreMet (IsKeptNear c.args.self.now) (c.args.window ∷ []) r) (sym c.empty.ensures)
    (subst (λ (x : KeptOf). AreMet (IsKeptNear x) (c.args.window ∷ []) []) c.self.view_is (none_near (kept_of c.self.inside) c.args.window c.plane.result c.sound.ensures (name_most (rules_seen c.self.inside.rules.now) c.self.inside.name c.self.invariant.rules) c.plane.ensures.all c.in-None.ensures))
