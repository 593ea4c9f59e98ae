use Rattle.std.proofs.Common.{IfOk, sym, subst}
use Rattle.cell_graph.specs.Linked.{plain}
use Rattle.rule_text.specs.Seen.{rules_seen}
use Rattle.gate_phase.proofs.Reaching.{name_most}
use Rattle.gate_phase.specs.Both.{ArePartsAround, IsReadyRegion, region_formula}
use Rattle.gate_phase.proofs.Gathering.{gathered_both, gathered_kept}
use Rattle.gate_phase.proofs.Results.{if_ok}
use Rattle.gate_phase.proofs.search.region_parts.Goals as goal

pub new-layer-requires-clause-name : goal.new-layer-requires-clause-name
new-layer-requires-clause-name c = subst (λ g. IsReadyRegion c.args.site.now.design.now c.args.site.now.rules.now c.args.site.now.zones.now c.args.site.now.cell g) c.in-One.is c.requires.region

pub new-layer-requires-in-Both-clause-first : goal.new-layer-requires-in-Both-clause-first
new-layer-requires-in-Both-clause-first c = (subst (λ g. IsReadyRegion c.args.site.now.design.now c.args.site.now.rules.now c.args.site.now.zones.now c.args.site.now.cell g) c.in-Both.is c.requires.region).0

pub new-layer-requires-in-Both-clause-second : goal.new-layer-requires-in-Both-clause-second
new-layer-requires-in-Both-clause-second c = (subst (λ g. IsReadyRegion c.args.site.now.design.now c.args.site.now.rules.now c.args.site.now.zones.now c.args.site.now.cell g) c.in-Both.is c.requires.region).1

pub new-layer-requires-in-Both-clause-first_zone : goal.new-layer-requires-in-Both-clause-first_zone
new-layer-requires-in-Both-clause-first_zone c = (subst (λ g. IsReadyRegion c.args.site.now.design.now c.args.site.now.rules.now c.args.site.now.zones.now c.args.site.now.cell g) c.in-Both.is c.requires.region).2

pub new-layer-requires-in-Both-clause-second_zone : goal.new-layer-requires-in-Both-clause-second_zone
new-layer-requires-in-Both-clause-second_zone c = (subst (λ g. IsReadyRegion c.args.site.now.design.now c.args.site.now.rules.now c.args.site.now.zones.now c.args.site.now.cell g) c.in-Both.is c.requires.region).3

pub returns-in-One : goal.returns-in-One
returns-in-One c =
    let d = c.args.site.now.design.now in let cell = c.args.site.now.cell in let starts = c.args.starts.now in let e = c.new-layer.ensures in
    let of = subst (λ g. IfOk c.parts_around.result (λ v. ArePartsAround (plain d) cell (region_formula c.args.site.now.rules.now g) starts v.items)) (sym c.in-One.is) in
    of (if_ok _ _ c.parts_around.result (λ v p. record { found = p.0; gathered = gathered_kept c.new-layer.result d c.args.site.now.rules.now cell c.in-One.name starts p.0 e.design e.rules e.cell e.name c.sound.ensures (name_most (rules_seen c.args.site.now.rules.now) c.in-One.name c.requires.ready.rules) p.1; parted = p.2 }) c.parts_around.ensures)

pub returns-in-Both : goal.returns-in-Both
returns-in-Both c =
    let d = c.args.site.now.design.now in let cell = c.args.site.now.cell in let starts = c.args.starts.now in let e = c.new-layer-in-Both.ensures in
    let of = subst (λ g. IfOk c.parts_around-in-Both.result (λ v. ArePartsAround (plain d) cell (region_formula c.args.site.now.rules.now g) starts v.items)) (sym c.in-Both.is) in
    of (if_ok _ _ c.parts_around-in-Both.result (λ v p. record { found = p.0; gathered = gathered_both c.new-layer-in-Both.result d c.args.site.now.rules.now cell (c.in-Both.a, c.in-Both.b) starts p.0 e.design e.rules e.cell e.names c.sound.ensures (name_most (rules_seen c.args.site.now.rules.now) c.in-Both.a c.requires.ready.rules) (name_most (rules_seen c.args.site.now.rules.now) c.in-Both.b c.requires.ready.rules) p.1; parted = p.2 }) c.parts_around-in-Both.ensures)
