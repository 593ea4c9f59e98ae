use Rattle.std.proofs.Common.{◌≡◌, inl, ◌∙◌, [], sym, subst, length}
use Rattle.std.proofs.lemmas.Bool.{eqb-true}
use Rattle.flat_layout.specs.Gates.{geometry}
use Rattle.flat_layout.specs.Layers.{Formula, IsKept}
use Rattle.flat_laws.proofs.Formed.{read_layers}
use Rattle.cell_graph.specs.Linked.{cell_at, hull_of, places_at, plain}
use Rattle.gate_search.specs.Gather.{IsGatheredAround}
use Rattle.rule_text.specs.Seen.{rules_seen}
use Rattle.rule_layers.specs.Meaning.{wiring_of}
use Rattle.gate_phase.proofs.Leafs.{hull_list, leaf_seed}
use Rattle.gate_phase.proofs.Numbering.{device_is, known_device}
use Rattle.gate_phase.proofs.Owning.{nothing_left}
use Rattle.gate_phase.proofs.Results.{if_ok}
use Rattle.gate_phase.proofs.Stirring.{ready_region}
use Rattle.gate_phase.proofs.search.parts_of.Goals as goal

pub leaf_parts-requires-clause-leaf : goal.leaf_parts-requires-clause-leaf
leaf_parts-requires-clause-leaf c = sym c.places.ensures ∙ nothing_left c.places.result.now (eqb-true (length c.places.result.now) 0 (sym c.is_empty.ensures ∙ c.if-is_empty.true))

pub leaf_parts-requires-clause-region : goal.leaf_parts-requires-clause-region
leaf_parts-requires-clause-region c = ready_region c.args.at.now.site.design.now c.args.at.now.site.rules.now c.args.at.now.site.zones.now c.args.at.now.site.cell c.args.at.now.device.region c.sound.ensures c.requires.ready.site.zones c.requires.ready.site.reached (known_device (rules_seen c.args.at.now.site.rules.now) c.args.at.now.number c.args.at.now.device c.requires.ready.site.rules c.requires.ready.device).region

pub returns-then-is_empty : goal.returns-then-is_empty
returns-then-is_empty c =
    let d = c.args.at.now.site.design.now in let r = rules_seen c.args.at.now.site.rules.now in let cell = c.args.at.now.site.cell in
    let w = wiring_of r in
    let none : places_at (cell_at d cell) ≡ [] = sym c.places.ensures ∙ nothing_left c.places.result.now (eqb-true (length c.places.result.now) 0 (sym c.is_empty.ensures ∙ c.if-is_empty.true)) in
    if_ok _ _ c.leaf_parts.result
    (λ v of u at.
    let seeds = hull_list (geometry w u).reach (hull_of (cell_at d cell)) in
    let is = device_is r c.args.at.now.number c.args.at.now.device u c.requires.ready.device at in
    let p = of seeds in (
      seeds,
      p.found,
      record {
        sound = (read_layers w u).gate;
        reached = c.requires.ready.site.reached;
        all = inl (λ q h. leaf_seed d (geometry w u) cell q c.sound.ensures none h);
        gathered = subst (λ (x : Formula). IsGatheredAround (IsKept (plain d) cell x) seeds p.found) (sym is.region) p.gathered;
        parted = p.parted;
      },
    ))
    c.leaf_parts.ensures

pub region_parts-requires-clause-region : goal.region_parts-requires-clause-region
region_parts-requires-clause-region c = ready_region c.args.at.now.site.design.now c.args.at.now.site.rules.now c.args.at.now.site.zones.now c.args.at.now.site.cell c.args.at.now.device.region c.sound.ensures c.requires.ready.site.zones c.requires.ready.site.reached (known_device (rules_seen c.args.at.now.site.rules.now) c.args.at.now.number c.args.at.now.device c.requires.ready.site.rules c.requires.ready.device).region

pub returns : goal.returns
returns c =
    let d = c.args.at.now.site.design.now in let r = rules_seen c.args.at.now.site.rules.now in let cell = c.args.at.now.site.cell in
    let w = wiring_of r in let starts = c.in_ok-starts.starts in
    if_ok _ _ c.region_parts.result
    (λ v p u at.
    let is = device_is r c.args.at.now.number c.args.at.now.device u c.requires.ready.device at in (
      starts,
      p.found,
      record {
        sound = (read_layers w u).gate;
        reached = c.requires.ready.site.reached;
        all = c.in_ok-starts.ensures.all u at;
        gathered = subst (λ (x : Formula). IsGatheredAround (IsKept (plain d) cell x) starts p.found) (sym is.region) p.gathered;
        parted = p.parted;
      },
    ))
    c.region_parts.ensures
