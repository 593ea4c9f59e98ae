use Rattle.std.proofs.Common.{◌≡◌, ◌<◌, ◌≤◌, ◌-◌, ◌∙◌, ℕ, List, Some, IsSomeAnd, ap, rules, sym, subst, get_or, length, slice_get, slice_index}
use Rattle.job_graph.specs.Graph.{Waits}
use Rattle.cell_graph.specs.Linked.{plain}
use Rattle.rule_text.specs.Seen.{rules_seen}
use Rattle.rule_text.specs.declared.rules.LayerRule.{LayerRule}
use Rattle.rule_layers.specs.Formulas.{formulas, zone_margin}
use Rattle.rule_layers.proofs.Unread.{seen_input}
use Rattle.flat_layout.specs.Layers.{Empty, Input, reach}
use Rattle.flat_layout.specs.declared.way.Way.TheVariants.{Disturbed}
use Rattle.deep_tables.specs.declared.zones.CellZones.{CellZones}
use Rattle.deep_tables.specs.Entries.{downward_cell}
use Rattle.deep_tables.specs.Zones.{AreCellZones}
use Rattle.zone_phase.specs.declared.uses.Use.{Use}
use Rattle.zone_phase.specs.Jobs.{IsEntry}
use Rattle.zone_phase.specs.Names.{AreInputOpens, AreInputZones}
use Rattle.zone_phase.specs.Phase.{AreCoveredOf, AreLeft, ZoneJobs}
use Rattle.zone_phase.specs.Uses.{AreUsesOf, lists_of}
use Rattle.zone_phase.proofs.Entries.{job_reached}
use Rattle.zone_phase.proofs.Putting.{listed}
use Rattle.zone_phase.proofs.Results.{if_ok, if_ok_three}
use Rattle.zone_phase.proofs.Working.{covered_entry, disturbed_zones, entry_of, opens_of, read_near, some_more, uses_at, waited}
use Rattle.zone_phase.proofs.phase.ZonePhasePhase.work.Goals as goal

pub input_zones-requires-clause-used : goal.input_zones-requires-clause-used
input_zones-requires-clause-used g c =
    let d = c.self.inside.design.now in let a = c.self.invariant in
    let lt : c.args.job < length c.order-order.result.now =
    subst (λ n. c.args.job < n) (ap (λ (z : ZoneJobs). length z.graph) (sym c.self.view_is) ∙ a.graph.jobs ∙ ap length (sym c.order-order.ensures)) c.requires.job in
    let same = listed d c.self.inside.uses.items c.order-order.result.now c.args.job c.index-uses.result.now c.deref.result.now c.sound.ensures a.uses.count c.order-order.ensures lt c.index-uses.ensures c.deref.ensures.value in
    let cell = ap (λ (o : List ℕ). slice_index o (length o - 1 - c.args.job)) c.order-order.ensures in
    record {
      cell = search rules;
      uses = subst (λ n. AreUsesOf d n c.deref.result.now) (sym cell) (subst (AreUsesOf d (downward_cell d c.args.job)) (sym same) (uses_at d (lists_of c.self.inside.uses.items) (downward_cell d c.args.job) c.sound.ensures a.uses));
      margin = a.most;
    }

pub input_zones-requires-clause-may : goal.input_zones-requires-clause-may
input_zones-requires-clause-may g c = λ k u at.
    let d = c.self.inside.design.now in let a = c.self.invariant in
    let lt : c.args.job < length c.order-order.result.now =
    subst (λ n. c.args.job < n) (ap (λ (z : ZoneJobs). length z.graph) (sym c.self.view_is) ∙ a.graph.jobs ∙ ap length (sym c.order-order.ensures)) c.requires.job in
    let same = listed d c.self.inside.uses.items c.order-order.result.now c.args.job c.index-uses.result.now c.deref.result.now c.sound.ensures a.uses.count c.order-order.ensures lt c.index-uses.ensures c.deref.ensures.value in
    waited d (lists_of c.self.inside.uses.items) c.self.inside.graph c.args.job (g.R.Reads.may_read c.args.reads.now) a.uses a.graph
    (subst (λ (z : ZoneJobs). c.args.job < length z.graph) (sym c.self.view_is) c.requires.job)
    (λ i w. c.requires.inputs i (subst (λ (z : ZoneJobs). Waits z.graph c.args.job i) c.self.view_is w))
    k u (subst (λ (l : List Use). slice_get l k ≡ Some u) same at)

pub input_zones-requires-clause-entries : goal.input_zones-requires-clause-entries
input_zones-requires-clause-entries g c = λ name key named k u at.
    let d = c.self.inside.design.now in let a = c.self.invariant in let r = rules_seen c.self.inside.rules.now in
    let value = g.R.Reads.value c.args.reads.now in let lists = lists_of c.self.inside.uses.items in
    let lt : c.args.job < length c.order-order.result.now =
    subst (λ n. c.args.job < n) (ap (λ (z : ZoneJobs). length z.graph) (sym c.self.view_is) ∙ a.graph.jobs ∙ ap length (sym c.order-order.ensures)) c.requires.job in
    let same = listed d c.self.inside.uses.items c.order-order.result.now c.args.job c.index-uses.result.now c.deref.result.now c.sound.ensures a.uses.count c.order-order.ensures lt c.index-uses.ensures c.deref.ensures.value in
    let there = subst (λ (l : List Use). slice_get l k ≡ Some u) same at in
    let right = waited d lists c.self.inside.graph c.args.job (λ i. IsSomeAnd (value i) (AreCellZones (plain d) r (downward_cell d i))) a.uses a.graph
    (subst (λ (z : ZoneJobs). c.args.job < length z.graph) (sym c.self.view_is) c.requires.job)
    (λ i w. subst (λ (z : ZoneJobs). IsSomeAnd (value i) (AreCellZones (plain z.design) (rules_seen z.rules) (downward_cell z.design i))) (sym c.self.view_is)
    (c.requires.right i (subst (λ (z : ZoneJobs). Waits z.graph c.args.job i) c.self.view_is w)))
    k u there in
    let input = seen_input r.names r.devices r.more c.self.inside.read.items name key a.read (subst (λ (l : List LayerRule). slice_get (formulas l) name ≡ Some (Input key)) c.deref-2.ensures.value named) in
    some_more (AreCellZones (plain d) r (downward_cell d u.job)) (IsEntry c.self.inside.margin d key name (downward_cell d u.job)) (value u.job)
    (λ v h. subst (λ m. IsEntry m d key name (downward_cell d u.job) v) (sym a.margin) (entry_of d r (downward_cell d u.job) name key v (λ n there. c.sound.ensures.hulls.each n) (job_reached d u.job c.sound.ensures (a.uses.each (downward_cell d c.args.job) k u there).job_in) input.0 input.1 h)) right

pub left_zones-requires : goal.left_zones-requires
left_zones-requires g c =
    subst (λ (l : List LayerRule). length c.in_ok-zones.zones.items ≡ length (formulas l)) (c.deref-2.ensures.value ∙ sym c.deref-in-Disturbed.ensures.value) c.in_ok-zones.ensures.zones.count

pub returns-in-Disturbed : goal.returns-in-Disturbed
returns-in-Disturbed g c =
    let d = c.self.inside.design.now in let a = c.self.invariant in let r = rules_seen c.self.inside.rules.now in
    let job = c.args.job in let read = c.self.inside.read.items in let m = zone_margin r.names in let zones = c.in_ok-zones.zones.items in
    let lt : job < length d.order = subst (λ n. job < n) (ap (λ (z : ZoneJobs). length z.graph) (sym c.self.view_is) ∙ a.graph.jobs) c.requires.job in
    let cell = ap (λ (o : List ℕ). slice_index o (length o - 1 - job)) c.order-order.ensures in
    let hull = c.sound.ensures.hulls.each (downward_cell d job) in
    let way : d.way ≡ Disturbed = sym c.way.ensures ∙ c.in-Disturbed.is in
    let over : AreInputZones m d (downward_cell d job) (formulas read) zones =
    subst (λ n. AreInputZones n d (downward_cell d job) (formulas read) zones) a.margin
    (subst (λ n. AreInputZones c.self.inside.margin d n (formulas read) zones) cell
    (subst (λ (l : List LayerRule). AreInputZones c.self.inside.margin d (slice_index c.order-order.result.now (length c.order-order.result.now - 1 - job)) (formulas l) zones) c.deref-2.ensures.value c.in_ok-zones.ensures.zones)) in
    if_ok_three _ _ _ _ c.left_zones.result
    (λ v left sets none.
    subst (λ (z : ZoneJobs). AreCellZones (plain z.design) (rules_seen z.rules) (downward_cell z.design job) v) c.self.view_is
    (disturbed_zones d r read (downward_cell d job) hull a.rules a.read zones v way c.in_ok-zones.ensures.canonical over
    (subst (λ (l : List LayerRule). AreLeft m d (downward_cell d job) r l zones v) c.deref-in-Disturbed.ensures.value
    (left m d (downward_cell d job) (subst (λ (l : List LayerRule). AreInputOpens m d (downward_cell d job) (formulas l) zones) (sym c.deref-in-Disturbed.ensures.value) (opens_of m d (downward_cell d job) (formulas read) zones hull way c.in_ok-zones.ensures.canonical over))))
    sets none))
    c.left_zones.ensures.left c.left_zones.ensures.sets c.left_zones.ensures.covered

pub covered_zones-requires-clause-covered : goal.covered_zones-requires-clause-covered
covered_zones-requires-clause-covered g c = sym c.way.ensures ∙ c.in-Covered.is

pub covered_zones-requires-clause-reach : goal.covered_zones-requires-clause-reach
covered_zones-requires-clause-reach g c = λ k.
    let a = c.self.invariant in
    subst (λ (l : List LayerRule). reach (get_or (formulas l) k Empty) ≤ 10000) (sym c.deref-in-Covered.ensures.value) (read_near (rules_seen c.self.inside.rules.now) c.self.inside.read.items k a.rules a.read)

pub covered_zones-requires-clause-zones : goal.covered_zones-requires-clause-zones
covered_zones-requires-clause-zones g c =
    subst (λ (l : List LayerRule). AreInputZones c.self.inside.margin c.self.inside.design.now (slice_index c.order-order.result.now (length c.order-order.result.now - 1 - c.args.job)) (formulas l) c.in_ok-zones.zones.items)
    (c.deref-2.ensures.value ∙ sym c.deref-in-Covered.ensures.value) c.in_ok-zones.ensures.zones

pub covered_zones-requires-clause-used : goal.covered_zones-requires-clause-used
covered_zones-requires-clause-used g c =
    let d = c.self.inside.design.now in let a = c.self.invariant in
    let lt : c.args.job < length c.order-order.result.now =
    subst (λ n. c.args.job < n) (ap (λ (z : ZoneJobs). length z.graph) (sym c.self.view_is) ∙ a.graph.jobs ∙ ap length (sym c.order-order.ensures)) c.requires.job in
    let same = listed d c.self.inside.uses.items c.order-order.result.now c.args.job c.index-uses.result.now c.deref.result.now c.sound.ensures a.uses.count c.order-order.ensures lt c.index-uses.ensures c.deref.ensures.value in
    let cell = ap (λ (o : List ℕ). slice_index o (length o - 1 - c.args.job)) c.order-order.ensures in
    record {
      cell = search rules;
      uses = subst (λ n. AreUsesOf d n c.deref.result.now) (sym cell) (subst (AreUsesOf d (downward_cell d c.args.job)) (sym same) (uses_at d (lists_of c.self.inside.uses.items) (downward_cell d c.args.job) c.sound.ensures a.uses));
      margin = a.most;
    }

pub returns-in-Covered : goal.returns-in-Covered
returns-in-Covered g c =
    let d = c.self.inside.design.now in let a = c.self.invariant in let r = rules_seen c.self.inside.rules.now in
    let job = c.args.job in let read = c.self.inside.read.items in let m = zone_margin r.names in let zones = c.in_ok-zones.zones.items in
    let here = slice_index c.order-order.result.now (length c.order-order.result.now - 1 - job) in
    let cell = ap (λ (o : List ℕ). slice_index o (length o - 1 - job)) c.order-order.ensures in
    let over : AreInputZones m d (downward_cell d job) (formulas read) zones =
    subst (λ n. AreInputZones n d (downward_cell d job) (formulas read) zones) a.margin
    (subst (λ n. AreInputZones c.self.inside.margin d n (formulas read) zones) cell
    (subst (λ (l : List LayerRule). AreInputZones c.self.inside.margin d here (formulas l) zones) c.deref-2.ensures.value c.in_ok-zones.ensures.zones)) in
    if_ok _ _ c.covered_zones.result
    (λ v h.
    subst (λ (z : ZoneJobs). AreCellZones (plain z.design) (rules_seen z.rules) (downward_cell z.design job) v) c.self.view_is
    (covered_entry d r read (downward_cell d job) (c.sound.ensures.hulls.each (downward_cell d job)) a.rules a.read zones v (sym c.way.ensures ∙ c.in-Covered.is) c.in_ok-zones.ensures.canonical over
    (subst (λ n. AreCoveredOf n d (downward_cell d job) r read zones v) a.margin
    (subst (λ n. AreCoveredOf c.self.inside.margin d n r read zones v) cell
    (subst (λ (l : List LayerRule). AreCoveredOf c.self.inside.margin d here r l zones v) c.deref-in-Covered.ensures.value h)))))
    c.covered_zones.ensures
