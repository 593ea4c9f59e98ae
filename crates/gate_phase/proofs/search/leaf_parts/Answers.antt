use Rattle.std.proofs.Common.{◌≤◌, List, IfOk, refl, sym, subst}
use Rattle.geo_base.specs.declared.layer.Op.TheVariants.{And}
use Rattle.geo_base.specs.declared.shapes.Rect.{Rect}
use Rattle.std.specs.Option.{IsSome}
use Rattle.flat_layout.specs.Layers.{Binary, IsKept}
use Rattle.flat_layout.specs.Values.{IsLocalLayer}
use Rattle.cell_graph.specs.Linked.{plain}
use Rattle.deep_tables.specs.Layers.{layer_of}
use Rattle.rule_text.specs.Seen.{rules_seen}
use Rattle.gate_phase.specs.Both.{ArePartsAround, IsReadyRegion, region_formula}
use Rattle.gate_phase.specs.Layer.{formula_of}
use Rattle.gate_phase.specs.Devices.{region_reach}
use Rattle.gate_phase.specs.declared.device.Region.TheVariants.{Both}
use Rattle.gate_phase.proofs.Calming.{both_whole, kept_within, near_zone, whole_gathered}
use Rattle.gate_phase.proofs.Keeping.{one_layer}
use Rattle.gate_phase.proofs.Leafs.{leaf_kept}
use Rattle.gate_phase.proofs.Locals.{both_most, locals_of}
use Rattle.gate_phase.proofs.Reaching.{name_most, region_in}
use Rattle.gate_phase.proofs.Results.{if_ok}
use Rattle.gate_phase.proofs.search.leaf_parts.Goals as goal

pub local-requires : goal.local-requires
local-requires c =
    let d = c.args.site.now.design.now in let r = rules_seen c.args.site.now.rules.now in
    let ready = subst (λ g. IsReadyRegion d c.args.site.now.rules.now c.args.site.now.zones.now c.args.site.now.cell g) c.in-One.is c.requires.region in
    let l = locals_of (plain d) r c.args.site.now.layers.now c.in-One.name c.requires.ready.layers ready c.requires.ready.rules c.args.site.now.cell c.requires.ready.reached in
    subst IsSome (sym l.1) refl

pub local_in_both-requires-clause-reach : goal.local_in_both-requires-clause-reach
local_in_both-requires-clause-reach c =
    let r = rules_seen c.args.site.now.rules.now in let a = c.in-Both.a in let b = c.in-Both.b in
    subst (λ n. n ≤ 10000) (region_in r c.args.site.now.layers.now.reaches (Both a b) c.requires.ready.layers.reaches) (both_most _ _ (name_most r a c.requires.ready.rules) (name_most r b c.requires.ready.rules))

pub local_in_both-requires-clause-first_zone : goal.local_in_both-requires-clause-first_zone
local_in_both-requires-clause-first_zone c =
    let ready = subst (λ g. IsReadyRegion c.args.site.now.design.now c.args.site.now.rules.now c.args.site.now.zones.now c.args.site.now.cell g) c.in-Both.is c.requires.region in
    near_zone c.args.site.now.design.now c.args.site.now.rules.now c.args.site.now.zones.now c.args.site.now.cell c.sound.ensures c.in-Both.a c.requires.ready.rules ready.2

pub local_in_both-requires-clause-second_zone : goal.local_in_both-requires-clause-second_zone
local_in_both-requires-clause-second_zone c =
    let ready = subst (λ g. IsReadyRegion c.args.site.now.design.now c.args.site.now.rules.now c.args.site.now.zones.now c.args.site.now.cell g) c.in-Both.is c.requires.region in
    near_zone c.args.site.now.design.now c.args.site.now.rules.now c.args.site.now.zones.now c.args.site.now.cell c.sound.ensures c.in-Both.b c.requires.ready.rules ready.3

pub local_in_both-requires-clause-first : goal.local_in_both-requires-clause-first
local_in_both-requires-clause-first c =
    let d = c.args.site.now.design.now in let r = rules_seen c.args.site.now.rules.now in
    let ready = subst (λ g. IsReadyRegion d c.args.site.now.rules.now c.args.site.now.zones.now c.args.site.now.cell g) c.in-Both.is c.requires.region in
    let l = locals_of (plain d) r c.args.site.now.layers.now c.in-Both.a c.requires.ready.layers ready.0 c.requires.ready.rules c.args.site.now.cell c.requires.ready.reached in
    let x = formula_of c.args.site.now.rules.now c.in-Both.a in
    (l.0, l.1, kept_within d c.args.site.now.cell x l.0 c.sound.ensures (name_most r c.in-Both.a c.requires.ready.rules) (λ q e. (leaf_kept d c.args.site.now.cell x l.0 c.requires.leaf l.2 q).0 e))

pub local_in_both-requires-clause-second : goal.local_in_both-requires-clause-second
local_in_both-requires-clause-second c =
    let d = c.args.site.now.design.now in let r = rules_seen c.args.site.now.rules.now in
    let ready = subst (λ g. IsReadyRegion d c.args.site.now.rules.now c.args.site.now.zones.now c.args.site.now.cell g) c.in-Both.is c.requires.region in
    let l = locals_of (plain d) r c.args.site.now.layers.now c.in-Both.b c.requires.ready.layers ready.1 c.requires.ready.rules c.args.site.now.cell c.requires.ready.reached in
    subst IsSome (sym l.1) refl

pub returns-in-One : goal.returns-in-One
returns-in-One c =
    let d = c.args.site.now.design.now in let r = rules_seen c.args.site.now.rules.now in let cell = c.args.site.now.cell in let name = c.in-One.name in
    let ready = subst (λ g. IsReadyRegion d c.args.site.now.rules.now c.args.site.now.zones.now cell g) c.in-One.is c.requires.region in
    let l = locals_of (plain d) r c.args.site.now.layers.now name c.requires.ready.layers ready c.requires.ready.rules cell c.requires.ready.reached in
    let x = formula_of c.args.site.now.rules.now name in
    let is = subst (IsLocalLayer (plain d) x cell) (one_layer (layer_of c.args.site.now.layers.now.table cell name) l.0 c.local.result.now l.1 c.local.ensures) l.2 in
    let of = subst (λ g. IfOk c.parts.result (λ v. (seeds : List Rect) → ArePartsAround (plain d) cell (region_formula c.args.site.now.rules.now g) seeds v.items)) (sym c.in-One.is) in
    of (if_ok _ _ c.parts.result (λ v are seeds. record { found = c.local.result.now; gathered = whole_gathered (IsKept (plain d) cell x) seeds c.local.result.now (leaf_kept d cell x c.local.result.now c.requires.leaf is); parted = are }) c.parts.ensures)

pub returns-in_ok-set-in-Both : goal.returns-in_ok-set-in-Both
returns-in_ok-set-in-Both c =
    let d = c.args.site.now.design.now in let r = rules_seen c.args.site.now.rules.now in let cell = c.args.site.now.cell in let a = c.in-Both.a in let b = c.in-Both.b in
    let ready = subst (λ g. IsReadyRegion d c.args.site.now.rules.now c.args.site.now.zones.now cell g) c.in-Both.is c.requires.region in
    let la = locals_of (plain d) r c.args.site.now.layers.now a c.requires.ready.layers ready.0 c.requires.ready.rules cell c.requires.ready.reached in
    let lb = locals_of (plain d) r c.args.site.now.layers.now b c.requires.ready.layers ready.1 c.requires.ready.rules cell c.requires.ready.reached in
    let x = formula_of c.args.site.now.rules.now a in let y = formula_of c.args.site.now.rules.now b in
    let set = c.in_ok-set-in-Both.set in
    let calm = c.in_ok-set-in-Both.ensures la.0 lb.0 la.1 lb.1 in
    let whole = both_whole d c.args.site.now.rules.now c.args.site.now.zones.now cell c.sound.ensures (a, b) ready.2 ready.3 (region_reach c.args.site.now.layers.now.reaches (Both a b)) (sym (region_in r c.args.site.now.layers.now.reaches (Both a b) c.requires.ready.layers.reaches)) la.0 lb.0 set calm (leaf_kept d cell x la.0 c.requires.leaf la.2) (leaf_kept d cell y lb.0 c.requires.leaf lb.2) in
    let of = subst (λ g. IfOk c.parts-in-Both.result (λ v. (seeds : List Rect) → ArePartsAround (plain d) cell (region_formula c.args.site.now.rules.now g) seeds v.items)) (sym c.in-Both.is) in
    of (if_ok _ _ c.parts-in-Both.result (λ v are seeds. record { found = set; gathered = whole_gathered (IsKept (plain d) cell (Binary And x y)) seeds set whole; parted = are }) c.parts-in-Both.ensures)
