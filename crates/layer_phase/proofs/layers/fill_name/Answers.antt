use Rattle.std.proofs.Common.{◌≡◌, ◌<◌, ◌∙◌, ℕ, List, Bool, false, arith, get_or, length, refl, subst, sym}
use Rattle.base_laws.proofs.Tests.{not_both}
use Rattle.std.proofs.lemmas.Option.{get_or_from_slice_get, slice_get_read}
use Rattle.cell_graph.specs.Linked.{plain}
use Rattle.flat_layout.specs.Values.{IsLocalLayer}
use Rattle.rule_text.specs.Seen.{rules_seen}
use Rattle.layer_phase.proofs.Grouping.{group_near, set_here, set_long, set_other, tree_count, zone_within}
use Rattle.layer_phase.proofs.layers.fill_name.Goals as goal

mark_at : (marks : List Bool) (k : ℕ) (b : Bool) → k < length marks → b ≡ get_or marks k b → get_or marks k false ≡ b
mark_at marks k b lt e = get_or_from_slice_get marks k b false (slice_get_read marks (length marks) k b refl lt e)

pub index-requires : goal.index-requires
index-requires c =
    let trees = tree_count c.args.work.now.rules.now.names.items in let count = c.requires.group.count in let lt = c.requires.name in
    omega (arith, trees, count, lt)

pub returns-then-not-index-clause-here : goal.returns-then-not-index-clause-here
returns-then-not-index-clause-here c = λ x derived far at.
    let trees = tree_count c.args.work.now.rules.now.names.items in let count = c.requires.group.count in let lt = c.requires.name in
    let members = c.args.group.now.members.items in let b = c.index.result.now in
    let inside : c.args.name < length members = omega (arith, trees, count, lt) in
    let same = mark_at members c.args.name b inside c.index.ensures in
    absurd (not_both b (sym same ∙ (c.requires.group.members c.args.name inside).1 (record { tree = x; at = at; derived = derived; far_is = far })) c.if-not-index.true)

pub derived_layer-requires-clause-zone : goal.derived_layer-requires-clause-zone
derived_layer-requires-clause-zone c = λ v entry.
    let trees = tree_count c.args.work.now.rules.now.names.items in let count = c.requires.group.count in let lt = c.requires.name in
    let members = c.args.group.now.members.items in let b = c.index.result.now in
    let inside : c.args.name < length members = omega (arith, trees, count, lt) in
    let same = mark_at members c.args.name b inside c.index.ensures in
    let m = (c.requires.group.members c.args.name inside).0 (same ∙ c.if-not-index.false) in
    zone_within c.args.work.now.design.now (rules_seen c.args.work.now.rules.now) c.args.work.now.zones.now c.args.work.now.cell c.args.name m.tree v c.sound.ensures c.requires.work.ready m.derived m.at entry

pub returns-clause-none : goal.returns-clause-none
returns-clause-none c = λ not.
    let trees = tree_count c.args.work.now.rules.now.names.items in let count = c.requires.group.count in let lt = c.requires.name in
    let members = c.args.group.now.members.items in let b = c.index.result.now in
    let inside : c.args.name < length members = omega (arith, trees, count, lt) in
    let same = mark_at members c.args.name b inside c.index.ensures in
    absurd {A = c.put.new.layers.items ≡ c.args.layers.now.items} (not ((c.requires.group.members c.args.name inside).0 (same ∙ c.if-not-index.false)))

pub derived_layer-requires-clause-far : goal.derived_layer-requires-clause-far
derived_layer-requires-clause-far c = group_near (rules_seen c.args.work.now.rules.now) c.args.group.now c.requires.work.ready.rules c.requires.group

pub returns-clause-count : goal.returns-clause-count
returns-clause-count c = set_long c.args.layers.now.items c.put.new.layers.items c.args.name c.in_ok-layer.layer c.put.ensures

pub returns-clause-here : goal.returns-clause-here
returns-clause-here c = λ x derived far at.
    subst (IsLocalLayer (plain c.args.work.now.design.now) x c.args.work.now.cell) (sym (set_here c.args.layers.now.items c.put.new.layers.items c.args.name c.in_ok-layer.layer c.put.ensures c.requires.layers))
    (c.in_ok-layer.ensures x derived far at)

pub returns-clause-rest : goal.returns-clause-rest
returns-clause-rest c = set_other c.args.layers.now.items c.put.new.layers.items c.args.name c.in_ok-layer.layer c.put.ensures

pub derived_layer-requires-clause-member : goal.derived_layer-requires-clause-member
derived_layer-requires-clause-member c =
    let trees = tree_count c.args.work.now.rules.now.names.items in let count = c.requires.group.count in let lt = c.requires.name in
    let members = c.args.group.now.members.items in let b = c.index.result.now in
    let inside : c.args.name < length members = omega (arith, trees, count, lt) in
    let same = mark_at members c.args.name b inside c.index.ensures in
    (c.requires.group.members c.args.name inside).0 (same ∙ c.if-not-index.false)
