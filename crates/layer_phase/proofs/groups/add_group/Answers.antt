use Rattle.std.proofs.Common.{rules, ◌≡◌, ◌∙◌, ◌<◌, List, Some, ap, arith, get_or, length, refl, slice_get, subst, sym}
use Rattle.base_laws.proofs.Tests.{not_both}
use Rattle.std.proofs.lemmas.Option.{slice_get_read}
use Rattle.rule_text.specs.declared.rules.LayerRule.{LayerRule}
use Rattle.layer_phase.specs.Groups.{HasReach, is_derived}
use Rattle.layer_phase.specs.declared.groups.Group.{Group}
use Rattle.layer_phase.proofs.Grouping.{found_count, groups_more, groups_skip, member_of, of_is, reach_here}
use Rattle.layer_phase.proofs.groups.add_group.Goals as goal

pub offset_bounds-found-name : goal.offset_bounds-found-name
offset_bounds-found-name c =
    let n = found_count c.args.names.now c.args.found.now c.requires.found in let named = c.requires.name in
    let lt : c.args.name < length c.args.found.now = omega (arith, n, named) in
    search (rules, arith)

pub bounds-found-name : goal.bounds-found-name
bounds-found-name c =
    let n = found_count c.args.names.now c.args.found.now c.requires.found in let named = c.requires.name in
    omega (arith, n, named)

pub returns-then-not-is_derived : goal.returns-then-not-is_derived
returns-then-not-is_derived c =
    let names = c.args.names.now in let rule = c.index-names-name.result in
    let there : slice_get names c.args.name ≡ Some rule = slice_get_read names (length names) c.args.name rule refl c.requires.name c.index-names-name.is in
    groups_skip names c.args.name c.args.groups.now.items c.requires.groups
    (λ x at derived. absurd (not_both c.is_derived.result (c.is_derived.ensures ∙ ap (λ (r : LayerRule). is_derived r.form) (sym c.index-names-name.is) ∙ of_is names c.args.name rule x there at derived) c.if-not-is_derived.true))

pub returns-then-has_reach : goal.returns-then-has_reach
returns-then-has_reach c =
    let names = c.args.names.now in let groups = c.args.groups.now.items in let far = get_or c.args.found.now c.args.name 0 in
    let has : HasReach groups (length groups) far = subst (λ (l : List Group). HasReach l (length l) far) c.deref.ensures.value (c.has_reach.ensures c.if-has_reach.true) in
    groups_skip names c.args.name groups c.requires.groups
    (λ x at derived. subst (HasReach groups (length groups)) (reach_here names c.args.found.now c.args.name x c.requires.found c.requires.name at) has)

pub group_of-requires-clause-some : goal.group_of-requires-clause-some
group_of-requires-clause-some c =
    let names = c.args.names.now in let rule = c.index-names-name.result in
    let there : slice_get names c.args.name ≡ Some rule = slice_get_read names (length names) c.args.name rule refl c.requires.name c.index-names-name.is in
    (c.args.name, member_of names c.args.found.now c.args.name rule c.requires.found c.requires.name there (sym (c.is_derived.ensures ∙ ap (λ (r : LayerRule). is_derived r.form) (sym c.index-names-name.is)) ∙ c.if-not-is_derived.false))

pub returns : goal.returns
returns c =
    groups_more c.args.names.now c.args.name c.args.groups.now.items c.push.new.self.items c.in_ok-group.group c.in_ok-push.ensures.items c.in_ok-group.ensures.names c.requires.groups
    (λ x at derived. c.in_ok-group.ensures.reach ∙ reach_here c.args.names.now c.args.found.now c.args.name x c.requires.found c.requires.name at)
