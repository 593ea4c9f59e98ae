use Rattle.std.proofs.Common.{rules, ◌≡◌, ◌∙◌, ◌<◌, ◌==◌, ℕ, Some, true, ap, arith, get_or, length, refl, slice_get, subst, sym}
use Rattle.std.proofs.lemmas.Bool.{eqb-true}
use Rattle.std.proofs.lemmas.Option.{slice_get_read}
use Rattle.rule_text.specs.declared.rules.LayerRule.{LayerRule}
use Rattle.layer_phase.specs.Groups.{IsMember, is_derived}
use Rattle.layer_phase.proofs.Grouping.{found_count, member_of, of_is, reach_here, same_any}
use Rattle.layer_phase.proofs.groups.is_member.Goals as goal

pub returns-then-not-is_derived-clause-no : goal.returns-then-not-is_derived-clause-no
returns-then-not-is_derived-clause-no c = λ m.
    let names = c.args.names.now in let rule = c.index-names-name.result in
    let there : slice_get names c.args.name ≡ Some rule = slice_get_read names (length names) c.args.name rule refl c.requires.name c.index-names-name.is in
    sym c.if-not-is_derived.true ∙ (c.is_derived.ensures ∙ ap (λ (r : LayerRule). is_derived r.form) (sym c.index-names-name.is) ∙ of_is names c.args.name rule m.tree there m.at m.derived)

pub offset_bounds-found-name : goal.offset_bounds-found-name
offset_bounds-found-name c =
    let n = found_count c.args.names.now c.args.found.now c.requires.found in let named = c.requires.name in
    let lt : c.args.name < length c.args.found.now = omega (arith, n, named) in
    search (rules, arith)

pub bounds-found-name : goal.bounds-found-name
bounds-found-name c =
    let n = found_count c.args.names.now c.args.found.now c.requires.found in let named = c.requires.name in
    omega (arith, n, named)

pub returns-clause-yes : goal.returns-clause-yes
returns-clause-yes c = λ e.
    let names = c.args.names.now in let rule = c.index-names-name.result in
    let there : slice_get names c.args.name ≡ Some rule = slice_get_read names (length names) c.args.name rule refl c.requires.name c.index-names-name.is in
    subst (λ n. IsMember names n c.args.name) (eqb-true (get_or c.args.found.now c.args.name 0) c.args.far e)
    (member_of names c.args.found.now c.args.name rule c.requires.found c.requires.name there (sym (c.is_derived.ensures ∙ ap (λ (r : LayerRule). is_derived r.form) (sym c.index-names-name.is)) ∙ c.if-not-is_derived.false))

pub returns-clause-no : goal.returns-clause-no
returns-clause-no c = λ m.
    let same : get_or c.args.found.now c.args.name 0 ≡ c.args.far = reach_here c.args.names.now c.args.found.now c.args.name m.tree c.requires.found c.requires.name m.at ∙ m.far_is in
    subst (λ (n : ℕ). (n == c.args.far) ≡ true) (sym same) (same_any c.args.far)
