use Rattle.std.proofs.Common.{◌≡◌, ◌-◌, ◌∙◌, ℕ, Some, List, ap, sym, subst, length, pos, rules, slice_get, slice_index, slice_index_or}
use Rattle.geo_base.specs.declared.shapes.Rect.{Rect}
use Rattle.std.proofs.lemmas.Option.{slice_get_within}
use Rattle.geo_base.specs.declared.motion.Turn.TheVariants.{R0}
use Rattle.cell_graph.specs.declared.cells.Place.{Place}
use Rattle.cell_context.proofs.Collecting.{item_at, one_place}
use Rattle.cell_graph.specs.Linked.{cell_at, places_at}
use Rattle.deep_tables.specs.Entries.{downward_cell}
use Rattle.zone_phase.specs.Jobs.{HasName, zone_in}
use Rattle.zone_phase.specs.Neighbours.{WhyHere}
use Rattle.zone_phase.specs.Pulls.{Adds}
use Rattle.zone_phase.proofs.Entries.{some_and}
use Rattle.zone_phase.proofs.Results.{on_ok}
use Rattle.zone_phase.proofs.Using.{use_adds}
use Rattle.zone_phase.proofs.zones.push_use.Goals as goal

abbrev no_place : Place
no_place = record { cell = 0; motion = record { turn = R0; dx = pos 0; dy = pos 0 }; columns = 0; rows = 0; column_step = record { x = pos 0; y = pos 0 }; row_step = record { x = pos 0; y = pos 0 } }

pub push_reference-requires-clause-reference : goal.push_reference-requires-clause-reference
push_reference-requires-clause-reference g c =
    let d = c.args.frame.now.design.now in let u = c.args.found.now in let cell = c.args.frame.now.cell in
    let parent = slice_index c.order-order.result.now (length c.order-order.result.now - 1 - u.job) in
    let listed : c.places.result.now ≡ places_at (cell_at d (downward_cell d u.job)) = c.places.ensures ∙ ap (λ (o : List ℕ). places_at (cell_at d (slice_index o (length o - 1 - u.job)))) c.order-order.ensures in
    let within = slice_get_within c.places.result.now u.index c.requires.found.place (subst (λ (l : List Place). slice_get l u.index ≡ Some c.requires.found.place) (sym listed) c.requires.found.there) in
    let there = item_at c.places.result.now (places_at (cell_at d (downward_cell d u.job))) u.index no_place listed within in
    let place = slice_index_or c.places.result.now u.index no_place in
    let same = one_place (slice_get (places_at (cell_at d (downward_cell d u.job))) u.index) c.requires.found.place place c.requires.found.there there in
    record {
      parent_in = search rules;
      there = item_at c.places.result.now (places_at (cell_at d parent)) u.index no_place c.places.ensures within;
      here = subst (λ (p : Place). p.cell ≡ cell) same c.requires.found.here;
    }

pub disturbed-zone-requires : goal.disturbed-zone-requires
disturbed-zone-requires g c = some_and (HasName c.args.name) _ _ c.get.ensures c.requires.entry

pub returns-clause-exact : goal.returns-clause-exact
returns-clause-exact g c =
    let d = c.args.frame.now.design.now in let u = c.args.found.now in
    let listed : c.places.result.now ≡ places_at (cell_at d (downward_cell d u.job)) = c.places.ensures ∙ ap (λ (o : List ℕ). places_at (cell_at d (slice_index o (length o - 1 - u.job)))) c.order-order.ensures in
    let within = slice_get_within c.places.result.now u.index c.requires.found.place (subst (λ (l : List Place). slice_get l u.index ≡ Some c.requires.found.place) (sym listed) c.requires.found.there) in
    let there = item_at c.places.result.now (places_at (cell_at d (downward_cell d u.job))) u.index no_place listed within in
    let place = slice_index_or c.places.result.now u.index no_place in
    let same = one_place (slice_get (places_at (cell_at d (downward_cell d u.job))) u.index) c.requires.found.place place c.requires.found.there there in
    let zone : c.disturbed-zone.result.now ≡ zone_in (g.R.Reads.value c.args.reads.now u.job) c.args.name =
    c.disturbed-zone.ensures ∙ ap (λ o. zone_in o c.args.name) (sym c.get.ensures) in
    on_ok _ _ c.push_reference.result
    (λ adds. use_adds d (zone_in (g.R.Reads.value c.args.reads.now u.job) c.args.name) c.args.frame.now.cell c.args.frame.now.key c.args.frame.now.grown u place c.args.out.now.items c.push_reference.new.out.items there
    (subst (λ (p : Place). p.cell ≡ c.args.frame.now.cell) same c.requires.found.here)
    (subst (λ (l : List Rect). Adds place c.args.frame.now.grown (WhyHere l d (downward_cell d u.job) u.index c.args.frame.now.key place) c.args.out.now.items c.push_reference.new.out.items) zone
    (subst (λ (o : List ℕ). Adds place c.args.frame.now.grown (WhyHere c.disturbed-zone.result.now d (slice_index o (length o - 1 - u.job)) u.index c.args.frame.now.key place) c.args.out.now.items c.push_reference.new.out.items) c.order-order.ensures adds)))
    c.push_reference.ensures.exact
