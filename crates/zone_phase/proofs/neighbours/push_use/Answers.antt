use Rattle.std.proofs.Common.{◌≡◌, ◌<◌, ◌-◌, ◌∙◌, ℕ, List, Some, ap, length, pos, slice_get, slice_index, slice_index_or, subst, sym}
use Rattle.std.proofs.lemmas.Option.{slice_get_within}
use Rattle.geo_base.specs.declared.motion.Turn.TheVariants.{R0}
use Rattle.cell_graph.specs.declared.cells.Place.{Place}
use Rattle.cell_graph.specs.Linked.{Linked, cell_at, places_at}
use Rattle.cell_context.proofs.Collecting.{item_at, one_place}
use Rattle.deep_tables.specs.Entries.{downward_cell}
use Rattle.zone_phase.specs.Neighbours.{IsAllNear, StandsAgain}
use Rattle.zone_phase.specs.declared.uses.Use.{Use}
use Rattle.zone_phase.proofs.Nearing.{near_again}
use Rattle.zone_phase.proofs.neighbours.push_use.Goals as goal

abbrev no_place : Place
no_place = record { cell = 0; motion = record { turn = R0; dx = pos 0; dy = pos 0 }; columns = 0; rows = 0; column_step = record { x = pos 0; y = pos 0 }; row_step = record { x = pos 0; y = pos 0 } }

-- the cell of a use, as the design's order tells it
abbrev cell_by : List ℕ → Use → ℕ
cell_by o u = slice_index o (length o - 1 - u.job)

-- its references are those of the use's cell, and the use is among them
at_use : (d : Linked) (u : Use) (o : List ℕ) (ps : List Place) (p : Place) → o ≡ d.order → ps ≡ places_at (cell_at d (cell_by o u)) → slice_get (places_at (cell_at d (downward_cell d u.job))) u.index ≡ Some p
    → (ps ≡ places_at (cell_at d (downward_cell d u.job))) × (u.index < length ps) × (slice_index_or ps u.index no_place ≡ p)
at_use d u o ps p e f at =
    let listed : ps ≡ places_at (cell_at d (downward_cell d u.job)) = f ∙ ap (λ (o : List ℕ). places_at (cell_at d (slice_index o (length o - 1 - u.job)))) e in
    let within = slice_get_within ps u.index p (subst (λ (l : List Place). slice_get l u.index ≡ Some p) (sym listed) at) in
    let there = item_at ps (places_at (cell_at d (downward_cell d u.job))) u.index no_place listed within in
    (listed, within, one_place (slice_get (places_at (cell_at d (downward_cell d u.job))) u.index) (slice_index_or ps u.index no_place) p there at)

pub push_around-requires-clause-parent : goal.push_around-requires-clause-parent
push_around-requires-clause-parent c = ap (λ (o : List ℕ). slice_index o (length o - 1 - c.args.found.now.job)) c.order-order.ensures

pub push_around-requires-clause-there : goal.push_around-requires-clause-there
push_around-requires-clause-there c =
    let d = c.args.used.now.design.now in let u = c.args.found.now in let used = c.requires.use_of in let o = c.order-order.result.now in
    let is = at_use d u o c.places.result.now used.place c.order-order.ensures c.places.ensures used.there in
    item_at c.places.result.now (places_at (cell_at d (cell_by o u))) u.index no_place c.places.ensures is.1

pub returns-then-is_again-clause-all : goal.returns-then-is_again-clause-all
returns-then-is_again-clause-all c = λ p at apart.
    let d = c.args.used.now.design.now in let u = c.args.found.now in let uses = c.args.used.now.uses.now in let o = c.order-order.result.now in
    let first = at_use d u o c.places.result.now p c.order-order.ensures c.places.ensures at in
    let second = at_use d u o c.places-2.result.now p c.order-order.ensures c.places-2.ensures at in
    let again = c.is_again.ensures c.if-is_again.true in
    let here = subst (λ (x : Place). StandsAgain uses c.args.at c.places-2.result.now x) first.2 again in
    let there = subst (λ (l : List Place). StandsAgain uses c.args.at l p) second.0 here in
    near_again d c.args.grown.now uses c.args.at u p c.args.memo.now.list.items c.requires.there at apart there c.requires.near

pub returns-clause-all : goal.returns-clause-all
returns-clause-all c = λ p at apart.
    let d = c.args.used.now.design.now in let u = c.args.found.now in let new = c.push_around.new.memo.list.items in
    let is = at_use d u c.order-order.result.now c.places.result.now p c.order-order.ensures c.places.ensures at in
    subst (λ (x : Place). IsAllNear d c.args.grown.now (downward_cell d u.job) u.index x new) is.2
    (subst (λ (o : List ℕ). IsAllNear d c.args.grown.now (slice_index o (length o - 1 - u.job)) u.index (slice_index_or c.places.result.now u.index no_place) new) c.order-order.ensures c.in_ok-push_around.ensures.all)
