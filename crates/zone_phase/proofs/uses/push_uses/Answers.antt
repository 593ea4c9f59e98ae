use Rattle.std.proofs.Common.{◌≡◌, ◌-◌, ◌∙◌, ℕ, pos, List, ap, refl, arith, length, slice_index, slice_index_or}
use Rattle.geo_base.specs.declared.motion.Turn.TheVariants.{R0}
use Rattle.cell_graph.specs.declared.cells.Place.{Place}
use Rattle.cell_graph.specs.Linked.{cell_at, places_at}
use Rattle.cell_graph.proofs.Bridge.{lower}
use Rattle.cell_context.proofs.Collecting.{item_at}
use Rattle.deep_tables.specs.Entries.{downward_cell}
use Rattle.zone_phase.specs.Uses.{lists_of}
use Rattle.zone_phase.proofs.Putting.{next_job, put_next}
use Rattle.zone_phase.proofs.uses.push_uses.Goals as goal

abbrev no_place : Place
no_place = record { cell = 0; motion = record { turn = R0; dx = pos 0; dy = pos 0 }; columns = 0; rows = 0; column_step = record { x = pos 0; y = pos 0 }; row_step = record { x = pos 0; y = pos 0 } }

pub put_use-requires : goal.put_use-requires
put_use-requires c =
    let d = c.args.design.now in let items = c.places-place-items.result.now in
    let listed : items ≡ places_at (cell_at d (downward_cell d c.args.job)) = c.places-place-items.ensures ∙ ap (λ (o : List ℕ). places_at (cell_at d (slice_index o (length o - 1 - c.args.job)))) c.order-order.ensures in
    let there = item_at items (places_at (cell_at d (downward_cell d c.args.job))) c.loop-index.index no_place listed c.loop-index-test.true in
    let less = (lower d (downward_cell d c.args.job) c.loop-index.index (slice_index_or items c.loop-index.index no_place) c.sound.ensures there).0 in
    let long = c.loop-index.invariant.count in
    omega (arith, less, long)

pub loop-index-preserved : goal.loop-index-preserved
loop-index-preserved c =
    let d = c.args.design.now in let items = c.places-place-items.result.now in
    let listed : items ≡ places_at (cell_at d (downward_cell d c.args.job)) = c.places-place-items.ensures ∙ ap (λ (o : List ℕ). places_at (cell_at d (slice_index o (length o - 1 - c.args.job)))) c.order-order.ensures in
    let there = item_at items (places_at (cell_at d (downward_cell d c.args.job))) c.loop-index.index no_place listed c.loop-index-test.true in
    put_next d (lists_of c.loop-index.lists.items) (lists_of c.put_use.new.lists.items) c.args.job c.loop-index.index (slice_index_or items c.loop-index.index no_place) (record { job = c.args.job; index = c.loop-index.index })
    c.requires.job there refl refl c.in_ok-put_use.ensures c.loop-index.invariant

pub returns : goal.returns
returns c =
    let d = c.args.design.now in let items = c.places-place-items.result.now in
    let listed : items ≡ places_at (cell_at d (downward_cell d c.args.job)) = c.places-place-items.ensures ∙ ap (λ (o : List ℕ). places_at (cell_at d (slice_index o (length o - 1 - c.args.job)))) c.order-order.ensures in
    next_job d (lists_of c.loop-index.lists.items) c.args.job c.loop-index.index
    (let a = c.loop-index-test.false in let b = c.loop-index.auto.index-end in let e = ap length listed in omega arith) c.loop-index.invariant
