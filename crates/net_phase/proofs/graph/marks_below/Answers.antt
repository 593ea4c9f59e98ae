use Rattle.std.proofs.Common.{◌≡◌, ◌+◌, ◌∙◌, ◌||◌, Bool, false, ℕ, List, ap, sym, subst, arith, length, drop, get_or, slice_index}
use Rattle.base_laws.proofs.Lists.{map_count}
use Rattle.std.specs.Global.{Vec}
use Rattle.cell_graph.proofs.Bridge.{lower}
use Rattle.cell_graph.specs.Linked.{cell_at, places_at}
use Rattle.cell_graph.specs.declared.cells.Place.{Place}
use Rattle.job_graph.specs.Graph.{AreAscending, inputs_of, lists}
use Rattle.net_phase.proofs.Arraying.{no_place, place_there}
use Rattle.net_phase.proofs.Graphing.{AreFrom, child_lower, first_all, from_all, from_more, list_at}
use Rattle.net_phase.proofs.graph.marks_below.Goals as goal
use Rattle.net_phase.specs.Graph.{is_at_or_in}

pub bounds-jobs-place : goal.bounds-jobs-place
bounds-jobs-place c =
    let d = c.args.design.now in let job = c.args.job in
    let items = c.places-place-items.result.now in
    let p = get_or items c.loop-place.place-index no_place in
    let listed : items ≡ places_at (cell_at d (slice_index d.order job)) = c.places-place-items.ensures ∙ ap (λ (o : List ℕ). places_at (cell_at d (slice_index o job))) c.order.ensures in
    let there = place_there d (slice_index d.order job) c.loop-place.place-index items listed (omega arith) in
    let less = (lower d (slice_index d.order job) c.loop-place.place-index p c.sound.ensures there).0 in
    let count = c.requires.count in
    omega (arith, less, count)

pub bounds-graph-child : goal.bounds-graph-child
bounds-graph-child c =
    let d = c.args.design.now in let job = c.args.job in
    let items = c.places-place-items.result.now in
    let listed : items ≡ places_at (cell_at d (slice_index d.order job)) = c.places-place-items.ensures ∙ ap (λ (o : List ℕ). places_at (cell_at d (slice_index o job))) c.order.ensures in
    let there = place_there d (slice_index d.order job) c.loop-place.place-index items listed (omega arith) in
    let less = child_lower d c.args.jobs.now job c.loop-place.place-index (get_or items c.loop-place.place-index no_place) c.sound.ensures c.requires.jobs c.requires.job there in
    let long = c.requires.graph.count in
    let same = map_count (λ (v : Vec ℕ). v.items) c.args.graph.now in
    omega (arith, less, long, same)

pub mark-requires-clause-job : goal.mark-requires-clause-job
mark-requires-clause-job c =
    let d = c.args.design.now in let job = c.args.job in
    let items = c.places-place-items.result.now in
    let listed : items ≡ places_at (cell_at d (slice_index d.order job)) = c.places-place-items.ensures ∙ ap (λ (o : List ℕ). places_at (cell_at d (slice_index o job))) c.order.ensures in
    let there = place_there d (slice_index d.order job) c.loop-place.place-index items listed (omega arith) in
    let less = child_lower d c.args.jobs.now job c.loop-place.place-index (get_or items c.loop-place.place-index no_place) c.sound.ensures c.requires.jobs c.requires.job there in
    let long = c.loop-place.invariant.count in
    let same = ap (λ (l : List Bool). length l) c.deref_mut.ensures.value in
    omega (arith, less, long, same)

pub mark-requires-clause-inputs : goal.mark-requires-clause-inputs
mark-requires-clause-inputs c =
    let d = c.args.design.now in let job = c.args.job in
    let items = c.places-place-items.result.now in
    let p = get_or items c.loop-place.place-index no_place in
    let listed : items ≡ places_at (cell_at d (slice_index d.order job)) = c.places-place-items.ensures ∙ ap (λ (o : List ℕ). places_at (cell_at d (slice_index o job))) c.order.ensures in
    let there = place_there d (slice_index d.order job) c.loop-place.place-index items listed (omega arith) in
    let less = child_lower d c.args.jobs.now job c.loop-place.place-index p c.sound.ensures c.requires.jobs c.requires.job there in
    let long = c.requires.graph.count in
    let same = map_count (λ (v : Vec ℕ). v.items) c.args.graph.now in
    let at = list_at c.args.graph.now (slice_index c.args.jobs.now p.cell) c.index-graph-child.result c.deref.result.now (omega (arith, less, long, same)) c.index-graph-child.is c.deref.ensures.value in
    subst (λ l. AreAscending 0 l (slice_index c.args.jobs.now p.cell)) at (c.requires.graph.each (slice_index c.args.jobs.now p.cell) less).ascend

pub loop-place-preserved : goal.loop-place-preserved
loop-place-preserved c =
    let d = c.args.design.now in let job = c.args.job in
    let items = c.places-place-items.result.now in
    let old = c.loop-place.marks.items in
    let new = c.mark.new.marks in
    let p = get_or items c.loop-place.place-index no_place in
    let listed : items ≡ places_at (cell_at d (slice_index d.order job)) = c.places-place-items.ensures ∙ ap (λ (o : List ℕ). places_at (cell_at d (slice_index o job))) c.order.ensures in
    let there = place_there d (slice_index d.order job) c.loop-place.place-index items listed (omega arith) in
    let less = child_lower d c.args.jobs.now job c.loop-place.place-index p c.sound.ensures c.requires.jobs c.requires.job there in
    let long = c.requires.graph.count in
    let same = map_count (λ (v : Vec ℕ). v.items) c.args.graph.now in
    let at = list_at c.args.graph.now (slice_index c.args.jobs.now p.cell) c.index-graph-child.result c.deref.result.now (omega (arith, less, long, same)) c.index-graph-child.is c.deref.ensures.value in
    let value : c.deref_mut.result.now ≡ old = c.deref_mut.ensures.value in
    let count : length new ≡ length old = c.mark.ensures.count ∙ ap (λ (l : List Bool). length l) value in
    let marked : (i : ℕ) → get_or new i false ≡ (get_or old i false || is_at_or_in i (slice_index c.args.jobs.now p.cell) (inputs_of (lists c.args.graph.now) (slice_index c.args.jobs.now p.cell))) = λ i.
    c.mark.ensures.marked i ∙ ap (λ (l : List Bool). get_or l i false || is_at_or_in i (slice_index c.args.jobs.now p.cell) c.deref.result.now) value
    ∙ ap (λ (l : List ℕ). get_or old i false || is_at_or_in i (slice_index c.args.jobs.now p.cell) l) (sym at) in
    let ok = c.loop-place.marks.ok.0 in
    subst (AreFrom d c.args.jobs.now (lists c.args.graph.now) job (c.loop-place.place-index + 1)) (sym (first_all c.loop-place.marks.len new (drop (length new) old) (omega (arith, ok, count))))
    (from_more d c.args.jobs.now (lists c.args.graph.now) job c.loop-place.place-index p old new there c.loop-place.invariant count marked)

pub returns : goal.returns
returns c =
    let d = c.args.design.now in let job = c.args.job in
    let listed = c.places-place-items.ensures ∙ ap (λ (o : List ℕ). places_at (cell_at d (slice_index o job))) c.order.ensures in
    let e = ap (λ (l : List Place). length l) listed in
    from_all d c.args.jobs.now (lists c.args.graph.now) job c.loop-place.place-index c.loop-place.marks.items c.sound.ensures c.requires.jobs c.requires.job c.requires.graph (omega (arith, e)) c.loop-place.invariant
