use Rattle.std.proofs.Common.{◌≡◌, ◌<◌, ◌-◌, ◌∙◌, ℕ, Bool, true, false, List, get_or, length, map, slice_index, ap, sym, subst, arith}
use Rattle.cell_graph.specs.Linked.{plain}
use Rattle.net_marks.specs.Marks.{has_terminal}
use Rattle.deep_tables.specs.Entries.{downward_cell, entry}
use Rattle.deep_tables.specs.Gates.{gates_of}
use Rattle.deep_tables.specs.Nets.{plain_nets}
use Rattle.flat_layout.specs.GateTables.{GateEntry}
use Rattle.flat_layout.specs.Layout.{Design}
use Rattle.flat_layout.specs.Nets.{CellNets}
use Rattle.net_link_laws.specs.Places.{places_of}
use Rattle.net_walk.specs.Walk.{place_of}
use Rattle.pin_phase.specs.Links.{is_busy, lists_of}
use Rattle.pin_phase.proofs.Linking.{children_known, gates_listed, links_all, links_more, links_none, nets_listed, reached_at}
use Rattle.pin_phase.proofs.links.find_links.Goals as goal

pub loop-job-init : goal.loop-job-init
loop-job-init g c =
    links_none c.args.design.now (g.C.Cells.tables c.args.cells.now) (gates_of c.args.gates.now) c.cells.result (lists_of c.in_ok-lists.lists.items) c.cells.ensures c.in_ok-lists.ensures

pub busy_nets-requires-clause-gates : goal.busy_nets-requires-clause-gates
busy_nets-requires-clause-gates g c = λ x h.
    let d = c.args.design.now in let t = g.C.Cells.tables c.args.cells.now in
    let order = c.order-order.result.now in let job = c.loop-job.job in
    let parent = slice_index order (length order - 1 - job) in
    let test = c.loop-job-test.true in let end = c.loop-job.auto.job-end in
    let there = reached_at d order job c.sound.ensures c.order-order.ensures (omega arith) in
    let nets = nets_listed (entry c.args.nets.now parent) c.of-found.result.now (t.nets parent) c.of-found.ensures (c.requires.nets.same parent there) in
    let gates = gates_listed (entry c.args.gates.now parent) c.of.result.now c.of.ensures in
    subst (λ (n : CellNets). x < n.count) (sym nets) (c.requires.gates.terminals parent x there (subst (λ (l : List GateEntry). has_terminal x l ≡ true) (sym gates) h))

pub push_items-requires-clause-children : goal.push_items-requires-clause-children
push_items-requires-clause-children g c =
    let d = c.args.design.now in let w = g.C.Cells.wiring c.args.cells.now in let t = g.C.Cells.tables c.args.cells.now in
    let order = c.order-order.result.now in let job = c.loop-job.job in
    let parent = slice_index order (length order - 1 - job) in
    let long = ap (λ (o : List ℕ). length o) c.order-order.ensures in
    let there = reached_at d order job c.sound.ensures c.order-order.ensures (omega arith) in
    let nets = nets_listed (entry c.args.nets.now parent) c.of-found.result.now (t.nets parent) c.of-found.ensures (c.requires.nets.same parent there) in
    let places : map place_of c.places.result.now ≡ places_of (plain d) parent = c.places.ensures.all ∙ ap (λ (z : Design). places_of z parent) c.requires.design in
    let inside : parent < length d.cells = subst (λ (o : List ℕ). slice_index o (length o - 1 - job) < length d.cells) (sym c.order-order.ensures) (c.sound.ensures.order.inside (length d.order - 1 - job) (omega (arith, long))) in
    children_known d w t parent (length (lists_of c.loop-job.lists.items)) c.places.result.now c.of-found.result.now c.sound.ensures (c.requires.nets.right parent there) nets places inside c.loop-job.invariant.count

pub loop-job-preserved : goal.loop-job-preserved
loop-job-preserved g c =
    let d = c.args.design.now in let t = g.C.Cells.tables c.args.cells.now in
    let order = c.order-order.result.now in let job = c.loop-job.job in
    let parent = slice_index order (length order - 1 - job) in
    let e : parent ≡ downward_cell d job = ap (λ (o : List ℕ). slice_index o (length o - 1 - job)) c.order-order.ensures in
    let long = ap (λ (o : List ℕ). length o) c.order-order.ensures in
    let there = reached_at d order job c.sound.ensures c.order-order.ensures (omega arith) in
    let nets = nets_listed (entry c.args.nets.now parent) c.of-found.result.now (t.nets parent) c.of-found.ensures (c.requires.nets.same parent there) in
    let gates = gates_listed (entry c.args.gates.now parent) c.of.result.now c.of.ensures in
    let places : map place_of c.places.result.now ≡ places_of (plain d) parent = c.places.ensures.all ∙ ap (λ (z : Design). places_of z parent) c.requires.design in
    let busy : ℕ → Bool = λ x. get_or c.deref.result.now x false in
    let is : (x : ℕ) → busy x ≡ is_busy x c.of-found.result.now.net_of.items (gates_of c.args.gates.now (downward_cell d job)) = λ x.
    ap (λ (l : List Bool). get_or l x false) c.deref.ensures.value ∙ c.in_ok-busy.ensures.busy x ∙ ap (λ (l : List GateEntry). is_busy x c.of-found.result.now.net_of.items l) (sym gates ∙ ap (gates_of c.args.gates.now) e) in
    links_more d t (gates_of c.args.gates.now) job c.places.result.now c.of-found.result.now busy (lists_of c.loop-job.lists.items) (lists_of c.push_items.new.lists.items) (omega (arith, long)) (c.sound.ensures.order.inside (length d.order - 1 - job) (omega (arith, long)))
    (subst (λ p. plain_nets c.of-found.result.now ≡ t.nets p) e nets) (subst (λ p. map place_of c.places.result.now ≡ places_of (plain d) p) e places) is c.in_ok-push_items.ensures c.loop-job.invariant

pub returns : goal.returns
returns g c =
    let past = c.loop-job-test.false in let end = c.loop-job.auto.job-end in let long = ap (λ (o : List ℕ). length o) c.order-order.ensures in
    links_all c.args.design.now (g.C.Cells.tables c.args.cells.now) (gates_of c.args.gates.now) c.loop-job.job (lists_of c.loop-job.lists.items) (omega (arith, past, end, long)) c.loop-job.invariant
