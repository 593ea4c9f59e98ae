use Rattle.std.proofs.Common.{◌≡◌, ◌+◌, ◌++◌, ℕ, List, Option, length, arith, subst, sym}
use Rattle.net_model.specs.Rows.{plain_circuit, plain_call}
use Rattle.match_types.specs.Plain.{plain_side}
use Rattle.match_types.specs.Children.{children_of}
use Rattle.match_parts.specs.Rows.{AreBelow}
use Rattle.match_parts.proofs.Read.{row}
use Rattle.match_graph.specs.Edges.{call_edges, HavePins, now_of, pin_edges, pins_on}
use Rattle.match_graph.proofs.Listed.{step, have_pins}
use Rattle.match_graph.proofs.edges.list_call_edges.Goals as goal

pub push_call-requires-clause-nets : goal.push_call-requires-clause-nets
push_call-requires-clause-nets c =
    let r = row plain_call c.args.circuit.now.calls.items c.loop-k.k c.index-call.result.now (omega arith) c.index-call.ensures in
    let n = subst (λ (xs : List ℕ). AreBelow xs c.args.sizes.now.nets) (sym c.deref.ensures.value) (c.requires.nets c.loop-k.k (plain_call c.index-call.result.now) r) in
    λ i l. let m = n i l in omega arith

pub push_call-requires-clause-pins : goal.push_call-requires-clause-pins
push_call-requires-clause-pins c =
    let r = row plain_call c.args.circuit.now.calls.items c.loop-k.k c.index-call.result.now (omega arith) c.index-call.ensures in
    subst (λ (xs : List ℕ). HavePins (now_of c.pins_of-pins.result) (length xs)) (sym c.deref.ensures.value)
    (subst (λ (o : Option (List ℕ)). HavePins o (length c.index-call.result.now.nets.items)) (sym c.pins_of-pins.ensures)
    (have_pins (children_of c.args.children.now) (plain_side c.args.side) (plain_call c.index-call.result.now) (c.requires.pins c.loop-k.k (plain_call c.index-call.result.now) r)))

pub loop-k-preserved : goal.loop-k-preserved
loop-k-preserved c =
    let owner : ℕ = c.first_call.result + c.loop-k.k in
    let pushed : c.push_call.new.edges.items ≡ c.loop-k.edges.items ++ call_edges (children_of c.args.children.now) (plain_side c.args.side) c.args.sizes.now.first (c.first_call.result + c.loop-k.k) (plain_call c.index-call.result.now)
    = subst (λ (xs : List ℕ). c.push_call.new.edges.items ≡ c.loop-k.edges.items ++ pin_edges c.args.sizes.now.first (c.first_call.result + c.loop-k.k) (pins_on (children_of c.args.children.now) (plain_side c.args.side) c.index-call.result.now.circuit) xs (length xs)) c.deref.ensures.value
    (subst (λ (o : Option (List ℕ)). c.push_call.new.edges.items ≡ c.loop-k.edges.items ++ pin_edges c.args.sizes.now.first (c.first_call.result + c.loop-k.k) o c.deref.result.now (length c.deref.result.now)) c.pins_of-pins.ensures c.in_ok-push_call.ensures) in
    step (call_edges (children_of c.args.children.now) (plain_side c.args.side) c.args.sizes.now.first) _ c.loop-k.k _ (plain_circuit c.args.circuit.now).calls (plain_call c.index-call.result.now) c.args.edges.now.items c.loop-k.edges.items c.push_call.new.edges.items
    (row plain_call c.args.circuit.now.calls.items c.loop-k.k c.index-call.result.now (omega arith) c.index-call.ensures) (omega arith) c.loop-k.invariant pushed
