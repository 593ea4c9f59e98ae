use Rattle.std.proofs.Common.{◌≡◌, ◌<◌, ◌≤◌, ◌+◌, true, false, List, Option, Some, length, slice_set, slice_index_or, refl, sym, subst, ap, ◌∙◌, rules, arith}
use Rattle.std.proofs.lemmas.List.{length-map}
use Rattle.align_laws.specs.Lists.{plain}
use Rattle.net_model.specs.Rows.{plain_netlist, plain_circuit}
use Rattle.net_model.specs.declared.netlist.Circuit.{Circuit as CircuitRow}
use Rattle.net_align.specs.Laid.{IsFlatThere, goes_of}
use Rattle.net_align.specs.Flattened.{AreFlatsBelow}
use Rattle.net_align.proofs.Placed.{stands_at}
use Rattle.net_align.proofs.There.{none_flat, there, circuits_below, flat_more, flat_stays, all_flat}
use Rattle.net_align.proofs.flatten.flatten.Goals.{then-is_marked+in_ok-flat+in-Some-1, then-is_marked+in_ok-flat+in-None-1, else-is_marked}
use Rattle.net_align.proofs.flatten.flatten.Goals as goal

pub loop-circuit-init : goal.loop-circuit-init
loop-circuit-init g c =
    let k = length-map c.args.netlist.now.circuits.items plain_circuit in
    let l : length c.in_ok-flats.flats.items ≡ length c.args.netlist.now.circuits.items = search rules in
    none_flat (plain_netlist c.args.netlist.now) g.f.flats c.args.marks.now c.args.order.now 0 c.in_ok-flats.flats.items (l ∙ sym k) refl

pub index-requires : goal.index-requires
index-requires g c =
    let i = c.loop-circuit.circuit-index in
    let below : i < length c.args.order.now = search rules in
    let l = (stands_at c.args.netlist.now c.requires.1.0 i below).within in
    search rules

pub inline-requires : goal.inline-requires
inline-requires g c =
    let nl = plain_netlist c.args.netlist.now in
    let order = c.args.order.now in
    let i = c.loop-circuit.circuit-index in
    let a = slice_index_or order i 0 in
    let below : i < length order = search rules in
    let it = stands_at c.args.netlist.now c.requires.1.0 i below in
    let marks = c.args.marks.now in
    let flats = c.loop-circuit.flats.items in
    let x = c.index.result.now in
    let circuit = it.circuit x c.index.ensures in
    let tells : c.is_marked.result ≡ slice_index_or marks a false = c.is_marked.ensures in
    let on : slice_index_or marks a false ≡ true = sym tells ∙ c.if-is_marked.true in
    let goes = goes_of c.args.goes.now in (
      (λ j r e.
          let k = length-map c.args.netlist.now.circuits.items plain_circuit in
          let b = circuits_below nl goes g.f c.requires.0 order c.requires.1.0 marks c.requires.1.1.0 i a it.at x circuit flats c.loop-circuit.invariant j r e in
          let l = c.requires.1.1.1 in
          omega (arith, b, k, l)),
      (λ j r e gone.
          subst (λ (t : List (Option CircuitRow)). IsFlatThere t (λ d. plain (g.f.flats d)) r) (sym c.deref.ensures.value)
          (there nl goes g.f c.requires.0 order c.requires.1.0 marks c.requires.1.1.0 i a it.at x circuit flats c.loop-circuit.invariant j r on e)),
    )

pub index_mut-requires : goal.index_mut-requires
index_mut-requires g c =
    let order = c.args.order.now in
    let i = c.loop-circuit.circuit-index in
    let below : i < length order = search rules in
    let low = (stands_at c.args.netlist.now c.requires.1.0 i below).low in
    let m = c.loop-circuit.invariant.long in
    let l : slice_index_or order i 0 < length c.loop-circuit.flats.items = omega (arith, low, m) in
    search rules

pub loop-circuit-preserved : goal.loop-circuit-preserved
loop-circuit-preserved g c =
    let nl = plain_netlist c.args.netlist.now in
    let order = c.args.order.now in
    let i = c.loop-circuit.circuit-index in
    let a = slice_index_or order i 0 in
    let below : i < length order = search rules in
    let it = stands_at c.args.netlist.now c.requires.1.0 i below in
    let marks = c.args.marks.now in
    let flats = c.loop-circuit.flats.items in
    let goes = goes_of c.args.goes.now in
    let tells : c.is_marked.result ≡ slice_index_or marks a false = c.is_marked.ensures in
    elim c.if-is_marked.branch [
      | then-is_marked+in_ok-flat+in-Some-1 w ↦
          let x = w.index.result.now in
          let circuit = it.circuit x w.index.ensures in
          let new : c.if-is_marked.flats.items ≡ slice_set flats a (Some w.in_ok-flat.flat) = ap (λ (v : _). v.items) w.flats-is in
          flat_more nl goes g.f c.requires.0 order c.requires.1.0 marks c.requires.1.1.0 i a it.at x circuit flats c.loop-circuit.invariant c.if-is_marked.flats.items w.in_ok-flat.flat w.in_ok-flat.ensures new
      | then-is_marked+in_ok-flat+in-None-1 w ↦
          let x = w.index.result.now in
          let circuit = it.circuit x w.index.ensures in
          let new : c.if-is_marked.flats.items ≡ slice_set flats a (Some w.in_ok-flat.flat) = ap (λ (v : _). v.items) w.flats-is in
          flat_more nl goes g.f c.requires.0 order c.requires.1.0 marks c.requires.1.1.0 i a it.at x circuit flats c.loop-circuit.invariant c.if-is_marked.flats.items w.in_ok-flat.flat w.in_ok-flat.ensures new
      | else-is_marked w ↦
          let new : c.if-is_marked.flats.items ≡ flats = ap (λ (v : _). v.items) w.flats-is in
          subst (λ (t : List (Option CircuitRow)). AreFlatsBelow nl g.f.flats marks order (i + 1) t) (sym new)
          (flat_stays nl goes g.f c.requires.0 order c.requires.1.0 marks c.requires.1.1.0 i a it.at flats c.loop-circuit.invariant (sym tells ∙ w.if-is_marked.false))
    ]

pub returns : goal.returns
returns g c =
    let order = c.args.order.now in
    let long : length order ≤ c.loop-circuit.circuit-index = search rules in
    all_flat (plain_netlist c.args.netlist.now) g.f.flats c.args.marks.now order c.loop-circuit.circuit-index c.loop-circuit.flats.items c.requires.1.0 long c.loop-circuit.invariant
