use Rattle.std.proofs.Common.{◌≡◌, ◌<◌, ◌+◌, ◌++◌, ◌∷◌, [], ℕ, List, Some, map, take, length, sym, subst, ap, ap₂, ◌∙◌, rules, arith}
use Rattle.std.specs.Prelude.{slice_index_or}
use Rattle.std.proofs.lemmas.List.{length-map, map-append, take_more}
use Rattle.std.proofs.lemmas.Option.{none-some, slice_get-get_or}
use Rattle.std.specs.Global.{Vec}
use Rattle.call_order.specs.Order.{lists}
use Rattle.plain_netlist.specs.Netlist.{Circuit as PlainCircuit}
use Rattle.net_model.specs.Rows.{plain_circuit}
use Rattle.net_model.specs.declared.netlist.Circuit.{Circuit}
use Rattle.net_align.specs.Laid.{AreBelow, AreCircuitsBelow}
use Rattle.net_align.specs.Kept.{cut_of}
use Rattle.net_align.specs.Sights.{pins_of, sights, cut_down}
use Rattle.net_align.proofs.Holding.{all_pins, row_calls, row_sights, read_is}
use Rattle.net_align.proofs.Seeing.{lists_at}
use Rattle.net_align.proofs.held.cut_kept.Goals.{in-Some+in_ok-cut+in_ok-push, in_default}
use Rattle.net_align.proofs.held.cut_kept.Goals as goal

pub bounds-flats-circuit : goal.bounds-flats-circuit
bounds-flats-circuit g c =
    let n = c.loop-circuit.circuit-index in
    let a = slice_index_or c.args.circuits.now n 0 in
    let below : n < length c.args.circuits.now = search rules in
    let kept = c.requires.1.0 a (c.requires.1.1.1.1 n a (slice_get-get_or c.args.circuits.now n 0 below)) in
    let low = kept.0 in
    let k = c.requires.1.1.0.long in
    omega (arith, low, k)

pub bounds-held-circuit : goal.bounds-held-circuit
bounds-held-circuit g c =
    let n = c.loop-circuit.circuit-index in
    let a = slice_index_or c.args.circuits.now n 0 in
    let below : n < length c.args.circuits.now = search rules in
    let kept = c.requires.1.0 a (c.requires.1.1.1.1 n a (slice_get-get_or c.args.circuits.now n 0 below)) in
    let low = kept.0 in
    let k = c.requires.1.1.1.0.long in
    let l = length-map c.args.held.now (λ (v : Vec ℕ). v.items) in
    omega (arith, low, k, l)

pub cut-requires-clause-circuits : goal.cut-requires-clause-circuits
cut-requires-clause-circuits g c =
    let n = c.loop-circuit.circuit-index in
    let a = slice_index_or c.args.circuits.now n 0 in
    let below : n < length c.args.circuits.now = search rules in
    let kept = c.requires.1.0 a (c.requires.1.1.1.1 n a (slice_get-get_or c.args.circuits.now n 0 below)) in
    let has = c.requires.1.1.0.each a kept.0 kept.1 in
    let is : c.index-flats-circuit.result ≡ Some has.inner = read_is c.args.flats.now a c.index-flats-circuit.result (Some has.inner) has.there c.index-flats-circuit.is in
    let same : has.inner ≡ c.in-Some.flat = let s : Some has.inner ≡ Some c.in-Some.flat = sym is ∙ c.in-Some.is in cc in
    let long : length c.args.held.now ≡ length g.given.netlist.circuits = sym (length-map c.args.held.now (λ (v : Vec ℕ). v.items)) ∙ c.requires.1.1.1.0.long in
    subst (λ (x : Circuit). AreCircuitsBelow x.calls.items (length c.args.held.now)) same
    (subst (λ (k : ℕ). AreCircuitsBelow has.inner.calls.items k) (sym long) (row_calls g.given.netlist g.given.goes g.given.flattening c.requires.0 a has.inner kept.0 has.is))

pub cut-requires-clause-nets : goal.cut-requires-clause-nets
cut-requires-clause-nets g c =
    let nl = g.given.netlist in
    let f = g.given.flattening in
    let numbers = c.args.numbers.now in
    let held = lists c.args.held.now in
    let n = c.loop-circuit.circuit-index in
    let a = slice_index_or c.args.circuits.now n 0 in
    let below : n < length c.args.circuits.now = search rules in
    let on = c.requires.1.1.1.1 n a (slice_get-get_or c.args.circuits.now n 0 below) in
    let kept = c.requires.1.0 a on in
    let has = c.requires.1.1.0.each a kept.0 kept.1 in
    let is : c.index-flats-circuit.result ≡ Some has.inner = read_is c.args.flats.now a c.index-flats-circuit.result (Some has.inner) has.there c.index-flats-circuit.is in
    let same : has.inner ≡ c.in-Some.flat = let s : Some has.inner ≡ Some c.in-Some.flat = sym is ∙ c.in-Some.is in cc in
    let k = c.requires.1.1.1.0.long in
    let l = length-map c.args.held.now (λ (v : Vec ℕ). v.items) in
    let low = kept.0 in
    let own : c.deref.result.now ≡ pins_of held a = c.deref.ensures.value ∙ sym (lists_at c.args.held.now a c.index-held-circuit.result (omega (arith, low, k, l)) c.index-held-circuit.is) in
    let pins = all_pins nl g.given.goes f c.requires.0 numbers held a c.requires.1.1.1.0 in
    subst (λ (x : Circuit). AreBelow (sights numbers held c.deref.result.now (plain_circuit x)) (length x.nets.items)) same
    (row_sights nl g.given.goes f c.requires.0 numbers held c.deref.result.now a has.inner kept.0 has.is pins (own ∙ c.requires.1.1.1.0.each a on))

pub loop-circuit-preserved : goal.loop-circuit-preserved
loop-circuit-preserved g c =
    let f = g.given.flattening in
    let numbers = c.args.numbers.now in
    let held = lists c.args.held.now in
    let circuits = c.args.circuits.now in
    let n = c.loop-circuit.circuit-index in
    let a = slice_index_or circuits n 0 in
    let below : n < length circuits = search rules in
    let on = c.requires.1.1.1.1 n a (slice_get-get_or circuits n 0 below) in
    let kept = c.requires.1.0 a on in
    let has = c.requires.1.1.0.each a kept.0 kept.1 in
    let is : c.index-flats-circuit.result ≡ Some has.inner = read_is c.args.flats.now a c.index-flats-circuit.result (Some has.inner) has.there c.index-flats-circuit.is in
    let k = c.requires.1.1.1.0.long in
    let l = length-map c.args.held.now (λ (v : Vec ℕ). v.items) in
    let low = kept.0 in
    let more : map (cut_of f.flats numbers held) (take (n + 1) circuits) ≡ map (cut_of f.flats numbers held) (take n circuits) ++ cut_of f.flats numbers held a ∷ []
    = ap (λ (t : List ℕ). map (cut_of f.flats numbers held) t) (take_more circuits n 0 below) ∙ map-append (cut_of f.flats numbers held) (take n circuits) (a ∷ []) in
    let step : map plain_circuit c.match-flats-circuit.cuts.items ≡ map plain_circuit c.loop-circuit.cuts.items ++ cut_of f.flats numbers held a ∷ []
    = elim c.match-flats-circuit.branch [
      | in-Some+in_ok-cut+in_ok-push w ↦
          let same : has.inner ≡ w.in-Some.flat = let s : Some has.inner ≡ Some w.in-Some.flat = sym is ∙ w.in-Some.is in cc in
          let own : w.deref.result.now ≡ pins_of held a = w.deref.ensures.value ∙ sym (lists_at c.args.held.now a w.index-held-circuit.result (omega (arith, low, k, l)) w.index-held-circuit.is) in
          let flat : plain_circuit w.in-Some.flat ≡ _ = ap plain_circuit (sym same) ∙ has.is in
          let made : plain_circuit w.in_ok-cut.field-0 ≡ cut_of f.flats numbers held a = w.in_ok-cut.ensures ∙ ap₂ (λ (o : List ℕ) (x : PlainCircuit). cut_down numbers held o x) own flat in
          ap (λ (v : _). map plain_circuit v.items) w.cuts-is
          ∙ (ap (λ (t : List Circuit). map plain_circuit t) w.in_ok-push.ensures.items
          ∙ (map-append plain_circuit c.loop-circuit.cuts.items (w.in_ok-cut.field-0 ∷ [])
          ∙ ap (λ (x : PlainCircuit). map plain_circuit c.loop-circuit.cuts.items ++ x ∷ []) made))
      | in_default w ↦ absurd (none-some has.inner (sym (search rules) ∙ is))
    ] in
    step ∙ (ap (λ (t : List PlainCircuit). t ++ cut_of f.flats numbers held a ∷ []) c.loop-circuit.invariant ∙ sym more)
