use Rattle.std.proofs.Common.{◌∙◌, ◌+◌, inl, ℕ, Bool, List, Option, ap, get_or, map, subst}
use Rattle.std.proofs.lemmas.List.{map_push}
use Rattle.flat_layout.specs.Circuits.{pin_nets}
use Rattle.flat_layout.specs.Pins.{CellPins}
use Rattle.net_model.specs.Rows.{plain_call}
use Rattle.net_model.specs.declared.netlist.CallRow.{CallRow}
use Rattle.circuit_phase.specs.Numbering.{AreNumbersOf}
use Rattle.circuit_phase.specs.Placed.{IsNumberOf}
use Rattle.circuit_phase.proofs.calls.push_call.Goals as goal

pub returns-in_ok-push-clause-calls : goal.returns-in_ok-push-clause-calls
returns-in_ok-push-clause-calls g c =
    let p = c.args.placed.now in
    let old = c.args.numbering.now.nets in
    let new = c.call_nets.new.numbering.nets in
    let f : ℕ → ℕ = λ b. get_or c.args.nets.now (c.args.start + b) 0 in
    let raw : CallRow = record { circuit = c.in-Some.circuit; nets = c.in_ok-on.on } in
    let child = c.args.child in
    inl (record {
      row = plain_call raw;
      circuit = subst (λ (o : Option ℕ). IsNumberOf (g.P.Placed.circuits p) child o) c.in-Some.is c.circuit.ensures;
      nets = subst (λ (m : List Bool). AreNumbersOf old new (map f (pin_nets (g.P.Placed.pins p child) m)) c.in_ok-on.on.items) c.drawn-drawn.ensures.value
          (subst (λ (u : CellPins). AreNumbersOf old new (map f (pin_nets u c.drawn-drawn.result.now)) c.in_ok-on.on.items) c.pins-pins.ensures.value c.in_ok-on.ensures.numbers);
      last = ap (λ (l : List CallRow). map plain_call l) c.in_ok-push.ensures.items ∙ map_push plain_call c.args.rows.now.items raw;
    })
