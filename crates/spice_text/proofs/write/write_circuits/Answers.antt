use Rattle.std.proofs.Common.{◌+◌, [], map, drop, subst, refl, List}
use Rattle.std.proofs.lemmas.List.{drop_all}
use Rattle.plain_netlist.specs.Netlist.{Circuit as PlainCircuit}
use Rattle.net_model.specs.Rows.{plain_circuit}
use Rattle.net_model.specs.declared.netlist.Circuit.{Circuit}
use Rattle.spice_text.specs.Written.{AreOneByOne, IsCircuitText, HasWritten}
use Rattle.spice_text.proofs.WriteLemmas.{one_more, done, split, start}
use Rattle.spice_text.proofs.write.write_circuits.Goals as goal

pub circuits-init : goal.circuits-init
circuits-init c = start (AreOneByOne (IsCircuitText (map plain_circuit c.args.circuits.now)) (map plain_circuit c.args.circuits.now)) c.args.out.now.items

pub circuits-preserved : goal.circuits-preserved
circuits-preserved c =
    let whole = AreOneByOne (IsCircuitText (map plain_circuit c.args.circuits.now)) (map plain_circuit c.args.circuits.now) in
    let x = c.index-circuits-i.result in
    let rest = map plain_circuit (drop (c.circuits.i + 1) c.args.circuits.now) in
    one_more (IsCircuitText (map plain_circuit c.args.circuits.now)) (plain_circuit x) rest whole c.args.out.now.items c.circuits.out.items c.write_circuit.new.out.items
    (subst (λ (ds : List PlainCircuit). HasWritten (AreOneByOne (IsCircuitText (map plain_circuit c.args.circuits.now)) ds) whole c.args.out.now.items c.circuits.out.items)
    (split plain_circuit c.args.circuits.now c.circuits.i x c.circuits-test.true c.index-circuits-i.is) c.circuits.invariant)
    c.in_ok-write_circuit.ensures

pub returns : goal.returns
returns c =
    let whole = AreOneByOne (IsCircuitText (map plain_circuit c.args.circuits.now)) (map plain_circuit c.args.circuits.now) in
    done (AreOneByOne (IsCircuitText (map plain_circuit c.args.circuits.now)) []) whole c.args.out.now.items c.circuits.out.items refl
    (subst (λ (ds : List Circuit). HasWritten (AreOneByOne (IsCircuitText (map plain_circuit c.args.circuits.now)) (map plain_circuit ds)) whole c.args.out.now.items c.circuits.out.items)
    (drop_all c.circuits.i c.args.circuits.now c.circuits-test.false) c.circuits.invariant)
