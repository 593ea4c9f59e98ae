use Rattle.std.proofs.Common.{◌<◌, ◌≤◌, ◌∙◌, ◌+◌, List, drop, flat_map, map, length, sym, ap, arith}
use Rattle.std.proofs.lemmas.List.{drop_all}
use Rattle.net_model.specs.Rows.{plain_circuit}
use Rattle.net_model.specs.declared.netlist.Circuit.{Circuit}
use Rattle.plain_netlist.specs.Netlist.{Circuit as PlainCircuit}
use Rattle.spice_text.proofs.WriteLemmas.{split}
use Rattle.view_netlist.specs.Classes.{classes_of, first_classes}
use Rattle.view_netlist.specs.Kinds.{Class, class_seen}
use Rattle.view_netlist.proofs.ClassNames.{classes_append}
use Rattle.view_netlist.proofs.classes.used_classes.Goals as goal

pub circuits-preserved : goal.circuits-preserved
circuits-preserved c =
    let i = c.circuits.i in
    let x = c.index-circuits-i.result in
    let lt : i < length c.args.circuits.now = omega (arith, c.circuits-test.true) in
    let more = flat_map classes_of (map plain_circuit (drop (i + 1) c.args.circuits.now)) in
    let seen = map class_seen c.circuits.seen.keys in
    ap (λ (cs : List Class). first_classes cs more) c.in_ok-add_classes.ensures
    ∙ sym (classes_append seen (classes_of (plain_circuit x)) more)
    ∙ ap (λ (cs : List PlainCircuit). first_classes seen (flat_map classes_of cs)) (sym (split plain_circuit c.args.circuits.now i x lt c.index-circuits-i.is))
    ∙ c.circuits.invariant

pub returns : goal.returns
returns c =
    let end : length c.args.circuits.now ≤ c.circuits.i = omega (arith, c.circuits-test.false) in
    ap (map class_seen) c.in_ok-classes.ensures
    ∙ sym (ap (λ (cs : List Circuit). first_classes (map class_seen c.circuits.seen.keys) (flat_map classes_of (map plain_circuit cs))) (drop_all c.circuits.i c.args.circuits.now end))
    ∙ c.circuits.invariant
