use Rattle.std.proofs.Common.{◌≡◌, ◌++◌, ℕ, List, map, sym, ap, ◌∙◌, rules}
use Rattle.plain_netlist.specs.Netlist.{Circuit as PlainCircuit}
use Rattle.net_model.specs.declared.netlist.Circuit.{Circuit}
use Rattle.net_model.specs.Rows.{plain_circuit, plain_netlist}
use Rattle.pair_turns.specs.Alone.{circuit_names, first_names, greater, longest, second_names}
use Rattle.pair_turns.proofs.Greater.{longest_join, longest_last}
use Rattle.pair_turns.proofs.alone.longest_name.Goals as goal

pub returns : goal.returns
returns c =
    let rights = c.args.alone.now.rights.items in
    let lefts = c.args.alone.now.lefts.items in
    let seconds = second_names c.args.same.now in
    let firsts = first_names c.args.same.now in
    let schematics = circuit_names (plain_netlist c.args.schematic.now) in
    let layouts = circuit_names (plain_netlist c.args.layout.now) in
    let one : c.longest_name_of-rights.result ≡ greater (longest rights) 0 = search rules in
    let two : c.longest_name_of-lefts.result ≡ greater (longest lefts) c.longest_name_of-rights.result = search rules in
    let three : c.longest_second-seconds.result ≡ greater (longest seconds) c.longest_name_of-lefts.result = search rules in
    let four : c.longest_first-firsts.result ≡ greater (longest firsts) c.longest_second-seconds.result = search rules in
    let five : c.longest_circuit-schematics.result ≡ greater (longest schematics) c.longest_first-firsts.result =
    c.longest_circuit-schematics.ensures ∙ ap (λ (cs : List Circuit). greater (longest (map (λ (d : PlainCircuit). d.name) (map plain_circuit cs))) c.longest_first-firsts.result) c.deref-3.ensures.value in
    let six : c.longest_circuit.result ≡ greater (longest layouts) c.longest_circuit-schematics.result =
    c.longest_circuit.ensures ∙ ap (λ (cs : List Circuit). greater (longest (map (λ (d : PlainCircuit). d.name) (map plain_circuit cs))) c.longest_circuit-schematics.result) c.deref-4.ensures.value in
    let a : c.longest_name_of-rights.result ≡ longest rights = one ∙ longest_last rights in
    let b : c.longest_name_of-lefts.result ≡ longest (lefts ++ rights) = two ∙ ap (λ (n : ℕ). greater (longest lefts) n) a ∙ sym (longest_join lefts rights) in
    let d : c.longest_second-seconds.result ≡ longest (seconds ++ (lefts ++ rights)) = three ∙ ap (λ (n : ℕ). greater (longest seconds) n) b ∙ sym (longest_join seconds (lefts ++ rights)) in
    let e : c.longest_first-firsts.result ≡ longest (firsts ++ (seconds ++ (lefts ++ rights))) = four ∙ ap (λ (n : ℕ). greater (longest firsts) n) d ∙ sym (longest_join firsts (seconds ++ (lefts ++ rights))) in
    let f : c.longest_circuit-schematics.result ≡ longest (schematics ++ (firsts ++ (seconds ++ (lefts ++ rights)))) =
    five ∙ ap (λ (n : ℕ). greater (longest schematics) n) e ∙ sym (longest_join schematics (firsts ++ (seconds ++ (lefts ++ rights)))) in
    six ∙ ap (λ (n : ℕ). greater (longest layouts) n) f ∙ sym (longest_join layouts (schematics ++ (firsts ++ (seconds ++ (lefts ++ rights)))))
