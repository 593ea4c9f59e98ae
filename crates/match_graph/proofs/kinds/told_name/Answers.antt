use Rattle.std.proofs.Common.{◌≡◌, Bool, ◌&&◌, true, cond, [], slice_index_or, sym, ◌∙◌, ap, arith}
use Rattle.std.proofs.lemmas.List.{get_or_default}
use Rattle.net_model.specs.Rows.{plain_circuit}
use Rattle.net_names.specs.Folding.{folded_bytes}
use Rattle.match_laws.specs.Circuits.{is_pin}
use Rattle.match_graph.proofs.Numbered.{marked}
use Rattle.match_graph.proofs.kinds.told_name.Goals as goal

pub returns-in_ok-folded : goal.returns-in_ok-folded
returns-in_ok-folded c =
    let circuit = plain_circuit c.args.circuit.now in
    let n = c.args.n in
    let is : is_pin circuit n ≡ true = sym (marked c.args.circuit.now.pins.items c.args.marks.now n c.requires.pins c.requires.within) ∙ c.if-marks-n.true in
    let count = c.requires.count in
    let low = c.requires.within in
    let name = get_or_default circuit.nets n c.index.result.now [] (omega (arith, count, low)) in
    c.in_ok-folded.ensures ∙ (ap folded_bytes (c.index.ensures ∙ name) ∙ sym (ap (λ (b : Bool). cond (true && b) (folded_bytes (slice_index_or circuit.nets n [])) []) is))

pub returns-else-marks-n : goal.returns-else-marks-n
returns-else-marks-n c =
    let circuit = plain_circuit c.args.circuit.now in
    let n = c.args.n in
    sym (ap (λ (b : Bool). cond (true && b) (folded_bytes (slice_index_or circuit.nets n [])) []) (sym (marked c.args.circuit.now.pins.items c.args.marks.now n c.requires.pins c.requires.within) ∙ c.if-marks-n.false))
