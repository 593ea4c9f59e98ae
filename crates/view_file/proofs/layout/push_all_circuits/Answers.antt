use Rattle.std.proofs.Common.{◌<◌, ◌∙◌, ℕ, List, length, map, sym, subst}
use Rattle.std.specs.List.{All}
use Rattle.net_model.specs.Rows.{plain_circuit}
use Rattle.spice_text.specs.Written.{Adds}
use Rattle.view_netlist.specs.Circuits.{AreCircuitTexts}
use Rattle.view_netlist.specs.declared.drawing.Drawing.{Drawing}
use Rattle.view_file.proofs.Ranges.{all_numbers, all_there}
use Rattle.view_file.proofs.layout.push_all_circuits.Goals as goal

pub push_circuits-requires-clause-there : goal.push_circuits-requires-clause-there
push_circuits-requires-clause-there c =
    let cs = c.args.circuits.now in
    subst (λ (ks : List ℕ). All (λ k. k < length cs) ks) (sym c.deref.ensures.value) (all_there cs c.in_ok-count.count c.in_ok-order.order.items c.in_ok-count.ensures.ok c.in_ok-order.ensures)

pub returns : goal.returns
returns c =
    let cs = c.args.circuits.now in
    let p = c.args.picture.now in
    let same = c.deref.ensures.value ∙ all_numbers cs c.in_ok-count.count c.in_ok-order.order.items c.in_ok-count.ensures.ok c.in_ok-order.ensures in
    subst (λ (ks : List ℕ). Adds (AreCircuitTexts p.names p.drawings.items (map plain_circuit cs) ks) c.args.out.now.items c.push_circuits.new.out.items) same
    (subst (λ (ds : List Drawing). Adds (AreCircuitTexts p.names ds (map plain_circuit cs) c.deref.result.now) c.args.out.now.items c.push_circuits.new.out.items) c.as_slice-drawings.ensures.value c.in_ok-push_circuits.ensures)
