use Rattle.std.proofs.Common.{◌≡◌, ◌∙◌, ap, map, List}
use Rattle.net_model.specs.Faults.{called_by}
use Rattle.net_model.specs.Rows.{plain_circuit}
use Rattle.net_model.specs.declared.netlist.CallRow.{CallRow}
use Rattle.net_model.proofs.CheckLemmas.{called_same, if_ok}
use Rattle.net_model.proofs.calls.called_by.Goals as goal

pub returns : goal.returns
returns c =
    if_ok c.numbers.result (λ row. row.items ≡ map (λ (r : CallRow). r.circuit) c.deref.result.now) (λ row. row.items ≡ called_by (plain_circuit c.args.circuit.now))
    (λ row e. e ∙ ap (λ (rs : List CallRow). map (λ (r : CallRow). r.circuit) rs) c.deref.ensures.value ∙ called_same c.args.circuit.now.calls.items) c.numbers.ensures
