use Rattle.std.proofs.Common.{◌≡◌, false, List, sym, ap, ◌∙◌}
use Rattle.std.proofs.lemmas.Bool.{not-true}
use Rattle.std.specs.List.{list_any}
use Rattle.net_model.specs.declared.netlist.Circuit.{Circuit}
use Rattle.row_netlists.specs.Small.{has_small}
use Rattle.row_netlists.proofs.Tested.{names_apart}
use Rattle.row_netlists.proofs.conditions.is_alignable.Goals as goal

pub returns : goal.returns
returns c e =
    let n = c.args.n.now in
    let none : list_any (λ (x : Circuit). has_small x.name) n.circuits.items ≡ false
    = ap (λ (t : List Circuit). list_any (λ (x : Circuit). has_small x.name) t) (sym c.deref.ensures.value) ∙ (sym c.some_small.ensures ∙ not-true c.some_small.result e) in
    record { sound = c.requires.sound; normal = c.requires.normal; names = names_apart n c.requires.sound none }
