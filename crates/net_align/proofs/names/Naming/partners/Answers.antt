use Rattle.std.proofs.Common.{List, map, ap, ◌∙◌, rules}
use Rattle.std.proofs.lemmas.List.{take_all}
use Rattle.net_names.specs.Folding.{folded_bytes}
use Rattle.net_model.specs.declared.netlist.Circuit.{Circuit}
use Rattle.net_align.specs.Names.{partner_named}
use Rattle.net_align.proofs.Rows.{map_named}
use Rattle.net_align.proofs.names.Naming.partners.Goals as goal

pub returns : goal.returns
returns c =
    let xs = c.deref-circuit-items.result.now in
    c.loop-circuit.invariant
    ∙ (ap (λ (t : List Circuit). map (λ (x : Circuit). partner_named c.args.self.now (folded_bytes x.name)) t) (take_all c.loop-circuit.circuit-index xs (search rules) ∙ c.deref-circuit-items.ensures.value)
    ∙ map_named (partner_named c.args.self.now) c.args.layout.now.circuits.items)
