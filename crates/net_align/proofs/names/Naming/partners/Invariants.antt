use Rattle.std.proofs.Common.{◌≡◌, take, map}
use Rattle.net_names.specs.Folding.{folded_bytes}
use Rattle.net_model.specs.declared.netlist.Circuit.{Circuit}
use Rattle.net_align.specs.Names.{partner_named}
use Rattle.net_align.proofs.names.Naming.partners.Given as goal

abbrev pub invariant-loop-circuit : goal.invariant-loop-circuit
invariant-loop-circuit l = l.of.items ≡ map (λ (c : Circuit). partner_named l.self (folded_bytes c.name)) (take l.circuit-index l.circuit-items)
