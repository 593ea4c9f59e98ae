use Rattle.align_laws.specs.Lists.{plain}
use Rattle.net_model.specs.Rows.{plain_netlist}
use Rattle.net_align.specs.Flattened.{AreFlatsBelow}
use Rattle.net_align.proofs.flatten.flatten.Given as goal

abbrev pub invariant-loop-circuit : goal.invariant-loop-circuit
invariant-loop-circuit g l = AreFlatsBelow (plain_netlist l.netlist) g.f.flats l.marks l.order l.circuit-index l.flats.items

abbrev pub ghost-inline : goal.ghost-inline
ghost-inline g a = λ d. plain (g.f.flats d)
