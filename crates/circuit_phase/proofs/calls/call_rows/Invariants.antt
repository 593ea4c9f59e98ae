use Rattle.std.proofs.Common.{map}
use Rattle.deep_tables.specs.Nets.{plain_nets}
use Rattle.net_model.specs.Rows.{plain_call}
use Rattle.circuit_phase.proofs.Calling.{AreRowsTo}
use Rattle.circuit_phase.proofs.calls.call_rows.Given as goal

abbrev pub invariant-loop-k : goal.invariant-loop-k
invariant-loop-k g l = AreRowsTo (g.P.Placed.design l.placed) (g.P.Placed.nets l.placed) (g.P.Placed.pins l.placed) (g.P.Placed.drawn l.placed) (g.P.Placed.circuits l.placed) l.cell (plain_nets l.nets) l.fn.numbering.count l.fn.numbering.nets l.k l.numbering.count l.numbering.nets l.start (map plain_call l.rows.items)
