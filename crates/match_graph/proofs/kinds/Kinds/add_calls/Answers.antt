use Rattle.std.proofs.Common.{◌+◌, map, take, arith}
use Rattle.match_laws.specs.Circuits.{OfCall}
use Rattle.net_model.specs.Rows.{plain_circuit, plain_call}
use Rattle.match_parts.proofs.Read.{row}
use Rattle.match_graph.specs.Kinds.{call_own}
use Rattle.match_graph.proofs.Numbered.{adds_more, owns_more}
use Rattle.match_graph.proofs.kinds.Kinds.add_calls.Goals as goal

pub loop-k-preserved : goal.loop-k-preserved
loop-k-preserved c =
    adds_more c.args.self.now c.loop-k.self c.add.new.self (map call_own (take c.loop-k.k (plain_circuit c.args.circuit.now).calls)) (map call_own (take (c.loop-k.k + 1) (plain_circuit c.args.circuit.now).calls)) (OfCall c.index.result.now.circuit)
    c.loop-k.invariant c.in_ok-add.ensures (owns_more call_own (plain_circuit c.args.circuit.now).calls c.loop-k.k (plain_call c.index.result.now) (row plain_call c.args.circuit.now.calls.items c.loop-k.k c.index.result.now (omega arith) c.index.ensures))
