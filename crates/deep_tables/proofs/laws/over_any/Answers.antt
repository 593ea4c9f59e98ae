use Rattle.deep_tables.proofs.Agreeing.{nets_over_any, one_tables}
use Rattle.deep_tables.proofs.Circuiting.{circuits_over_any}
use Rattle.deep_tables.proofs.Gating.{gates_over_any, one_gates}
use Rattle.deep_tables.proofs.Pinning.{pins_over_any}
use Rattle.deep_tables.proofs.laws.over_any.Goals as goal

pub returns : goal.returns
returns c = record { tables = one_tables; nets = nets_over_any; one_gates = one_gates; gates = gates_over_any; pins = pins_over_any; circuits = circuits_over_any }
