use Rattle.table_laws.proofs.Circuited.{one_circuit, together}
use Rattle.table_laws.proofs.Drawing.{one_drawn, read_drawn, drawn_together}
use Rattle.table_laws.proofs.circuit_tables.Goals as goal

pub returns : goal.returns
returns c = record { one_drawn = one_drawn; read = read_drawn; drawn = drawn_together; one = one_circuit; together = together }
