use Rattle.flat_laws.proofs.Items.{one_table, read, together}
use Rattle.flat_laws.proofs.one_table.Goals as goal

pub returns : goal.returns
returns c = record { one = one_table; read = read; together = together }
