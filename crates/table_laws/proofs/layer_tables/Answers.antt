use Rattle.table_laws.proofs.Tabled.{one_zone, one_layer, one_own, tables}
use Rattle.table_laws.proofs.layer_tables.Goals as goal

pub returns : goal.returns
returns c = record { zone = one_zone; layer = one_layer; own = one_own; tables = tables }
