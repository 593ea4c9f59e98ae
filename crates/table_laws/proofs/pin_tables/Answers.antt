use Rattle.table_laws.proofs.Pinned.{one_pins, read_pins, pins_together}
use Rattle.table_laws.proofs.pin_tables.Goals as goal

pub returns : goal.returns
returns c = record { one = one_pins; read = read_pins; together = pins_together }
