use Rattle.deep_tables.specs.Circuits.{IsCellCircuit}
use Rattle.deep_tables.proofs.Finding.{upward, some_at}
use Rattle.deep_tables.proofs.Together.{all_tables}
use Rattle.deep_tables.proofs.laws.circuit_table.Goals as goal

pub returns : goal.returns
returns c = record { jobs = λ unit. upward (IsCellCircuit unit); at = λ unit d r table cell right reached. some_at (IsCellCircuit unit d r cell) _ (right cell reached); all = all_tables }
