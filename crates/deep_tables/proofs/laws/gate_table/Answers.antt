use Rattle.deep_tables.specs.Gates.{AreCellGates, AreMosCellGates}
use Rattle.deep_tables.proofs.Finding.{upward, some_at}
use Rattle.deep_tables.proofs.Together.{right_gates}
use Rattle.deep_tables.proofs.laws.gate_table.Goals as goal

pub returns : goal.returns
returns c = record { jobs = upward AreCellGates; mos_jobs = upward AreMosCellGates; at = λ d r table cell right reached. some_at (AreCellGates d r cell) _ (right cell reached); right = right_gates }
