use Rattle.deep_tables.specs.Nets.{AreCellNets}
use Rattle.deep_tables.proofs.Finding.{upward, some_at}
use Rattle.deep_tables.proofs.Together.{read_nets, right_nets}
use Rattle.deep_tables.proofs.laws.net_table.Goals as goal

pub returns : goal.returns
returns c = record { jobs = upward AreCellNets; at = λ d r table cell right reached. some_at (AreCellNets d r cell) _ (right cell reached); right = right_nets; read = read_nets }
