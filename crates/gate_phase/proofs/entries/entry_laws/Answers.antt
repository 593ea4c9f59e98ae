use Rattle.gate_phase.proofs.Prefix.{front_law}
use Rattle.gate_phase.proofs.RowsOf.{entry, row}
use Rattle.gate_phase.proofs.RuleLists.{gate_lists}
use Rattle.gate_phase.proofs.entries.entry_laws.Goals as goal

pub returns : goal.returns
returns c = record { row = row; entry = entry; list = gate_lists; front = front_law }
