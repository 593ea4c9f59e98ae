use Rattle.gds_elements.proofs.Unique.{one_library, no_fault, one_fault}
use Rattle.gds_elements.proofs.laws.one_meaning.Goals as goal

pub returns-clause-library : goal.returns-clause-library
returns-clause-library c = one_library

pub returns-clause-apart : goal.returns-clause-apart
returns-clause-apart c = no_fault

pub returns-clause-fault : goal.returns-clause-fault
returns-clause-fault c = one_fault
