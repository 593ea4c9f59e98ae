use Rattle.gds_layout.proofs.OneFault.{no_fault_read, one_fault_of}
use Rattle.gds_layout.proofs.OneLayout.{one_layout}
use Rattle.gds_layout.proofs.laws.one_layout.Goals as goal

pub returns-clause-layout : goal.returns-clause-layout
returns-clause-layout c = one_layout c.one_list.ensures c.one_meaning.ensures.library

pub returns-clause-apart : goal.returns-clause-apart
returns-clause-apart c = no_fault_read c.one_list.ensures c.one_meaning.ensures.library c.one_meaning.ensures.apart c.one_meaning.ensures.fault

pub returns-clause-fault : goal.returns-clause-fault
returns-clause-fault c = one_fault_of c.one_list.ensures c.one_meaning.ensures.library c.one_meaning.ensures.apart c.one_meaning.ensures.fault
