use Rattle.plain_netlist.proofs.Faults.{sound_law, one_fault}
use Rattle.plain_netlist.proofs.Heights.{heights, good, no_fault_in_good}
use Rattle.plain_netlist.proofs.Numbered.{normal_nets}
use Rattle.plain_netlist.proofs.soundness.Goals as goal

pub returns : goal.returns
returns c = record { sound = sound_law; one_fault = one_fault; height = heights; good = good; good_faults = no_fault_in_good; normal = normal_nets }
