use Rattle.table_laws.proofs.Naming.{circuit_names_apart, net_names_apart, second}
use Rattle.table_laws.proofs.Sound.{extracted_good, extracted_sound}
use Rattle.table_laws.proofs.sound_netlist.Goals as goal

pub returns : goal.returns
returns c = record { nets = net_names_apart; circuits = circuit_names_apart; second = second; good = extracted_good; sound = extracted_sound }
