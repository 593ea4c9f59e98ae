use Rattle.netlist_turn.proofs.DeviceText.{device_read_is, device_text_is}
use Rattle.netlist_turn.proofs.laws.device_laws.Goals as goal

pub returns-clause-text : goal.returns-clause-text
returns-clause-text c = device_text_is

pub returns-clause-read : goal.returns-clause-read
returns-clause-read c = device_read_is
