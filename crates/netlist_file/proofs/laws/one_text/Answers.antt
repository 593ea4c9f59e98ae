use Rattle.netlist_file.proofs.OneText.{one_text}
use Rattle.netlist_file.proofs.laws.one_text.Goals as goal

pub returns : goal.returns
returns c = one_text
