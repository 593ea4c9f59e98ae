use Rattle.net_marks.proofs.Grounding.{terminals}
use Rattle.net_marks.proofs.laws.terminal_law.Goals as goal

pub returns : goal.returns
returns c = terminals
