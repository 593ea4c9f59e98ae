use Rattle.match_report.proofs.Naming.{named}
use Rattle.match_report.proofs.gates.cell_name.Goals as goal

pub returns : goal.returns
returns c = named c.args.design.now c.args.cell c.name.result.now c.requires c.name.ensures
