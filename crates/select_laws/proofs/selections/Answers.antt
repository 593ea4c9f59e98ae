use Rattle.select_laws.proofs.Choice.{same_choice}
use Rattle.select_laws.proofs.Layered.{others, selected}
use Rattle.select_laws.proofs.selections.Goals as goal

pub returns : goal.returns
returns c = record { choice = same_choice; others = others; selected = selected }
