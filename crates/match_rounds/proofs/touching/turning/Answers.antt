use Rattle.match_rounds.proofs.Turned.{touched}
use Rattle.match_rounds.proofs.PartCounts.{counted}
use Rattle.match_rounds.proofs.touching.turning.Goals as goal

pub returns : goal.returns
returns c = record { touched = touched; part = counted }
