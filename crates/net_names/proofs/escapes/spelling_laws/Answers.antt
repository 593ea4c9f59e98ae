use Rattle.net_names.proofs.Rules.{read_as_spelled, written_as_spelled}
use Rattle.net_names.proofs.escapes.spelling_laws.Goals as goal

pub returns : goal.returns
returns c = record { read = read_as_spelled; written = written_as_spelled }
