use Rattle.select_laws.proofs.Rest.{rest_law, candidate_law, told_law, parted_rest}
use Rattle.select_laws.proofs.rests.Goals as goal

pub returns : goal.returns
returns c = record { rest = rest_law; part = candidate_law; told = told_law; parted = parted_rest }
