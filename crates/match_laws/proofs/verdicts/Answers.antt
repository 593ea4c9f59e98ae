use Rattle.match_laws.proofs.Verdict.{refuted_pair, ended_pair, solved_pair, found_pair}
use Rattle.match_laws.proofs.verdicts.Goals as goal

pub returns-clause-refuted : goal.returns-clause-refuted
returns-clause-refuted c = refuted_pair

pub returns-clause-ended : goal.returns-clause-ended
returns-clause-ended c = ended_pair

pub returns-clause-solved : goal.returns-clause-solved
returns-clause-solved c = solved_pair

pub returns-clause-found : goal.returns-clause-found
returns-clause-found c = found_pair
