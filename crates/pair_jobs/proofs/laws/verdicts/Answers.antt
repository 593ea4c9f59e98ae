use Rattle.pair_jobs.proofs.Together.{one_run, one_verdict, undecided_pair}
use Rattle.pair_jobs.proofs.laws.verdicts.Goals as goal

pub returns : goal.returns
returns c = record { one = one_verdict; one_run = one_run; undecided = undecided_pair }
