use Rattle.std.proofs.Common.{map}
use Rattle.match_types.specs.Plain.{plain_answer}
use Rattle.pair_jobs.proofs.Judged.{IsSoFar}
use Rattle.pair_jobs.proofs.verdict.judge.Given as goal

abbrev pub invariant-loop-pair : goal.invariant-loop-pair
invariant-loop-pair l = IsSoFar (map plain_answer l.answers) l.pair l.verdict
