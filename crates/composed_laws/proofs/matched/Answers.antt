use Rattle.composed_laws.proofs.Answered.{answered}
use Rattle.composed_laws.proofs.Matching.{matched_netlists, matched_tops}
use Rattle.composed_laws.proofs.matched.Goals as goal

pub returns : goal.returns
returns c = record { answered = answered; netlists = matched_netlists; tops = matched_tops }
