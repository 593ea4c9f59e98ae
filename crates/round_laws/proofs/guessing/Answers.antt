use Rattle.std.proofs.Common.{arith}
use Rattle.round_laws.proofs.Unique.{one_search}
use Rattle.round_laws.proofs.Guesses.{ended_none, found_some, stopped_at, enough}
use Rattle.round_laws.proofs.guessing.Goals as goal

pub returns-clause-ended : goal.returns-clause-ended
returns-clause-ended c = λ s found web whole ended f carries. ended_none s found web whole ended f carries

pub returns-clause-found : goal.returns-clause-found
returns-clause-found c = λ s t web whole found. found_some s t web whole found

pub returns-clause-stopped : goal.returns-clause-stopped
returns-clause-stopped c = λ s t whole stopped. let e = stopped_at s _ whole.node _ 0 t whole.search stopped in omega arith

pub returns-clause-one : goal.returns-clause-one
returns-clause-one c = λ s a b web side h g. one_search s a b web side h g

pub returns-clause-enough : goal.returns-clause-enough
returns-clause-enough c = enough
