use Rattle.round_laws.proofs.Stack.{refutes, passes, closes, rows_add}
use Rattle.round_laws.proofs.searching.Goals as goal

pub returns-clause-refute : goal.returns-clause-refute
returns-clause-refute c = λ s l b r bs level next refuted. refutes s l b r bs level next refuted

pub returns-clause-pass : goal.returns-clause-pass
returns-clause-pass c = λ s o l h outer inner rest. passes s o l h outer inner rest

pub returns-clause-close : goal.returns-clause-close
returns-clause-close c = λ s first l os t stack h not. closes s first l os t stack h not

pub returns-clause-rows : goal.returns-clause-rows
returns-clause-rows c = λ depth a done t. rows_add depth a done t
