use Rattle.composed_laws.proofs.OneByOne.{one_answer_of, read_answers, together_answers}
use Rattle.composed_laws.proofs.answers.Goals as goal

pub returns : goal.returns
returns c = record { one = one_answer_of; read = read_answers; together = together_answers }
