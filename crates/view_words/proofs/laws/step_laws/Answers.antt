use Rattle.view_words.proofs.StepLaws.{again, readable}
use Rattle.view_words.proofs.laws.step_laws.Goals as goal

pub returns : goal.returns
returns c = record { again = again; readable = readable }
