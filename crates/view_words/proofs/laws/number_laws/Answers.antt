use Rattle.view_words.proofs.StepLaws.{numbers}
use Rattle.view_words.proofs.laws.number_laws.Goals as goal

pub returns : goal.returns
returns c = numbers
