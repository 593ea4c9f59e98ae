use Rattle.rule_text.proofs.ReadingLemmas.{meaning_law, fault_law}
use Rattle.rule_text.proofs.laws.Goals as goal

pub returns : goal.returns
returns c = record { meaning = meaning_law; fault = fault_law }
