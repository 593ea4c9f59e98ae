use Rattle.match_laws.proofs.Images.{carries}
use Rattle.match_laws.proofs.Read.{reads}
use Rattle.match_laws.proofs.correspondences.Goals as goal

pub returns-clause-web_map : goal.returns-clause-web_map
returns-clause-web_map c = λ p f l r h. carries p f l r h

pub returns-clause-read : goal.returns-clause-read
returns-clause-read c = λ p f l r m h. reads p f l r m h
