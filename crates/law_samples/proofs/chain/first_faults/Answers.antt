use Rattle.law_samples.proofs.chain.Faults as lemma
use Rattle.law_samples.proofs.chain.first_faults.Goals as goal

pub returns : goal.returns
returns c = lemma.first_faults
