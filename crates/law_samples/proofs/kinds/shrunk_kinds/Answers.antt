use Rattle.law_samples.proofs.kinds.Shrinking as lemma
use Rattle.law_samples.proofs.kinds.shrunk_kinds.Goals as goal

pub returns : goal.returns
returns c = record { shrunk = lemma.shrunk_alone; devices = lemma.shrunk_devices }
