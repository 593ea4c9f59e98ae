use Rattle.law_samples.proofs.kinds.Answering as lemma
use Rattle.law_samples.proofs.kinds.named_kinds.Goals as goal

pub returns : goal.returns
returns c = record { matched = lemma.named_match; other = lemma.other_pin; taken = lemma.taken_apart }
