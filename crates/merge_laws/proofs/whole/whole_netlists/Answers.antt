use Rattle.merge_laws.proofs.NoneLost as lemma
use Rattle.merge_laws.proofs.whole.whole_netlists.Goals as goal

pub returns : goal.returns
returns c = record { whole = lemma.merged_whole; once = lemma.merged_once }
