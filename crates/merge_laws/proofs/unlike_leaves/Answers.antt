use Rattle.merge_laws.proofs.Leaves as lemma
use Rattle.merge_laws.proofs.unlike_leaves.Goals as goal

pub returns : goal.returns
returns c = lemma.unlike_leaf
