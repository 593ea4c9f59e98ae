use Rattle.netlist_run.proofs.SameMeaning.{same_meaning}
use Rattle.netlist_run.proofs.laws.netlist_laws.Goals as goal

pub returns-clause-same : goal.returns-clause-same
returns-clause-same c = same_meaning

pub returns-clause-kept : goal.returns-clause-kept
returns-clause-kept c = λ limit s text m n whole plain last made quiet means.
    same_meaning limit text m.text n (c.kept_laws.ensures.start s text m whole plain made quiet) (c.kept_laws.ensures.cards s text m whole plain made quiet) last means
