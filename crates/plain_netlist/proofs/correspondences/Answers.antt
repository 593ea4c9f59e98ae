use Rattle.plain_netlist.specs.Flats.{expanded}
use Rattle.plain_netlist.specs.FlatLaws.{Passes}
use Rattle.plain_netlist.proofs.Alike as lemma
use Rattle.plain_netlist.proofs.correspondences.Goals as goal

pub returns-clause-same : goal.returns-clause-same
returns-clause-same c = lemma.same

pub returns-clause-reversed : goal.returns-clause-reversed
returns-clause-reversed c = λ l r t u device net h. lemma.reversed (expanded l t) (expanded r u) (Passes device) (Passes net) h

pub returns-clause-composed : goal.returns-clause-composed
returns-clause-composed c = λ l m r t u v device net further on_net h k.
    lemma.through (expanded l t) (expanded m u) (expanded r v) (Passes device) (Passes net) (Passes further) (Passes on_net) h k

pub returns-clause-one_image : goal.returns-clause-one_image
returns-clause-one_image c = λ l r t u device net h. (lemma.one_image l r t u (Passes device) (Passes net) h, lemma.one_origin l r t u (Passes device) (Passes net) h)

pub returns-clause-terminals : goal.returns-clause-terminals
returns-clause-terminals c = λ l r t u device net h. lemma.terminal_image l r t u (Passes device) (Passes net) h
