use Rattle.std.proofs.Common.{◌≡◌, refl}
use Rattle.plain_netlist.specs.Netlist.{Slot}
use Rattle.plain_netlist.specs.FlatLaws.{Passes}
use Rattle.plain_netlist.proofs.Rows as lemma
use Rattle.plain_netlist.proofs.device_rows.Goals as goal

pub returns-clause-kinds : goal.returns-clause-kinds
returns-clause-kinds c = lemma.same_kind

pub returns-clause-same : goal.returns-clause-same
returns-clause-same c = λ r. lemma.rows_same (λ (a b : Slot). a ≡ b) (λ n. refl) r

pub returns-clause-turned : goal.returns-clause-turned
returns-clause-turned c = λ net r s h. lemma.rows_reversed (Passes net) r s h

pub returns-clause-through : goal.returns-clause-through
returns-clause-through c = λ net on_net r s t h g. lemma.rows_through (Passes net) (Passes on_net) r s t h g

pub returns-clause-terminal : goal.returns-clause-terminal
returns-clause-terminal c = λ net r s h n i. lemma.rows_terminal (Passes net) r s h n i

pub returns-clause-terminals : goal.returns-clause-terminals
returns-clause-terminals c = λ r n. ((λ h. lemma.terminal_at r n h), (λ h. lemma.at_terminal h.0 r n h.1))

pub returns-clause-formed : goal.returns-clause-formed
returns-clause-formed c = λ net r s f g k l z on. lemma.by_terminals (Passes net) r s f g k l z on

pub returns-clause-carried : goal.returns-clause-carried
returns-clause-carried c = λ f r. lemma.row_carried f r

pub returns-clause-ordered : goal.returns-clause-ordered
returns-clause-ordered c = λ net r s h. lemma.over_alike (Passes net) r s h
