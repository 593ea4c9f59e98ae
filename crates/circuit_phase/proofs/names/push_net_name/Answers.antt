use Rattle.std.proofs.Common.{◌∙◌, ◌++◌, ℕ, List, [], ◌∷◌, ap}
use Rattle.std.specs.Prelude.{if◌then◌else◌}
use Rattle.flat_layout.specs.Names.{net_ending, net_needs}
use Rattle.text_table.specs.Texts.{with_text}
use Rattle.circuit_phase.proofs.names.push_net_name.Goals as goal

pub returns-clause-names : goal.returns-clause-names
returns-clause-names c =
    c.in_ok-push.ensures.items
    ∙ ap (λ (s : List ℕ). c.args.names.now.items ++ s ∷ []) (c.in_ok-net_name.ensures ∙ ap (λ (s : List ℕ). if net_needs c.args.earlier.now s then s ++ net_ending c.args.number else s) (c.deref.ensures.value ∙ c.in_ok-text.ensures))

pub returns-clause-earlier : goal.returns-clause-earlier
returns-clause-earlier c = c.in_ok-number.ensures.texts ∙ ap (with_text c.args.earlier.now) (c.deref-2.ensures.value ∙ c.in_ok-text.ensures)
