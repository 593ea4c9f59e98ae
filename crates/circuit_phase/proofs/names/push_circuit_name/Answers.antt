use Rattle.std.proofs.Common.{◌∙◌, ◌++◌, ℕ, List, [], ◌∷◌, ap}
use Rattle.std.specs.Prelude.{if◌then◌else◌}
use Rattle.flat_layout.specs.Names.{circuit_ending, circuit_needs}
use Rattle.text_table.specs.Texts.{with_text}
use Rattle.circuit_phase.proofs.names.push_circuit_name.Goals as goal

pub returns-clause-names : goal.returns-clause-names
returns-clause-names c =
    c.in_ok-push.ensures.items
    ∙ ap (λ (s : List ℕ). c.args.names.now.items ++ s ∷ []) (c.in_ok-circuit_name.ensures ∙ ap (λ (s : List ℕ). if circuit_needs c.args.earlier.now s then s ++ circuit_ending c.args.number else s) c.in_ok-name.ensures)

pub returns-clause-earlier : goal.returns-clause-earlier
returns-clause-earlier c = c.in_ok-number.ensures.texts ∙ ap (with_text c.args.earlier.now) (c.bytes.ensures.same ∙ c.in_ok-name.ensures)
