-- The names of circuits that go, at the end of both lists.
use Rattle.std.proofs.Common.{◌≡◌, ◌<◌, List, [], ◌∷◌, ◌++◌, length, map, Bool, ℕ, refl, sym, ap, ◌∙◌, arith}
use Rattle.std.proofs.lemmas.List.{append-nil}
use Rattle.net_model.specs.Rows.{plain_circuit}
use Rattle.net_model.specs.declared.netlist.Circuit.{Circuit}
use Rattle.pair_turns.specs.Alone.{gone_names}

none_gone : (marks : List Bool) → gone_names marks [] ≡ []
none_gone [] = refl
none_gone (m ∷ ms) = refl

pub all_gone : (names : List (List ℕ)) (marks : List Bool) (rest : List Circuit) (whole : List (List ℕ)) → length rest < 1 → names ++ gone_names marks (map plain_circuit rest) ≡ whole → names ≡ whole
all_gone names marks [] whole h e = sym (append-nil names) ∙ ap (λ (gs : List (List ℕ)). names ++ gs) (sym (none_gone marks)) ∙ e
all_gone names marks (c ∷ cs) whole h e = absurd (omega (arith, h))
