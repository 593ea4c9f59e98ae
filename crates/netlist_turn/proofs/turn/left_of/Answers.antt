use Rattle.std.proofs.Common.{◌≡◌, ◌∙◌, ap, subst, IfOk, List, ℕ, Bor}
use Rattle.spice_cards.specs.Seen.{words_seen}
use Rattle.netlist_turn.specs.Made.{is_left}
use Rattle.netlist_turn.proofs.turn.left_of.Goals as goal

pub returns : goal.returns
returns c =
    subst (λ (ws : List (List ℕ)). IfOk c.is_left.result (λ b. b ≡ is_left c.args.settings.now ws))
    (ap (λ (xs : List (Bor (List ℕ))). words_seen xs) c.deref.ensures.value ∙ c.in_ok-_rest.ensures.words) c.is_left.ensures
