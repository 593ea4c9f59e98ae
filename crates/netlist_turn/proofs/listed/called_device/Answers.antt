use Rattle.std.proofs.Common.{◌≡◌, ◌∙◌, ap, subst, IfOk, List, ℕ, Bor}
use Rattle.std.specs.Option.{option_copied}
use Rattle.spice_cards.specs.Seen.{words_seen}
use Rattle.netlist_turn.specs.CardLaw.{kept_words}
use Rattle.netlist_turn.specs.Listed.{device_for, model_of}
use Rattle.netlist_turn.proofs.listed.called_device.Goals as goal

pub returns : goal.returns
returns c =
    subst (λ (name : List ℕ). IfOk c.device_for.result (λ d. option_copied d ≡ device_for c.args.settings.now name))
    (c.model_of.ensures
    ∙ ap (λ (ws : List (List ℕ)). model_of c.args.row ws)
    (ap (λ (xs : List (Bor (List ℕ))). words_seen xs) c.deref-2.ensures.value ∙ c.in_ok-kept.ensures
    ∙ ap (λ (ws : List (List ℕ)). kept_words c.args.row ws) (ap (λ (xs : List (Bor (List ℕ))). words_seen xs) c.deref.ensures.value ∙ c.in_ok-_rest.ensures.words)))
    c.device_for.ensures
