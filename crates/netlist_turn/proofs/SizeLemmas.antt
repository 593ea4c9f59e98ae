-- What a value makes, step by step, and whether it can't be turned.
use Rattle.std.proofs.Common.{◌≡◌, ℕ, Bool, List, [], ◌∷◌, Option, ap, ◌∙◌}
use Rattle.std.specs.Global.{Vec}
use Rattle.spice_cards.specs.Parts.{Param}
use Rattle.netlist_turn.specs.Scale.{is_unscaled}
use Rattle.netlist_turn.specs.Words.{unquoted}
use Rattle.netlist_turn.specs.Made.{Made, by_factor, factor_at, is_stuck, meant, naming, unquoting, value_for, value_made, writing}
use Rattle.netlist_turn.specs.declared.rows.Row.{Row}
use Rattle.netlist_turn.specs.declared.scale.Factor.{Factor}
use Rattle.netlist_turn.specs.declared.settings.Settings.{Settings}

pub value_is : (s : Settings) (row : Row) (m : Made) (line : ℕ) (p : Param) (plain text : List ℕ) (found : Option (Vec ℕ)) (factor : Option Factor) (a b c : Made)
    → plain ≡ unquoted p.value → a ≡ unquoting m line p.value → found ≡ value_for s plain → b ≡ naming a line plain found → factor ≡ factor_at s row p.key → text ≡ meant plain found
    → c ≡ by_factor b line p.key text factor → writing c (0x20 ∷ []) ≡ value_made s row m line p
value_is s row m line p plain text found factor a b c is_plain is_a is_found is_b is_factor is_text is_c =
    let start : Made = unquoting m line p.value in
    let bare : List ℕ = unquoted p.value in
    let value : Option (Vec ℕ) = value_for s (unquoted p.value) in
    let there : found ≡ value_for s (unquoted p.value) = is_found ∙ ap (λ (x : List ℕ). value_for s x) is_plain in
    let named : b ≡ naming (unquoting m line p.value) line (unquoted p.value) (value_for s (unquoted p.value)) =
    is_b ∙ ap (λ (x : Made). naming x line plain found) is_a ∙ ap (λ (x : List ℕ). naming start line x found) is_plain ∙ ap (λ (x : Option (Vec ℕ)). naming start line bare x) there in
    let said : text ≡ meant (unquoted p.value) (value_for s (unquoted p.value)) = is_text ∙ ap (λ (x : List ℕ). meant x found) is_plain ∙ ap (λ (x : Option (Vec ℕ)). meant bare x) there in
    ap (λ (x : Made). writing x (0x20 ∷ []))
    (is_c ∙ ap (λ (x : Made). by_factor x line p.key text factor) named
    ∙ ap (λ (x : List ℕ). by_factor (naming start line bare value) line p.key x factor) said
    ∙ ap (λ (x : Option Factor). by_factor (naming start line bare value) line p.key (meant bare value) x) is_factor)

pub stuck_is : (s : Settings) (row : Row) (p : Param) (b : Bool) → b ≡ is_unscaled (factor_at s row p.key) (meant (unquoted p.value) (value_for s (unquoted p.value))) → b ≡ is_stuck s row p
unfolding is_stuck
stuck_is s row p b e = e
