-- Calls that name the pins of the called circuit: `X.. name $PINS pin=net ..`.
use Rattle.std.specs.Prelude.{ℕ, ◌-◌, ◌==◌, ◌&&◌, Bool, List, [], ◌∷◌, ◌++◌, length, map, take}
use Rattle.std.specs.Prelude.{slice_get, Option, Some, None, codes, if◌then◌else◌}
use Rattle.std.specs.Global.{Vec}
use Rattle.std.specs.List.{list_all, list_any}
use Rattle.net_names.specs.Folding.{folded_bytes}
use Rattle.text_table.specs.Texts.{place_of}
use Rattle.spice_cards.specs.Parts.{Param, behind_words, params_of, words_of}
use Rattle.spice_cards.specs.Tokens.{Token, Word}
use Rattle.spice_rows.specs.Names.{is_text}
use Rattle.netlist_turn.specs.CardLaw.{kept_words}
use Rattle.netlist_turn.specs.Devices.{called_name}
use Rattle.netlist_turn.specs.Words.{is_pins_word}
use Rattle.netlist_turn.specs.declared.rows.Row.TheVariants.{Call}
use Rattle.netlist_turn.specs.declared.settings.Settings.{Settings}

-- the last word is `$PINS`
abbrev pub has_pins : List (List ℕ) → Bool
has_pins words = is_pins_word (called_name words)

-- the words before it
abbrev pub before_last : List (List ℕ) → List (List ℕ)
before_last words = take (length words - 1) words

-- a folded pin is on a net, and on which
abbrev pub has_net : List Param → List ℕ → Bool
has_net ps pin = list_any (λ p. is_text pin p.key) ps

abbrev pub net_of : List Param → List ℕ → List ℕ
net_of [] pin = []
net_of (p ∷ ps) pin = if is_text pin p.key then p.value else net_of ps pin

-- the nets of the pins, in their order
abbrev pub nets_of : List Param → List (List ℕ) → List Token
nets_of ps [] = []
nets_of ps (pin ∷ pins) = Word (net_of ps pin) ∷ nets_of ps pins

-- and the name behind them, where each pin is on a net, and there are no more
abbrev pub nets_for : List Param → List ℕ → List (List ℕ) → Option (List Token)
nets_for ps name pins =
    if length ps == length pins && list_all (has_net ps) pins
    then Some (nets_of ps pins ++ Word name ∷ [])
    else None

-- the pins of a circuit
abbrev pub pins_of : Settings → List ℕ → Option (Vec (Vec ℕ))
pins_of s name = slice_get s.pins.items (place_of s.pinned (folded_bytes name))

abbrev pub by_circuit : List Param → List ℕ → Option (Vec (Vec ℕ)) → Option (List Token)
by_circuit ps name None = None
by_circuit ps name (Some pins) = nets_for ps name (map (λ p. p.items) pins.items)

-- one word alone, the name, stands before `$PINS`
abbrev pub by_name : Settings → List Param → List (List ℕ) → Option (List Token)
by_name s ps (name ∷ []) = by_circuit ps name (pins_of s name)
by_name s ps words = None

abbrev pub by_params : Settings → List (List ℕ) → Option (List Param) → Option (List Token)
by_params s words None = None
by_params s words (Some ps) = by_name s ps (kept_words Call (before_last words))

-- the tokens behind the first word of the same call by place; none where the pins aren't the
-- circuit's
abbrev pub by_place : Settings → List Token → Option (List Token)
by_place s ts = by_params s (words_of ts) (params_of (behind_words ts))
