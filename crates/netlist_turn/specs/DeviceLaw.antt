-- What is written of a card of a listed name: one that is read as the device that the list says.
use Rattle.std.specs.Prelude.{◌≡◌, ℕ, Bool, List, [], ◌∷◌, ◌++◌, Option}
use Rattle.std.specs.List.{All}
use Rattle.plain_netlist.specs.declared.kinds.DeviceKind.{DeviceKind}
use Rattle.spice_cards.specs.Parts.{Param}
use Rattle.spice_cards.specs.Tokens.{tokens_of}
use Rattle.spice_rows.specs.Kinds.{letter}
use Rattle.spice_rows.specs.Names.{names_of}
use Rattle.spice_rows.specs.Rows.{begin, card_row, device_row}
use Rattle.spice_rows.specs.Sizes.{Limits}
use Rattle.netlist_turn.specs.CardLaw.{IsPair, IsWord, kept_words, params_text, turned_params}
use Rattle.netlist_turn.specs.CardLaw.{words_text}
use Rattle.netlist_turn.specs.Devices.{Device, device_params, device_words}
use Rattle.netlist_turn.specs.Listed.{device_made, prefix}
use Rattle.netlist_turn.specs.Made.{Made}
use Rattle.netlist_turn.specs.declared.rows.Row.{Row}
use Rattle.netlist_turn.specs.declared.rows.Row.TheVariants.{Listed}
use Rattle.netlist_turn.specs.declared.settings.Settings.{Settings}

abbrev pub DeviceTextLaw : Type 0
DeviceTextLaw = (s : Settings) (row : Row) (kind : DeviceKind) (d : Device) (m : Made) (line : ℕ)
    (first : List ℕ) (words : List (List ℕ)) (ps : List Param)
    → (device_made s row kind d m line first words ps).text
    ≡ m.text
    ++ (words_text ((prefix row kind ++ first) ∷ device_words d (kept_words row words))
    ++ (params_text (turned_params s Listed (device_params kind d.keys ps)) ++ 0x0A ∷ []))

-- a line whose first word begins with a kind's letter is read as the device of the kind that its
-- words and parameters say
abbrev pub DeviceReadLaw : Type 0
DeviceReadLaw = (limits : Option Limits) (line : ℕ) (is_open : Bool) (kind : DeviceKind)
    (first : List ℕ) (ws : List (List ℕ)) (ps : List Param)
    → begin first ≡ letter kind → IsWord first → All IsWord ws → All IsPair ps
    → card_row limits line is_open (tokens_of (words_text (first ∷ ws) ++ params_text ps))
    ≡ device_row limits kind line (names_of ws) ps
