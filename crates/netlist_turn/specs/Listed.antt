-- Cards of listed names: which they are, and the cards that are written of them.
use Rattle.std.specs.Prelude.{ℕ, ◌+◌, ◌==◌, ◌&&◌, ◌||◌, not, nat_lt, Bool, true, false}
use Rattle.std.specs.Prelude.{List, [], ◌∷◌, length, slice_get, slice_index_or, codes}
use Rattle.std.specs.Prelude.{Option, Some, None, if◌then◌else◌}
use Rattle.std.specs.List.{count_by, list_any}
use Rattle.std.specs.Str.{bytes_eq}
use Rattle.net_names.specs.Folding.{folded_bytes}
use Rattle.text_table.specs.Texts.{place_of}
use Rattle.plain_netlist.specs.declared.kinds.DeviceKind.{DeviceKind}
use Rattle.spice_cards.specs.Parts.{Param}
use Rattle.spice_rows.specs.Kinds.{letter}
use Rattle.spice_rows.specs.Rows.{begin}
use Rattle.netlist_turn.specs.CardLaw.{kept_words}
use Rattle.netlist_turn.specs.Devices.{Device, called_name, device_params, device_words, is_written}
use Rattle.netlist_turn.specs.Devices.{key_of, net_count, stands_for}
use Rattle.netlist_turn.specs.Made.{Made, card_made, meant, telling, value_for, writing}
use Rattle.netlist_turn.specs.Words.{is_number, left_out, unquoted}
use Rattle.netlist_turn.specs.declared.device.Device.{Device as ListedDevice}
use Rattle.netlist_turn.specs.declared.made.Kind.{Kind}
use Rattle.netlist_turn.specs.declared.made.Kind.TheVariants.{Number, Parameter}
use Rattle.netlist_turn.specs.declared.made.Kind.TheVariants.{Device as DeviceKindTold}
use Rattle.netlist_turn.specs.declared.rows.Row.{Row}
use Rattle.netlist_turn.specs.declared.rows.Row.TheVariants.{Call, Capacitor, Device as Transistor}
use Rattle.netlist_turn.specs.declared.rows.Row.TheVariants.{Diode, Foreign, Listed, Resistor}
use Rattle.netlist_turn.specs.declared.settings.Settings.{Settings}

-- what a name is listed as
abbrev pub device_for : Settings → List ℕ → Option ListedDevice
device_for s name = slice_get s.devices.items (place_of s.listed (folded_bytes name))

-- a card that may be of a listed name
abbrev pub may_be_listed : Row → Bool
may_be_listed Call = true
may_be_listed Transistor = true
may_be_listed Resistor = true
may_be_listed Capacitor = true
may_be_listed Diode = true
may_be_listed Foreign = true
may_be_listed row = false

-- the name: a call's last word, and of another card the last behind two nets
abbrev pub model_of : Row → List (List ℕ) → List ℕ
model_of Call words = called_name words
model_of row words = if nat_lt 2 (length words) then called_name words else []

-- a card that is no call has the letter of another kind
abbrev pub is_of_other : Row → DeviceKind → List ℕ → Bool
is_of_other Call kind first = false
is_of_other row kind first = not (begin first == letter kind)

-- a resistor's words have a number between its nets and its name
abbrev pub has_number : Row → Device → List (List ℕ) → Bool
has_number Resistor d words =
    length words == net_count d + 2
    && is_number (slice_index_or words (net_count d) [])
has_number row d words = false

-- the words are as many nets as the list says, and the name
abbrev pub has_nets : Row → Device → List (List ℕ) → Bool
has_nets row d words = length words == net_count d + 1 || has_number row d words

-- ---- counts

-- the text that a value stands for
abbrev pub text_for : Settings → Param → List ℕ
text_for s p = meant (unquoted p.value) (value_for s (unquoted p.value))

-- how many devices a call says, one by itself
abbrev pub count_text : Settings → List Param → List Param → List ℕ
count_text s keys [] = codes "1"
count_text s keys (p ∷ ps) =
    if stands_for (codes "M") keys p then text_for s p else count_text s keys ps

-- a count that has to be 1 or as many, and is neither
unfoldable pub is_odd : Settings → List Param → List ℕ → Param → Bool
is_odd s keys count p =
    stands_for (codes "CHECK") keys p && not (bytes_eq (text_for s p) (codes "1"))
    && not (bytes_eq (text_for s p) count)

abbrev pub has_odd : Settings → List Param → List ℕ → List Param → Bool
has_odd s keys count ps = list_any (is_odd s keys count) ps

-- more than one number of devices
abbrev pub is_manifold : List Param → List Param → Bool
is_manifold keys ps = nat_lt 1 (count_by (stands_for (codes "M") keys) ps)

abbrev pub has_odd_count : Settings → List Param → List Param → Bool
has_odd_count s keys ps = is_manifold keys ps || has_odd s keys (count_text s keys ps) ps

-- ---- what is written, and told

-- a word of a card that isn't one of its nets or its name
abbrev pub dropped : Made → ℕ → List ℕ → Option Kind → Made
dropped m line w None = m
dropped m line w (Some kind) = telling m line kind w

abbrev pub words_told : Row → Made → ℕ → List (List ℕ) → Made
words_told row m line [] = m
words_told row m line (w ∷ ws) =
    words_told row (dropped m line w (left_out row w ws)) line ws

-- a number between its nets and its name
abbrev pub number_told : Row → Device → Made → ℕ → List (List ℕ) → Made
number_told row d m line words =
    if has_number row d words
    then telling m line Number (slice_index_or words (net_count d) [])
    else m

-- a parameter that stands for no key of the card
abbrev pub param_told : DeviceKind → List Param → Made → ℕ → Param → Made
param_told kind keys m line p =
    if is_written kind (key_of keys p.key) then m else telling m line Parameter p.key

abbrev pub params_told : DeviceKind → List Param → Made → ℕ → List Param → Made
params_told kind keys m line [] = m
params_told kind keys m line (p ∷ ps) =
    params_told kind keys (param_told kind keys m line p) line ps

-- the letter that comes before a call's first word
abbrev pub prefix : Row → DeviceKind → List ℕ
prefix Call kind = letter kind ∷ []
prefix row kind = []

-- all that is told of a card of a listed name, and the letter that begins the card that is made
abbrev pub device_told : Row → DeviceKind → Device → Made → ℕ → List (List ℕ) → List Param → Made
device_told row kind d m line words ps =
    writing (telling
    (params_told kind d.keys (number_told row d (words_told row m line words) line
    (kept_words row words)) line ps)
    line DeviceKindTold (called_name (kept_words row words))) (prefix row kind)

-- the card: its nets, class and parameters are those of the given one, by the list
abbrev pub device_made : Settings → Row → DeviceKind → Device → Made → ℕ → List ℕ → List (List ℕ)
    → List Param → Made
device_made s row kind d m line first words ps =
    card_made s Listed (device_told row kind d m line words ps) line first
    (device_words d (kept_words row words)) (device_params kind d.keys ps)
