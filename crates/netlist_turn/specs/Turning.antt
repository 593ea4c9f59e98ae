-- What becomes of each card of a text, one after another, or the first that can't be turned.
use Rattle.std.specs.Prelude.{ℕ, Bool, true, false, ◌&&◌, ◌||◌, not, List, [], ◌∷◌}
use Rattle.std.specs.Prelude.{Option, Some, None, Result, Ok, Err, slice_index_or}
use Rattle.std.specs.Prelude.{if◌then◌else◌}
use Rattle.spice_cards.specs.Tokens.{Token, Word, Equals}
use Rattle.spice_cards.specs.Parts.{Param, words_of, behind_words, params_of}
use Rattle.spice_cards.specs.Cards.{Card, cards_of, early_more}
use Rattle.plain_netlist.specs.declared.kinds.DeviceKind.{DeviceKind}
use Rattle.netlist_turn.specs.CardLaw.{kept_words}
use Rattle.netlist_turn.specs.Devices.{Device, device_params}
use Rattle.netlist_turn.specs.DevicesSeen.{device_seen}
use Rattle.netlist_turn.specs.Listed.{device_for, device_made, has_nets, has_odd_count, is_of_other}
use Rattle.netlist_turn.specs.Listed.{may_be_listed, model_of}
use Rattle.netlist_turn.specs.Marked.{has_marks, marks_told, ordered}
use Rattle.netlist_turn.specs.Pins.{by_place, has_pins}
use Rattle.netlist_turn.specs.Words.{changes_sizes, is_number, row_of}
use Rattle.netlist_turn.specs.Made.{Made, telling, card_made, has_shadow, has_stuck, is_left}
use Rattle.netlist_turn.specs.declared.rows.Row.{Row}
use Rattle.netlist_turn.specs.declared.rows.Row.TheVariants.{Device as DeviceRow, Call, Opening, Ending, Plain}
use Rattle.netlist_turn.specs.declared.rows.Row.TheVariants.{Passed, Capacitor, Resistor, Unknown, Listed}
use Rattle.netlist_turn.specs.declared.rows.Row.TheVariants.{Diode, Foreign}
use Rattle.netlist_turn.specs.declared.made.Kind.TheVariants.{Card as CardKind, Pins as PinsKind}
use Rattle.netlist_turn.specs.declared.made.Where.{Where}
use Rattle.netlist_turn.specs.declared.made.Where.TheVariants.{Outside, Kept, Left}
use Rattle.netlist_turn.specs.declared.turn.Fate.{Fate}
use Rattle.netlist_turn.specs.declared.turn.Fate.TheVariants.{Keeps, Drops, Refuses}
use Rattle.netlist_turn.specs.declared.fault.TurnFault.{TurnFault}
use Rattle.netlist_turn.specs.declared.fault.TurnFault.TheVariants.{UnknownCard, BadForm, Shadowed, EarlyMore, Resized}
use Rattle.netlist_turn.specs.declared.fault.TurnFault.TheVariants.{Unscaled, DeviceNets, OddCount}
use Rattle.netlist_turn.specs.declared.fault.TurnFault.TheVariants.{OtherPins}
use Rattle.netlist_turn.specs.declared.device.Device.{Device as ListedDevice}
use Rattle.netlist_turn.specs.declared.settings.Settings.{Settings}

-- a card stands in a circuit that is left out, or outside all where only circuits are kept
abbrev pub is_out : Settings → Where → Bool
is_out s Left = true
is_out s Outside = not s.all
is_out s Kept = false

abbrev pub drops_if : Bool → Fate → Fate
drops_if drops fate = if drops then Drops else fate

-- a circuit begins outside all others
abbrev pub open_fate : Where → Bool → Fate
open_fate Outside left = drops_if left Keeps
open_fate at left = Refuses

abbrev pub end_fate : Where → Fate
end_fate Left = Drops
end_fate at = Keeps

-- what becomes of a card, where a circuit of its name would be left out or not
abbrev pub fate_of : Settings → Where → Row → Bool → Fate
fate_of s at DeviceRow left = drops_if (is_out s at) Keeps
fate_of s at Call left = drops_if (is_out s at) Keeps
fate_of s at Opening left = open_fate at left
fate_of s at Ending left = end_fate at
fate_of s at Plain left = Keeps
fate_of s at Passed left = Drops
fate_of s at Capacitor left = drops_if (is_out s at || s.capacitors) Refuses
fate_of s at Resistor left = drops_if (is_out s at || s.resistors) Keeps
fate_of s at Diode left = drops_if (is_out s at) Keeps
fate_of s at Foreign left = drops_if (is_out s at) Refuses
fate_of s at Unknown left = drops_if (is_out s at) Refuses
fate_of s at Listed left = Refuses

-- where the cards behind a card stand
abbrev pub opened : Bool → Where
opened left = if left then Left else Kept

abbrev pub after : Where → Row → Bool → Where
after at Opening left = opened left
after at Ending left = Outside
after at row left = at

-- only the card that begins a circuit says whether one is left out
abbrev pub left_at : Row → Bool → Bool
left_at Opening left = left
left_at row left = false

abbrev pub moved : Where → Made → Made
moved at m = record m { at = at }

abbrev pub is_opening : Row → Bool
is_opening Opening = true
is_opening row = false

-- a resistor's third word is a number, so that it may be its bulk or its value
abbrev pub is_unclear : Row → List (List ℕ) → Bool
is_unclear Resistor words = is_number (slice_index_or words 2 [])
is_unclear row words = false

-- a card that is kept, by its words and parameters
abbrev pub kept_card : Settings → Row → Made → ℕ → List ℕ → List (List ℕ) → Option (List Param)
    → Result Made TurnFault
kept_card s row m line first words None = Err (BadForm line)
kept_card s row m line first words (Some ps) =
    if is_opening row && has_shadow s ps then Err (Shadowed line)
    else if is_unclear row words then Err (UnknownCard line)
    else if has_stuck s row ps then Err (Unscaled line)
    else Ok (card_made s row m line first words ps)

abbrev pub by_fate : Settings → Row → Made → ℕ → List ℕ → List Token → Fate → Result Made TurnFault
by_fate s row m line first behind Keeps =
    kept_card s row m line first (words_of behind) (params_of (behind_words behind))
by_fate s row m line first behind Drops =
    if changes_sizes first behind then Err (Resized line)
    else Ok (telling m line CardKind first)
by_fate s row m line first behind Refuses = Err (UnknownCard line)

-- what one card more makes, which calls no listed name, of this first word and the tokens behind it
unfoldable pub plain_taken : Settings → Made → ℕ → List ℕ → List Token → Result Made TurnFault
plain_taken s m line first ts =
    by_fate s (row_of first) (moved (after m.at (row_of first) (is_left s (words_of ts))) m) line
    first ts (fate_of s m.at (row_of first) (is_left s (words_of ts)))

-- a card of the kind, whose sizes can be written
abbrev pub device_said : Settings → Row → DeviceKind → Device → Made → ℕ → List ℕ → List (List ℕ)
    → List Param → Result Made TurnFault
device_said s row kind d m line first words ps =
    if has_stuck s Listed (device_params kind d.keys ps) then Err (Unscaled line)
    else Ok (device_made s row kind d m line first words ps)

-- with as many nets as the list says, and one number of devices
abbrev pub device_netted : Settings → Row → DeviceKind → Device → Made → ℕ → List ℕ
    → List (List ℕ) → List Param → Result Made TurnFault
device_netted s row kind d m line first words ps =
    if not (has_nets row d (kept_words row words)) then Err (DeviceNets line)
    else if has_odd_count s d.keys ps then Err (OddCount line)
    else device_said s row kind d m line first words ps

-- a card of a listed name: left out, or a card of the kind; one that is no call has its letter
abbrev pub device_by : Settings → Row → Device → Made → ℕ → List ℕ → List (List ℕ) → List Param
    → Option DeviceKind → Result Made TurnFault
device_by s row d m line first words ps None = Ok (telling m line CardKind first)
device_by s row d m line first words ps (Some kind) =
    if is_of_other row kind first then Err (UnknownCard line)
    else device_netted s row kind d m line first words ps

abbrev pub device_card : Settings → Row → Device → Made → ℕ → List ℕ → List (List ℕ)
    → Option (List Param) → Result Made TurnFault
device_card s row d m line first words None = Err (BadForm line)
device_card s row d m line first words (Some ps) = device_by s row d m line first words ps d.kind

abbrev pub device_taken : Settings → Row → Device → Made → ℕ → List ℕ → List Token
    → Result Made TurnFault
device_taken s row d m line first ts =
    device_card s row d m line first (words_of ts) (params_of (behind_words ts))

abbrev pub is_dropped : Fate → Bool
is_dropped Drops = true
is_dropped fate = false

-- a card that isn't left out, and that may be of a listed name
abbrev pub is_sought : Settings → Where → Row → Bool
is_sought s at row = may_be_listed row && not (is_dropped (fate_of s at row false))

-- what it is listed as
abbrev pub device_at : Settings → Where → Row → List Token → Option ListedDevice
device_at s at row ts =
    if is_sought s at row then device_for s (model_of row (kept_words row (words_of ts))) else None

abbrev pub by_device : Settings → Row → Made → ℕ → List ℕ → List Token → Option ListedDevice
    → Result Made TurnFault
by_device s row m line first ts None = plain_taken s m line first ts
by_device s row m line first ts (Some d) = device_taken s row (device_seen d) m line first ts

-- what one card more makes, of this row and first word, and the tokens behind it
abbrev pub row_taken : Settings → Row → Made → ℕ → List ℕ → List Token → Result Made TurnFault
row_taken s row m line first ts = by_device s row m line first ts (device_at s m.at row ts)

-- `$` marks something on a card that isn't left out, and is no call
abbrev pub is_marked : Settings → Where → Row → List Token → Bool
is_marked s at Call ts = false
is_marked s at row ts = is_sought s at row && has_marks ts

-- a call that isn't left out names pins
abbrev pub is_by_pins : Settings → Where → Row → List Token → Bool
is_by_pins s at Call ts = is_sought s at Call && has_pins (words_of ts)
is_by_pins s at row ts = false

-- it is a call by place, which is told
abbrev pub pins_taken : Settings → Row → Made → ℕ → List ℕ → Option (List Token)
    → Result Made TurnFault
pins_taken s row m line first None = Err (OtherPins line)
pins_taken s row m line first (Some ts) =
    row_taken s row (telling m line PinsKind first) line first ts

-- what one card more makes, in the order of other cards
abbrev pub ordered_taken : Settings → Row → Made → ℕ → List ℕ → List Token → Result Made TurnFault
ordered_taken s row m line first ts =
    row_taken s row (marks_told row m line first ts) line first (ordered row ts)

abbrev pub first_taken : Settings → Row → Made → ℕ → List ℕ → List Token → Result Made TurnFault
first_taken s row m line first ts =
    if is_marked s m.at row ts then ordered_taken s row m line first ts
    else if is_by_pins s m.at row ts then pins_taken s row m line first (by_place s ts)
    else row_taken s row m line first ts

-- what one card more makes: it begins with a word
abbrev pub card_taken : Settings → Made → ℕ → List Token → Result Made TurnFault
card_taken s m line [] = Err (UnknownCard line)
card_taken s m line (Equals ∷ ts) = Err (UnknownCard line)
card_taken s m line (Word first ∷ ts) = first_taken s (row_of first) m line first ts

abbrev pub and_then : Result Made TurnFault → (Made → Result Made TurnFault) → Result Made TurnFault
and_then (Ok m) rest = rest m
and_then (Err e) rest = Err e

abbrev pub turning : Settings → Made → List Card → Result Made TurnFault
turning s m [] = Ok m
turning s m (c ∷ cs) = and_then (card_taken s m c.line c.tokens) (λ next. turning s next cs)

abbrev pub nothing : Made
nothing = record { text = []; lines = []; told = []; at = Outside }

abbrev pub early_or : Option ℕ → Result Made TurnFault → Result Made TurnFault
early_or None rest = rest
early_or (Some line) rest = Err (EarlyMore line)

-- what is made of a text
abbrev pub turned : Settings → List ℕ → Result Made TurnFault
turned s bytes = early_or (early_more bytes) (turning s nothing (cards_of bytes))
