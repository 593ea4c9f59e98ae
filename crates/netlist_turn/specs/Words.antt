-- The words of cards as netlisters write them: which row a first word has, which words say nothing,
-- which parameters are kept.
use Rattle.std.specs.Prelude.{ℕ, ◌-◌, Bool, true, false, ◌==◌, ◌&&◌, ◌||◌, not, nat_lt, List, [], ◌∷◌}
use Rattle.std.specs.Prelude.{◌^◌, length, slice_index, slice_range, Option, Some, None, Result, Err}
use Rattle.std.specs.Prelude.{codes, if◌then◌else◌}
use Rattle.std.specs.List.{list_any}
use Rattle.std.specs.Str.{bytes_eq}
use Rattle.netlist_lines.specs.Cleaning.{is_quote}
use Rattle.spice_cards.specs.Tokens.{Token, Word, Equals}
use Rattle.spice_rows.specs.Names.{is_text}
use Rattle.plain_netlist.specs.declared.kinds.DeviceKind.TheVariants.{Mos4, ResistorWithBulk}
use Rattle.plain_netlist.specs.declared.kinds.DeviceKind.TheVariants.{Diode as DiodeKind}
use Rattle.spice_rows.specs.Params.{is_device_key}
use Rattle.spice_rows.specs.Rows.{begin}
use Rattle.spice_rows.specs.Sizes.{value_of}
use Rattle.fixed_num.specs.declared.femto.ValueFault.{ValueFault}
use Rattle.fixed_num.specs.declared.femto.ValueFault.TheVariants.{NotNumber}
use Rattle.netlist_turn.specs.declared.rows.Row.{Row}
use Rattle.netlist_turn.specs.declared.rows.Row.TheVariants.{Device, Call, Opening, Ending, Plain}
use Rattle.netlist_turn.specs.declared.rows.Row.TheVariants.{Passed, Capacitor, Resistor, Unknown}
use Rattle.netlist_turn.specs.declared.rows.Row.TheVariants.{Diode, Foreign, Listed}
use Rattle.netlist_turn.specs.declared.made.Kind.{Kind}
use Rattle.netlist_turn.specs.declared.made.Kind.TheVariants.{Number, Slash, Params}

-- a backslash stands in the word
abbrev pub has_escape : List ℕ → Bool
has_escape word = list_any (λ b. b == 0x5C) word

-- a card of options
abbrev pub is_option : List ℕ → Bool
is_option w = is_text (codes ".OPTION") w || is_text (codes ".OPTIONS") w

-- an option, but for SCALE, by which the sizes of devices are others than those that stand on their
-- cards
abbrev pub is_size_option : List ℕ → Bool
is_size_option w =
    is_text (codes "SCALM") w || is_text (codes "DEFL") w || is_text (codes "DEFW") w
    || is_text (codes "DEFAD") w || is_text (codes "DEFAS") w

abbrev pub has_size_option : List Token → Bool
has_size_option [] = false
has_size_option (Equals ∷ ts) = has_size_option ts
has_size_option (Word w ∷ ts) = is_size_option w || has_size_option ts

-- a card sets such an option
abbrev pub changes_sizes : List ℕ → List Token → Bool
changes_sizes first behind = is_option first && has_size_option behind

-- a first word of cards that say what a simulator computes
abbrev pub is_analysis_word : List ℕ → Bool
is_analysis_word w =
    is_text (codes ".TRAN") w || is_text (codes ".AC") w || is_text (codes ".DC") w
    || is_text (codes ".OP") w || is_text (codes ".NOISE") w || is_text (codes ".FOUR") w
    || is_text (codes ".IC") w || is_text (codes ".NODESET") w

-- and of cards that say what it tells
abbrev pub is_output_word : List ℕ → Bool
is_output_word w =
    is_text (codes ".SAVE") w || is_text (codes ".PRINT") w || is_text (codes ".PLOT") w
    || is_text (codes ".PROBE") w || is_text (codes ".MEAS") w || is_text (codes ".MEASURE") w
    || is_text (codes ".WIDTH") w || is_text (codes ".TITLE") w

-- a first word of cards that say nothing of the netlist, or that were done with before
abbrev pub is_passed_word : List ℕ → Bool
is_passed_word w =
    is_text (codes ".PARAM") w || is_text (codes ".DEVICE") w || is_text (codes ".INCLUDE") w
    || is_text (codes ".INC") w
    || is_text (codes ".LIB") w || is_text (codes ".ENDL") w || is_text (codes ".MODEL") w
    || is_option w || is_text (codes ".TEMP") w
    || is_text (codes ".END") w || is_analysis_word w || is_output_word w

-- M, X, C, R, D, and Q or L at the beginning, or a whole word
abbrev pub row_of : List ℕ → Row
row_of first =
    if begin first == 0x4D then Device
    else if begin first == 0x58 then Call
    else if begin first == 0x43 then Capacitor
    else if begin first == 0x52 then Resistor
    else if begin first == 0x44 then Diode
    else if begin first == 0x51 || begin first == 0x4C then Foreign
    else if is_text (codes ".SUBCKT") first then Opening
    else if is_text (codes ".ENDS") first then Ending
    else if is_text (codes ".GLOBAL") first then Plain
    else if is_passed_word first then Passed
    else Unknown

abbrev pub is_params : List ℕ → Bool
is_params w = is_text (codes "PARAMS:") w

abbrev pub is_pins_word : List ℕ → Bool
is_pins_word w = is_text (codes "$PINS") w

-- a circuit's name stands here: one word, or one and `PARAMS:`
abbrev pub is_circuit_end : List (List ℕ) → Bool
is_circuit_end [] = false
is_circuit_end (n ∷ []) = not (is_params n)
is_circuit_end (n ∷ p ∷ []) = is_params p
is_circuit_end (n ∷ p ∷ q ∷ ws) = false

abbrev pub is_none : List (List ℕ) → Bool
is_none [] = true
is_none (w ∷ ws) = false

abbrev pub says_number : Result ℕ ValueFault → Bool
says_number (Err NotNumber) = false
says_number r = true

-- the word is a number, which may have a unit
abbrev pub is_number : List ℕ → Bool
is_number w = says_number (value_of (Some (10 ^ 18)) w)

-- the last word is a number
abbrev pub last_number : List ℕ → List (List ℕ) → Option Kind
last_number w behind = if is_none behind && is_number w then Some Number else None

-- a word that says nothing: `PARAMS:` behind the words of a call or of a circuit's begin, `/`
-- before the name of a called circuit, and a number behind the words of a resistor, a capacitor, or
-- a device of no kind
abbrev pub left_out : Row → List ℕ → List (List ℕ) → Option Kind
left_out Call w behind =
    if is_params w && is_none behind then Some Params
    else if bytes_eq w (codes "/") && is_circuit_end behind then Some Slash
    else None
left_out Opening w behind = if is_params w && is_none behind then Some Params else None
left_out Resistor w behind = last_number w behind
left_out Capacitor w behind = last_number w behind
left_out Foreign w behind = last_number w behind
left_out row w behind = None

-- areas and perimeters of a transistor, which a scale changes and the reader passes over
abbrev pub is_edge_key : List ℕ → Bool
is_edge_key key =
    is_text (codes "AS") key || is_text (codes "AD") key || is_text (codes "PS") key
    || is_text (codes "PD") key

-- a parameter that says something, or that the reader passes over, where there is a scale or none
abbrev pub is_kept_key : Bool → Row → List ℕ → Bool
is_kept_key has_scale Device key =
    is_text (codes "M") key || (is_device_key Mos4 key && not (has_scale && is_edge_key key))
is_kept_key has_scale Call key = is_text (codes "M") key
is_kept_key has_scale Resistor key = is_text (codes "M") key || is_device_key ResistorWithBulk key
is_kept_key has_scale Diode key = is_text (codes "M") key || is_device_key DiodeKind key
is_kept_key has_scale Opening key = false
is_kept_key has_scale row key = true

-- length and width of a transistor or resistor, the perimeter of a diode, and the lengths of a
-- listed device, which the scale turns once
abbrev pub is_size_key : Row → List ℕ → Bool
is_size_key Device key = is_text (codes "L") key || is_text (codes "W") key
is_size_key Resistor key = is_text (codes "L") key || is_text (codes "W") key
is_size_key Diode key = is_text (codes "P") key
is_size_key Listed key =
    is_text (codes "L") key || is_text (codes "W") key || is_text (codes "P") key
is_size_key row key = false

-- the area of a diode, which it turns twice
abbrev pub is_area_key : Row → List ℕ → Bool
is_area_key Diode key = is_text (codes "A") key
is_area_key Listed key = is_text (codes "A") key
is_area_key row key = false

-- two equal quotes, or a brace and the one that closes it
abbrev pub enclose : ℕ → ℕ → Bool
enclose b c = (is_quote b && c == b) || (b == 0x7B && c == 0x7D)

abbrev pub is_quoted : List ℕ → Bool
is_quoted v = nat_lt 1 (length v) && enclose (slice_index v 0) (slice_index v (length v - 1))

abbrev pub unquoted : List ℕ → List ℕ
unquoted v = if is_quoted v then slice_range v 1 (length v - 1) else v

abbrev pub first_name : List (List ℕ) → List ℕ
first_name [] = []
first_name (w ∷ ws) = w
