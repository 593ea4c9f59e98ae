-- What a card says behind the cards before it, or its first fault. In each row a form that doesn't
-- fit comes before a parameter that can't be taken, and that before a value that is none.
use Rattle.std.specs.Prelude.{ℕ, ◌+◌, Bool, true, false, ◌==◌, ◌&&◌, ◌||◌, not, List, [], ◌∷◌}
use Rattle.std.specs.Prelude.{length, slice_index, Option, Some, None, Result, Ok, Err}
use Rattle.std.specs.Prelude.{codes, slice_get, if◌then◌else◌}
use Rattle.std.specs.List.{list_any}
use Rattle.fixed_num.specs.declared.femto.ValueFault.{ValueFault}
use Rattle.net_names.specs.Folding.{folded_byte}
use Rattle.spice_cards.specs.Tokens.{Token, Word, Equals}
use Rattle.spice_cards.specs.Parts.{Param, words_of, behind_words, params_of}
use Rattle.spice_rows.specs.Names.{names_of, are_apart, is_text}
use Rattle.plain_netlist.specs.declared.kinds.DeviceKind.{DeviceKind}
use Rattle.plain_netlist.specs.declared.kinds.DeviceKind.TheVariants.{Mos4, ResistorWithBulk, Diode}
use Rattle.plain_netlist.specs.Kinds.{terminal_count}
use Rattle.plain_netlist.specs.Devices.{Row, NoEnds, Both}
use Rattle.spice_rows.specs.Kinds.{first_key, letter, second_key}
use Rattle.spice_rows.specs.Params.{copies_of, is_once, is_one, is_refused}
use Rattle.spice_rows.specs.Sizes.{Limits, sizes_of}
use Rattle.spice_rows.specs.declared.fault.SpiceFault.{SpiceFault}
use Rattle.spice_rows.specs.declared.fault.SpiceFault.TheVariants.{UnknownCard, BadLine}
use Rattle.spice_rows.specs.declared.fault.SpiceFault.TheVariants.{ParameterRefused, Value}

-- a device over the names of nets
abbrev pub DeviceCard : Type 0
DeviceCard = Row (List ℕ)

-- a call as its card names it, with the card's line
pub record CallCard : Type 0 where
  pub line : ℕ
  pub nets : List (List ℕ)
  pub circuit : List ℕ

-- what a card says
pub data CardRow : Type 0 where
  Opens : (name : List ℕ) (pins : List (List ℕ)) → CardRow
  Ends : CardRow
  Globals : (names : List (List ℕ)) → CardRow
  Stops : CardRow
  Passed : CardRow
  Device : (card : DeviceCard) (copies : ℕ) → CardRow
  Call : (card : CallCard) → CardRow

-- ---- rows, by the names or words behind the first word, and the parameters

-- `drain gate source bulk class`, `a b bulk class`, `anode cathode class`
abbrev pub card_of : DeviceKind → List (List ℕ) → List ℕ → Option DeviceCard
card_of Mos4 (drain ∷ gate ∷ source ∷ bulk ∷ class ∷ []) sizes = Some (record {
  kind = Mos4;
  class = class;
  sizes = sizes;
  ends = Both source drain;
  others = gate ∷ bulk ∷ [];
})
card_of ResistorWithBulk (a ∷ b ∷ bulk ∷ class ∷ []) sizes = Some (record {
  kind = ResistorWithBulk;
  class = class;
  sizes = sizes;
  ends = Both a b;
  others = bulk ∷ [];
})
card_of Diode (anode ∷ cathode ∷ class ∷ []) sizes = Some (record {
  kind = Diode;
  class = class;
  sizes = sizes;
  ends = NoEnds;
  others = anode ∷ cathode ∷ [];
})
card_of kind names sizes = None

-- so many of it, where it is there
abbrev pub copies_said : ℕ → ℕ → Option DeviceCard → Result CardRow SpiceFault
copies_said line copies None = Err (BadLine line)
copies_said line copies (Some card) = Ok (Device card copies)

abbrev pub device_of : ℕ → ℕ → DeviceKind → List (List ℕ) → Result (List ℕ) ValueFault
    → Result CardRow SpiceFault
device_of line copies kind names (Err e) = Err (Value line e)
device_of line copies kind names (Ok sizes) = copies_said line copies (card_of kind names sizes)

-- a transistor's class begins with neither byte 1 nor byte 2
abbrev pub is_class : DeviceKind → List ℕ → Bool
is_class Mos4 [] = true
is_class Mos4 (b ∷ bytes) = not (b == 1 || b == 2)
is_class ResistorWithBulk class = true
is_class Diode class = true

abbrev pub is_class_there : DeviceKind → Option (List ℕ) → Bool
is_class_there kind None = false
is_class_there kind (Some class) = is_class kind class

-- it stands behind the terminals
abbrev pub has_class : DeviceKind → List (List ℕ) → Bool
has_class kind names = is_class_there kind (slice_get names (terminal_count kind))

-- a name for each terminal and the class
abbrev pub are_device_names : DeviceKind → List (List ℕ) → Bool
are_device_names kind names = (length names == terminal_count kind + 1) && has_class kind names

-- these, and the two sizes once each
abbrev pub is_formed : DeviceKind → List (List ℕ) → List Param → Bool
is_formed kind names ps =
    are_device_names kind names && is_once (first_key kind ∷ []) ps
    && is_once (second_key kind ∷ []) ps

-- a device with its two sizes; the card stands for as many as M says
abbrev pub device_row : Option Limits → DeviceKind → ℕ → Option (List (List ℕ)) → List Param
    → Result CardRow SpiceFault
device_row limits kind line None ps = Err (BadLine line)
device_row limits kind line (Some names) ps =
    if not (is_formed kind names ps) then Err (BadLine line)
    else if list_any (is_refused kind) ps then Err (ParameterRefused line)
    else device_of line (copies_of ps) kind names (sizes_of limits kind ps)

-- all but the last
abbrev pub before_last : List (List ℕ) → List (List ℕ)
before_last [] = []
before_last (n ∷ []) = []
before_last (n ∷ m ∷ ns) = n ∷ before_last (m ∷ ns)

abbrev pub last : List (List ℕ) → List ℕ
last [] = []
last (n ∷ []) = n
last (n ∷ m ∷ ns) = last (m ∷ ns)

-- `X.. nets circuit`
abbrev pub call_row : ℕ → Option (List (List ℕ)) → List Param → Result CardRow SpiceFault
call_row line None ps = Err (BadLine line)
call_row line (Some []) ps = Err (BadLine line)
call_row line (Some (n ∷ ns)) ps =
    if list_any (λ p. not (is_one p)) ps then Err (ParameterRefused line)
    else Ok (Call (record { line = line; nets = before_last (n ∷ ns); circuit = last (n ∷ ns) }))

abbrev pub no_params : ℕ → List Param → CardRow → Result CardRow SpiceFault
no_params line [] row = Ok row
no_params line (p ∷ ps) row = Err (ParameterRefused line)

-- `.SUBCKT name pins`, no pin twice, and not inside another
abbrev pub open_row : ℕ → Bool → Option (List (List ℕ)) → List Param → Result CardRow SpiceFault
open_row line true names ps = Err (BadLine line)
open_row line false None ps = Err (BadLine line)
open_row line false (Some []) ps = Err (BadLine line)
open_row line false (Some (n ∷ pins)) ps =
    if are_apart pins then no_params line ps (Opens n pins) else Err (BadLine line)

-- `.ENDS` or `.ENDS name`, where a circuit is open
abbrev pub end_row : ℕ → Bool → Option (List (List ℕ)) → List Param → Result CardRow SpiceFault
end_row line true (Some []) [] = Ok Ends
end_row line true (Some (n ∷ [])) [] = Ok Ends
end_row line is_open names ps = Err (BadLine line)

-- `.GLOBAL names`, one or more
abbrev pub global_row : ℕ → Option (List (List ℕ)) → List Param → Result CardRow SpiceFault
global_row line (Some (n ∷ ns)) [] = Ok (Globals (n ∷ ns))
global_row line names ps = Err (BadLine line)

-- `.END` alone
abbrev pub stop_row : ℕ → List (List ℕ) → List Param → Result CardRow SpiceFault
stop_row line [] [] = Ok Stops
stop_row line words ps = Err (BadLine line)

-- ---- which row a first word has

abbrev pub begin : List ℕ → ℕ
begin word = folded_byte (slice_index word 0)

abbrev pub is_passed : List ℕ → Bool
is_passed first =
    is_text (codes ".MODEL") first || is_text (codes ".OPTION") first
    || is_text (codes ".OPTIONS") first

-- the letter of a device or X (0x58) at the beginning, or a whole word
abbrev pub is_known : List ℕ → Bool
is_known first =
    begin first == letter Mos4 || begin first == letter ResistorWithBulk
    || begin first == letter Diode || begin first == 0x58
    || is_text (codes ".SUBCKT") first
    || is_text (codes ".ENDS") first || is_text (codes ".GLOBAL") first
    || is_text (codes ".END") first

abbrev pub row_of : Option Limits → ℕ → Bool → List ℕ → List (List ℕ) → List Param
    → Result CardRow SpiceFault
row_of limit line is_open first words ps =
    if begin first == letter Mos4 then device_row limit Mos4 line (names_of words) ps
    else if begin first == letter ResistorWithBulk
    then device_row limit ResistorWithBulk line (names_of words) ps
    else if begin first == letter Diode then device_row limit Diode line (names_of words) ps
    else if begin first == 0x58 then call_row line (names_of words) ps
    else if is_text (codes ".SUBCKT") first then open_row line is_open (names_of words) ps
    else if is_text (codes ".ENDS") first then end_row line is_open (names_of words) ps
    else if is_text (codes ".GLOBAL") first then global_row line (names_of words) ps
    else stop_row line words ps

-- parameters that are none don't fit
abbrev pub formed_row : Option Limits → ℕ → Bool → List ℕ → List (List ℕ) → Option (List Param)
    → Result CardRow SpiceFault
formed_row limit line is_open first words None = Err (BadLine line)
formed_row limit line is_open first words (Some ps) = row_of limit line is_open first words ps

-- what a card of these tokens says, where a circuit is open before it or not; a value may be
-- limited
abbrev pub card_row : Option Limits → ℕ → Bool → List Token → Result CardRow SpiceFault
card_row limit line is_open [] = Err (UnknownCard line)
card_row limit line is_open (Equals ∷ ts) = Err (UnknownCard line)
card_row limit line is_open (Word first ∷ ts) =
    if is_passed first then Ok Passed
    else if is_known first
    then formed_row limit line is_open first (words_of ts) (params_of (behind_words ts))
    else Err (UnknownCard line)
