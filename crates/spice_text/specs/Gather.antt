-- Cards in their circuits.
use Rattle.std.specs.Prelude.{ℕ, List, [], ◌∷◌, ◌++◌, replicate, Option, Some, None, is_some, Result, Ok, Err}
use Rattle.std.specs.Prelude.{codes}
use Rattle.spice_cards.specs.Cards.{Card, cards_of, early_more}
use Rattle.spice_rows.specs.Rows.{DeviceCard, CallCard, CardRow, Opens, Ends, Globals, Stops}
use Rattle.spice_rows.specs.Rows.{Passed, Device, Call, card_row}
use Rattle.spice_rows.specs.Sizes.{Limits}
use Rattle.spice_rows.specs.declared.fault.SpiceFault.{SpiceFault}
use Rattle.spice_rows.specs.declared.fault.SpiceFault.TheVariants.{BadLine}

-- a circuit as its cards name it, with the line of the first of them
pub record Circuit : Type 0 where
  pub line : ℕ
  pub name : List ℕ
  pub pins : List (List ℕ)
  pub devices : List DeviceCard
  pub calls : List CallCard

-- the circuits that are closed, the open one, that of the cards outside, and the global names
pub record Cards : Type 0 where
  pub circuits : List Circuit
  pub open_one : Option Circuit
  pub outside : Option Circuit
  pub globals : List (List ℕ)

abbrev pub no_cards : Cards
no_cards = record { circuits = []; open_one = None; outside = None; globals = [] }

-- a circuit before its first device or call
abbrev pub begun : ℕ → List ℕ → List (List ℕ) → Circuit
begun line name pins = record {
  line = line;
  name = name;
  pins = pins;
  devices = [];
  calls = [];
}

-- the circuit of the cards outside has the line of the first of them
abbrev pub or_top : ℕ → Option Circuit → Circuit
or_top line None = begun line (codes ".TOP") []
or_top line (Some c) = c

-- a circuit behind others, if any
abbrev pub closed : List Circuit → Option Circuit → List Circuit
closed cs None = cs
closed cs (Some c) = cs ++ c ∷ []

-- a card of a circuit's inside changes the open one, or else that of the cards outside
abbrev pub changed : Cards → ℕ → (Circuit → Circuit) → Option Circuit → Cards
changed cards line f None = record cards { outside = Some (f (or_top line cards.outside)) }
changed cards line f (Some c) = record cards { open_one = Some (f c) }

-- so many equal devices, one after another
abbrev pub with_devices : DeviceCard → ℕ → Circuit → Circuit
with_devices d copies c = record c { devices = c.devices ++ replicate copies d }

abbrev pub with_call : CallCard → Circuit → Circuit
with_call r c = record c { calls = c.calls ++ r ∷ [] }

-- with what one card more says
abbrev pub with_row : Cards → ℕ → CardRow → Cards
with_row cards line (Opens name pins) = record cards { open_one = Some (begun line name pins) }
with_row cards line Ends =
    record cards { circuits = closed cards.circuits cards.open_one; open_one = None }
with_row cards line (Globals names) = record cards { globals = cards.globals ++ names }
with_row cards line Stops = cards
with_row cards line Passed = cards
with_row cards line (Device d copies) =
    changed cards line (with_devices d copies) cards.open_one
with_row cards line (Call r) = changed cards line (with_call r) cards.open_one

-- nothing is read behind `.END`
abbrev pub read_on : Cards → ℕ → Result CardRow SpiceFault → (Cards → Result Cards SpiceFault)
    → Result Cards SpiceFault
read_on cards line (Err e) rest = Err e
read_on cards line (Ok Stops) rest = Ok cards
read_on cards line (Ok row) rest = rest (with_row cards line row)

-- some cards behind others, up to `.END`, or the first fault of one
abbrev pub reading : Option Limits → Cards → List Card → Result Cards SpiceFault
reading limit cards [] = Ok cards
reading limit cards (c ∷ cs) =
    read_on cards c.line (card_row limit c.line (is_some cards.open_one) c.tokens)
    (λ next. reading limit next cs)

-- a `+` with no card before it doesn't fit
abbrev pub early_or : Option ℕ → Result Cards SpiceFault → Result Cards SpiceFault
early_or None rest = rest
early_or (Some line) rest = Err (BadLine line)

-- the cards of a text, or the first fault of one; values may be limited
abbrev pub reading_of : Option Limits → List ℕ → Result Cards SpiceFault
reading_of limit bytes = early_or (early_more bytes) (reading limit no_cards (cards_of bytes))
