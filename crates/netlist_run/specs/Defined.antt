-- The names that `.PARAM` cards define, and their values, the scale that an option card sets, the
-- devices that `.DEVICE` cards list, and the pins of circuits.
use Rattle.std.specs.Prelude.{◌≡◌, ℕ, List, [], ◌∷◌, ◌++◌, map, Option, Some, None, Result, Ok, Err}
use Rattle.std.specs.Prelude.{codes, is_some, Bool, false, if◌then◌else◌}
use Rattle.std.specs.Global.{Vec}
use Rattle.net_names.specs.Folding.{folded_bytes}
use Rattle.text_table.specs.Texts.{has_text}
use Rattle.spice_cards.specs.Cards.{Card, cards_of, early_more}
use Rattle.spice_cards.specs.Parts.{Param, behind_words, params_of, words_of}
use Rattle.spice_cards.specs.Tokens.{Token, Word, Equals}
use Rattle.spice_rows.specs.Names.{is_text}
use Rattle.netlist_turn.specs.CardLaw.{kept_words}
use Rattle.netlist_turn.specs.Devices.{Device, device_of}
use Rattle.netlist_turn.specs.DevicesSeen.{device_seen}
use Rattle.netlist_turn.specs.Scale.{scale_of}
use Rattle.netlist_turn.specs.Words.{is_option, unquoted}
use Rattle.netlist_turn.specs.declared.fault.TurnFault.{TurnFault}
use Rattle.netlist_turn.specs.declared.fault.TurnFault.TheVariants.{BadForm, EarlyMore, Twice, NoMemory}
use Rattle.netlist_turn.specs.declared.fault.TurnFault.TheVariants.{BadScale, ListedTwice, SecondScale}
use Rattle.netlist_turn.specs.declared.rows.Row.TheVariants.{Opening}
use Rattle.netlist_turn.specs.declared.settings.Settings.{Settings}
use Rattle.netlist_run.specs.declared.params.Params.{Params}

-- names, folded, and the value of each; the scale in 10^-15; the names of devices, folded, and
-- what each is; and the names of circuits, folded, and the pins of each
pub record Defined : Type 0 where
  pub names : List (List ℕ)
  pub values : List (List ℕ)
  pub scale : Option ℕ
  pub listed : List (List ℕ)
  pub devices : List Device
  pub pinned : List (List ℕ)
  pub pins : List (List (List ℕ))

-- a name is defined once
abbrev pub with_param : Defined → ℕ → Param → Result Defined TurnFault
with_param d line p =
    if has_text d.names (folded_bytes p.key) then Err (Twice line)
    else Ok (record d {
      names = d.names ++ folded_bytes p.key ∷ [];
      values = d.values ++ unquoted p.value ∷ [];
    })

abbrev pub and_then : Result Defined TurnFault → (Defined → Result Defined TurnFault)
    → Result Defined TurnFault
and_then (Ok d) rest = rest d
and_then (Err e) rest = Err e

abbrev pub with_params : Defined → ℕ → List Param → Result Defined TurnFault
with_params d line [] = Ok d
with_params d line (p ∷ ps) = and_then (with_param d line p) (λ next. with_params next line ps)

-- parameters alone stand behind the first word
abbrev pub params_or : Defined → ℕ → Option (List Param) → Result Defined TurnFault
params_or d line None = Err (BadForm line)
params_or d line (Some ps) = with_params d line ps

-- there is one scale
abbrev pub scale_or : Defined → ℕ → Option ℕ → Result Defined TurnFault
scale_or d line None = Err (BadScale line)
scale_or d line (Some factor) = Ok (record d { scale = Some factor })

abbrev pub with_scale : Defined → ℕ → List ℕ → Result Defined TurnFault
with_scale d line text =
    if is_some d.scale then Err (SecondScale line) else scale_or d line (scale_of text)

-- what stands behind an `=`
abbrev pub value_in : List Token → List ℕ
value_in (Equals ∷ Word v ∷ ts) = unquoted v
value_in ts = []

abbrev pub is_scale : Token → Bool
is_scale (Word w) = is_text (codes "SCALE") w
is_scale Equals = false

-- each SCALE of an option card
abbrev pub with_scales : Defined → ℕ → List Token → Result Defined TurnFault
with_scales d line [] = Ok d
with_scales d line (t ∷ ts) =
    if is_scale t then and_then (with_scale d line (value_in ts)) (λ next. with_scales next line ts)
    else with_scales d line ts

-- a name is listed once, and what is said of it is a device
abbrev pub listing : Defined → ℕ → List ℕ → Option Device → Result Defined TurnFault
listing d line name None = Err (BadForm line)
listing d line name (Some device) = Ok (record d {
  listed = d.listed ++ folded_bytes name ∷ [];
  devices = d.devices ++ device ∷ [];
})

abbrev pub with_listed : Defined → ℕ → List (List ℕ) → List Param → Result Defined TurnFault
with_listed d line [] ps = Err (BadForm line)
with_listed d line (name ∷ words) ps =
    if has_text d.listed (folded_bytes name) then Err (ListedTwice line)
    else listing d line name (device_of words ps)

abbrev pub listed_or : Defined → ℕ → List (List ℕ) → Option (List Param)
    → Result Defined TurnFault
listed_or d line words None = Err (BadForm line)
listed_or d line words (Some ps) = with_listed d line words ps

-- the first circuit of a name; its pins are folded
abbrev pub with_circuit : Defined → List (List ℕ) → Defined
with_circuit d [] = d
with_circuit d (name ∷ pins) =
    if has_text d.pinned (folded_bytes name) then d
    else record d {
      pinned = d.pinned ++ folded_bytes name ∷ [];
      pins = d.pins ++ map folded_bytes pins ∷ [];
    }

abbrev pub with_card : Defined → ℕ → List Token → Result Defined TurnFault
with_card d line [] = Ok d
with_card d line (Equals ∷ ts) = Ok d
with_card d line (Word first ∷ ts) =
    if is_text (codes ".PARAM") first then params_or d line (params_of ts)
    else if is_text (codes ".DEVICE") first
    then listed_or d line (words_of ts) (params_of (behind_words ts))
    else if is_option first then with_scales d line ts
    else if is_text (codes ".SUBCKT") first
    then Ok (with_circuit d (kept_words Opening (words_of ts)))
    else Ok d

abbrev pub defining : Defined → List Card → Result Defined TurnFault
defining d [] = Ok d
defining d (c ∷ cs) = and_then (with_card d c.line c.tokens) (λ next. defining next cs)

-- nothing but a scale, where one is asked for
abbrev pub start : Option ℕ → Defined
start scale = record {
  names = [];
  values = [];
  scale = scale;
  listed = [];
  devices = [];
  pinned = [];
  pins = [];
}

abbrev pub early_or : Option ℕ → Result Defined TurnFault → Result Defined TurnFault
early_or None rest = rest
early_or (Some line) rest = Err (EarlyMore line)

-- what the cards of a text define beside a scale that is asked for, or the first fault of one
abbrev pub defined : Option ℕ → List ℕ → Result Defined TurnFault
defined scale bytes = early_or (early_more bytes) (defining (start scale) (cards_of bytes))

-- what the code's lists and records are
abbrev pub pins_seen : List (Vec (Vec ℕ)) → List (List (List ℕ))
pins_seen all = map (λ ps. map (λ p. p.items) ps.items) all

abbrev pub params_seen : Params → Defined
params_seen p = record {
  names = p.names;
  values = map (λ v. v.items) p.values.items;
  scale = p.scale;
  listed = p.listed;
  devices = map device_seen p.devices.items;
  pinned = p.pinned;
  pins = pins_seen p.pins.items;
}

abbrev pub settings_seen : Settings → Defined
settings_seen s = record {
  names = s.names;
  values = map (λ v. v.items) s.values.items;
  scale = s.scale;
  listed = s.listed;
  devices = map device_seen s.devices.items;
  pinned = s.pinned;
  pins = pins_seen s.pins.items;
}

-- the answer is this fault, or that there is no memory
abbrev pub SaysFault : TurnFault → Result Defined TurnFault → Type 0
SaysFault NoMemory read = Unit {0}
SaysFault e read = read ≡ Err e
