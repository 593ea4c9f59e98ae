-- Devices that calls say: the cards of a list, and what the card of a call of a listed name is.
use Rattle.std.specs.Prelude.{ℕ, ◌+◌, ◌-◌, ◌==◌, ◌&&◌, ◌||◌, nat_lt, Bool, false}
use Rattle.std.specs.Prelude.{List, [], ◌∷◌, ◌++◌, length, map, slice_index_or, take, drop}
use Rattle.std.specs.Prelude.{Option, Some, None, codes, if◌then◌else◌}
use Rattle.std.specs.Char.{is_ascii_digit}
use Rattle.std.specs.List.{list_any, list_all}
use Rattle.net_names.specs.Folding.{folded_bytes}
use Rattle.plain_netlist.specs.declared.kinds.DeviceKind.{DeviceKind}
use Rattle.plain_netlist.specs.declared.kinds.DeviceKind.TheVariants.{Mos4, ResistorWithBulk, Diode}
use Rattle.spice_cards.specs.Parts.{Param}
use Rattle.spice_rows.specs.Kinds.{first_key, second_key}
use Rattle.spice_rows.specs.Names.{is_text}
use Rattle.netlist_turn.specs.Words.{is_none}

-- a listed name: its kind, none where its cards are left out; the nets that the list says; which of
-- a call's nets and these, in this order, each terminal is on, in the order of a card of the kind;
-- and which keys stand for which parameters of a call
pub record Device : Type 0 where
  pub kind : Option DeviceKind
  pub fixed : List (List ℕ)
  pub places : List ℕ
  pub keys : List Param

-- ---- the list: `.DEVICE name kind ports key=parameter ..`

abbrev pub kind_of : List ℕ → Option DeviceKind
kind_of w =
    if is_text (codes "MOS") w then Some Mos4
    else if is_text (codes "RESISTOR") w then Some ResistorWithBulk
    else if is_text (codes "DIODE") w then Some Diode
    else None

-- the ports, in the order of a card
abbrev pub letters : DeviceKind → List ℕ
letters Mos4 = codes "DGSB"
letters ResistorWithBulk = codes "ABW"
letters Diode = codes "AC"

-- the place of a port among these, of which the first has place k, or behind them
abbrev pub place_in : List (List ℕ) → ℕ → ℕ → ℕ
place_in [] k c = k
place_in (p ∷ ports) k c = if is_text (c ∷ []) p then k else place_in ports (k + 1) c

abbrev pub places_in : List (List ℕ) → List ℕ → List ℕ
places_in ports [] = []
places_in ports (c ∷ cs) = place_in ports 0 c ∷ places_in ports cs

-- each port once: there are as many as letters, and each letter stands there
abbrev pub are_ports : List (List ℕ) → List ℕ → Bool
are_ports ports places =
    length ports == length places && list_all (λ k. nat_lt k (length ports)) places

-- ---- nets that the list says: `NET=port:net`

abbrev pub is_net_key : List ℕ → Bool
is_net_key key = is_text (codes "NET") key

-- a letter, `:` and a name
abbrev pub is_net_text : List ℕ → Bool
is_net_text (p ∷ colon ∷ b ∷ name) = colon == 0x3A
is_net_text text = false

abbrev pub is_net : Param → Bool
is_net k = is_net_key k.key && is_net_text k.value

-- the ports on such nets, and the nets
abbrev pub net_ports : List Param → List (List ℕ)
net_ports [] = []
net_ports (k ∷ keys) = if is_net k then take 1 k.value ∷ net_ports keys else net_ports keys

abbrev pub net_names : List Param → List (List ℕ)
net_names [] = []
net_names (k ∷ keys) = if is_net k then drop 2 k.value ∷ net_names keys else net_names keys

-- the ports of the kind that aren't, in the order of a card
abbrev pub free_letters : List ℕ → List (List ℕ) → List (List ℕ)
free_letters [] nets = []
free_letters (c ∷ cs) nets =
    if list_any (λ p. is_text (c ∷ []) p) nets then free_letters cs nets
    else (c ∷ []) ∷ free_letters cs nets

-- the ports that are on a call's nets: those that are named, or all that are free
abbrev pub call_ports : List (List ℕ) → List ℕ → List (List ℕ) → List (List ℕ)
call_ports ports letters nets = if is_none ports then free_letters letters nets else ports

-- a key that a card of the kind has
abbrev pub is_written : DeviceKind → List ℕ → Bool
is_written kind key =
    is_text (first_key kind ∷ []) key || is_text (second_key kind ∷ []) key
    || is_text (codes "M") key

-- those, a count that has to be 1 or M, the class, and fingers, which say nothing
abbrev pub is_list_key : DeviceKind → List ℕ → Bool
is_list_key kind key =
    is_written kind key || is_text (codes "CHECK") key || is_text (codes "AS") key
    || is_text (codes "NF") key

-- that, or a net of a port
abbrev pub is_list_param : DeviceKind → Param → Bool
is_list_param kind k = is_list_key kind k.key || is_net k

abbrev pub folded_param : Param → Param
folded_param p = record { key = folded_bytes p.key; value = folded_bytes p.value }

-- a key that isn't listed stands for the parameter of its own name
abbrev pub with_own : List ℕ → List Param → List Param
with_own key keys =
    if list_any (λ k. is_text key k.key) keys then keys
    else keys ++ record { key = key; value = key } ∷ []

abbrev pub keys_of : DeviceKind → List Param → List Param
keys_of kind ps =
    with_own (codes "M") (with_own (second_key kind ∷ []) (with_own (first_key kind ∷ []) ps))

-- the place of each terminal's port among all
abbrev pub places_among : DeviceKind → List (List ℕ) → Option (List ℕ)
places_among kind all =
    if are_ports all (places_in all (letters kind)) then Some (places_in all (letters kind))
    else None

-- these are the ports of a call, and those on nets that the list says
abbrev pub places_by : DeviceKind → List (List ℕ) → List Param → Option (List ℕ)
places_by kind ports keys =
    places_among kind (call_ports ports (letters kind) (net_ports keys) ++ net_ports keys)

abbrev pub placed : DeviceKind → List Param → Option (List ℕ) → Option Device
placed kind keys None = None
placed kind keys (Some places) = Some (record {
  kind = Some kind;
  fixed = net_names keys;
  places = places;
  keys = keys_of kind keys;
})

-- by the folded parameters
abbrev pub by_keys : DeviceKind → List (List ℕ) → List Param → Option Device
by_keys kind ports keys =
    if list_all (is_list_param kind) keys then placed kind keys (places_by kind ports keys)
    else None

abbrev pub of_kind : List (List ℕ) → List Param → Option DeviceKind → Option Device
of_kind ports ps None = None
of_kind ports ps (Some kind) = by_keys kind ports (map folded_param ps)

-- cards of the name are left out
abbrev pub out : List (List ℕ) → List Param → Option Device
out [] [] = Some (record { kind = None; fixed = []; places = []; keys = [] })
out ports ps = None

-- what the words behind a listed name, and the parameters, say of it
abbrev pub device_of : List (List ℕ) → List Param → Option Device
device_of [] ps = None
device_of (kind ∷ ports) ps =
    if is_text (codes "OUT") kind then out ports ps else of_kind ports ps (kind_of kind)

-- ---- the card of a call

-- the key for which a parameter of this name stands, the first of the list
abbrev pub key_of : List Param → List ℕ → List ℕ
key_of [] name = []
key_of (k ∷ keys) name = if is_text k.value name then k.key else key_of keys name

abbrev pub stands_for : List ℕ → List Param → Param → Bool
stands_for key keys p = is_text key (key_of keys p.key)

-- the parameters that stand for keys of a card, by these
abbrev pub said_params : DeviceKind → List Param → List Param → List Param
said_params kind keys [] = []
said_params kind keys (p ∷ ps) =
    if is_written kind (key_of keys p.key)
    then record { key = key_of keys p.key; value = p.value } ∷ said_params kind keys ps
    else said_params kind keys ps

-- a digit or `.` begins it: a value, not a parameter
abbrev pub is_fixed : List ℕ → Bool
is_fixed [] = false
is_fixed (b ∷ bytes) = b == 0x2E || is_ascii_digit b

-- the keys whose value the list says
abbrev pub fixed_params : DeviceKind → List Param → List Param
fixed_params kind [] = []
fixed_params kind (k ∷ keys) =
    if is_written kind k.key && is_fixed k.value then k ∷ fixed_params kind keys
    else fixed_params kind keys

abbrev pub device_params : DeviceKind → List Param → List Param → List Param
device_params kind keys ps = said_params kind keys ps ++ fixed_params kind keys

-- the listed class, or the name
abbrev pub class_of : List Param → List ℕ → List ℕ
class_of [] name = name
class_of (k ∷ keys) name = if is_text (codes "AS") k.key then k.value else class_of keys name

-- the name that a call's words call
abbrev pub called_name : List (List ℕ) → List ℕ
called_name words = slice_index_or words (length words - 1) []

-- how many nets a call has
abbrev pub net_count : Device → ℕ
net_count d = length d.places - length d.fixed

-- one of these, or a net that the list says
abbrev pub net_at : Device → List (List ℕ) → ℕ → List ℕ
net_at d words k =
    if nat_lt k (net_count d) then slice_index_or words k []
    else slice_index_or d.fixed (k - net_count d) []

abbrev pub nets_at : Device → List ℕ → List (List ℕ) → List (List ℕ)
nets_at d [] words = []
nets_at d (k ∷ places) words = net_at d words k ∷ nets_at d places words

-- the nets by the terminals, and the class
abbrev pub device_words : Device → List (List ℕ) → List (List ℕ)
device_words d words = nets_at d d.places words ++ class_of d.keys (called_name words) ∷ []
