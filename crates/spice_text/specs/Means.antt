-- The netlist that a text means, or its first fault.
use Rattle.std.specs.Prelude.{◌≡◌, ◌⊎◌, ℕ, ◌+◌, ◌<◌, List, [], ◌∷◌, ◌++◌, length, map, flat_map}
use Rattle.std.specs.Prelude.{Option, None, Ok, Err}
use Rattle.text_table.specs.Texts.{place_of}
use Rattle.call_order.specs.Order.{ReachesItself}
use Rattle.plain_netlist.specs.Devices.{row_over as device_over}
use Rattle.plain_netlist.specs.Netlist as plain
use Rattle.spice_rows.specs.Rows.{DeviceCard, CallCard}
use Rattle.spice_rows.specs.Sizes.{Limits}
use Rattle.spice_rows.specs.declared.fault.SpiceFault.{SpiceFault}
use Rattle.spice_rows.specs.declared.fault.SpiceFault.TheVariants.{NoMemory}
use Rattle.spice_text.specs.Gather.{Circuit, Cards, reading_of}
use Rattle.spice_text.specs.Circuits.{all_of, names_of, called_in, call_lists}
use Rattle.spice_text.specs.Faults.{IsSecond, HasCall, is_missing, is_other_count, Lacks}
use Rattle.spice_text.specs.Faults.{IsWholeFault}
use Rattle.spice_text.specs.Needs.{first_seen, device_nets, Needs, Picks}

-- the nets of a call: those of its card, then the needed global names of the called circuit
abbrev pub call_names : List (List ℕ) → (ℕ → List (List ℕ)) → CallCard → List (List ℕ)
call_names names needed r = r.nets ++ needed (called_in names r)

-- the names of a circuit's nets as they appear: its pins, the global names that it needs, those of
-- its devices, those of its calls
abbrev pub appearances : List (List ℕ) → (ℕ → List (List ℕ)) → ℕ → Circuit → List (List ℕ)
appearances names needed k c =
    c.pins ++ (needed k ++ (flat_map device_nets c.devices
    ++ flat_map (call_names names needed) c.calls))

abbrev pub net_names : List (List ℕ) → (ℕ → List (List ℕ)) → ℕ → Circuit → List (List ℕ)
net_names names needed k c = first_seen [] (appearances names needed k c)

-- a device with its nets by number
abbrev pub device_row : List (List ℕ) → DeviceCard → plain.DeviceRow
device_row nets d = device_over (place_of nets) d

abbrev pub call_row : List (List ℕ) → (ℕ → List (List ℕ)) → List (List ℕ) → CallCard → plain.CallRow
call_row names needed nets r = record {
  circuit = called_in names r;
  nets = map (place_of nets) (call_names names needed r);
}

-- circuit k, whose nets have these names
abbrev pub row_over : List (List ℕ) → (ℕ → List (List ℕ)) → ℕ → Circuit → List (List ℕ)
    → plain.Circuit
row_over names needed k c nets = record {
  name = c.name;
  nets = nets;
  pins = map (place_of nets) (c.pins ++ needed k);
  devices = map (device_row nets) c.devices;
  calls = map (call_row names needed nets) c.calls;
}

abbrev pub circuit_row : List (List ℕ) → (ℕ → List (List ℕ)) → ℕ → Circuit → plain.Circuit
circuit_row names needed k c = row_over names needed k c (net_names names needed k c)

-- circuits from number k on
abbrev pub rows_from : List (List ℕ) → (ℕ → List (List ℕ)) → ℕ → List Circuit → List plain.Circuit
rows_from names needed k [] = []
rows_from names needed k (c ∷ cs) = circuit_row names needed k c ∷ rows_from names needed (k + 1) cs

-- the netlist of circuits that are ordered, by the global names that each needs
pub record IsNetlistOf (cs : List Circuit) (globals : List (List ℕ)) (n : plain.Netlist) : Type 0
  where
    pub needed : ℕ → List (List ℕ)
    pub needs : (k : ℕ) → k < length cs
        → Picks (λ g. Needs cs g k) (first_seen [] globals) (needed k)
    pub rows : n.circuits ≡ rows_from (names_of cs) needed 0 cs

-- a text means this netlist, where its values may be limited
pub record Means (limit : Option Limits) (bytes : List ℕ) (n : plain.Netlist) : Type 0 where
  pub cards : Cards
  pub read : reading_of limit bytes ≡ Ok cards
  pub ended : cards.open_one ≡ None
  pub one : Lacks (IsSecond (all_of cards))
  pub called : Lacks (HasCall (all_of cards) (is_missing (all_of cards)))
  pub counts : Lacks (HasCall (all_of cards) (is_other_count (all_of cards)))
  pub cycles : Lacks (ReachesItself (call_lists (all_of cards)))
  pub netlist : IsNetlistOf (all_of cards) cards.globals n

-- a text's first fault is that of a card, or else that of the cards as a whole
abbrev pub IsFirstFault : Option Limits → List ℕ → SpiceFault → Type 0
IsFirstFault limit bytes fault =
    (reading_of limit bytes ≡ Err fault) ⊎ ((cards : Cards) × (reading_of limit bytes ≡ Ok cards)
    × IsWholeFault cards fault)

-- want of memory says nothing of a text
abbrev pub SaysFirst : Option Limits → List ℕ → SpiceFault → Type 0
SaysFirst limit bytes NoMemory = Unit {0}
SaysFirst limit bytes fault = IsFirstFault limit bytes fault
