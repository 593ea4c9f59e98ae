-- The squares that cells leave to the cells above, and what lies over them from elsewhere.
use Rattle.std.specs.Prelude.{◌≡◌, ◌↔◌, ℕ, ◌+◌, ◌<◌, List, [], ◌∷◌, Option, Some, None, IsSome}
use Rattle.std.specs.Prelude.{get_or, length, slice_get}
use Rattle.geo_base.specs.declared.layer.LayerKey.{LayerKey}
use Rattle.geo_base.specs.declared.shapes.Rect.{Rect}
use Rattle.flat_layout.specs.Gates.{gate_inputs, gate_reach, Rule}
use Rattle.flat_layout.specs.Layers.{Formula, Input, Binary, Sized, inputs}
use Rattle.flat_layout.specs.Layout.{Design, IsReached}
use Rattle.flat_layout.specs.Values.{IsZone, IsOpenZone, IsLoneZone}
use Rattle.flat_layout.specs.declared.way.Way.TheVariants.{Covered}
use Rattle.rule_text.specs.Rules.{Rules}
use Rattle.rule_layers.specs.Meaning.{device_rules, wiring_of}
use Rattle.rule_layers.specs.Formulas.{formulas, zone_margin}
use Rattle.rule_layers.specs.Reads.{IsRead}
use Rattle.deep_tables.specs.Entries.{entry, AreEntries}
use Rattle.deep_tables.specs.declared.zones.CellZones.{CellZones}
use Rattle.deep_tables.specs.declared.zones.CoveredZones.{CoveredZones}
use Rattle.deep_tables.specs.declared.zones.ZoneKey.{ZoneKey}
use Rattle.deep_tables.specs.declared.zones.ZoneKey.TheVariants.{Layer, Device}

-- a derived name, or one that a derived name or a device rule reads
abbrev pub IsAsked : Rules → ℕ → Formula → Type 0
IsAsked r i (Binary op a b) = Unit {0}
IsAsked r i (Sized by a) = Unit {0}
IsAsked r i x = IsRead r.names r.devices r.more i

-- a set of what lies over the cell for each of so many names
abbrev pub HasInputs : ℕ → Option CoveredZones → Type 0
HasInputs n None = Unit {0}
HasInputs n (Some c) = length c.inputs.items ≡ n

-- a name's set of an entry is there
abbrev pub HasInput : ℕ → Option CoveredZones → Type 0
HasInput name None = Unit {0}
HasInput name (Some c) = name < length c.inputs.items

abbrev pub HasName : ℕ → CellZones → Type 0
HasName name v = (name < length v.layers.items) × HasInput name v.covered

-- what lies over the cell from elsewhere on the input layer of a name: where the cell leaves all of
-- it, the squares that it leaves
abbrev pub disturbed_by : Option CoveredZones → List (List Rect) → ℕ → List Rect
disturbed_by None layers name = get_or layers name []
disturbed_by (Some c) layers name = get_or c.inputs.items name []

abbrev pub disturbed_in : CellZones → ℕ → List Rect
disturbed_in v name = disturbed_by v.covered v.layers.items name

-- the squares of a device rule's regions' layer that others may make without the cell
abbrev pub lone_by : Option CoveredZones → ℕ → Option (List Rect)
lone_by None rule = None
lone_by (Some c) rule = slice_get c.lone.items rule

abbrev pub lone_in : CellZones → ℕ → Option (List Rect)
lone_in v rule = lone_by v.covered rule

-- for each name of the rules that is asked, and for each device rule, the squares that the cell
-- leaves for what it reads, in its hull grown by the margin; what disturbs it on each input layer
-- that is asked; and, where it keeps what it covers itself, what others may make of each rule's
-- regions' layer, within the rule's reach of what is close to a region
pub record AreCellZones (d : Design) (r : Rules) (cell : ℕ) (v : CellZones) : Type 0 where
  pub names : length v.layers.items ≡ length (formulas r.names)
  pub layers : (i : ℕ) (x : Formula) (zone : List Rect) → slice_get (formulas r.names) i ≡ Some x
      → slice_get v.layers.items i ≡ Some zone → IsAsked r i x
      → IsOpenZone d (inputs x) (zone_margin r.names) cell zone
  pub inputs : HasInputs (length (formulas r.names)) v.covered
  pub disturbed : (i : ℕ) (key : LayerKey) → slice_get (formulas r.names) i ≡ Some (Input key)
      → IsAsked r i (Input key)
      → IsZone d (key ∷ []) (zone_margin r.names) cell (disturbed_in v i)
  pub rules : length v.devices.items ≡ length (device_rules r)
  pub devices : (i : ℕ) (u : Rule) (zone : List Rect) → slice_get (device_rules r) i ≡ Some u
      → slice_get v.devices.items i ≡ Some zone
      → IsOpenZone d (gate_inputs (wiring_of r) u) (zone_margin r.names) cell zone
  pub covered : IsSome v.covered ↔ (d.way ≡ Covered)
  pub lone : (i : ℕ) (u : Rule) → slice_get (device_rules r) i ≡ Some u → d.way ≡ Covered
      → (set : List Rect) × (lone_in v i ≡ Some set)
      × IsLoneZone d u.gate (gate_reach (wiring_of r) u + 1) cell set

-- each reached cell has its zones
abbrev pub AreZones : Design → Rules → List (Option CellZones) → Type 0
AreZones d r table = AreEntries d (AreCellZones d r) table

-- the squares of an entry for a name or a device rule
abbrev pub squares_for : Option CellZones → ZoneKey → Option (List Rect)
squares_for None key = None
squares_for (Some v) (Layer i) = slice_get v.layers.items i
squares_for (Some v) (Device i) = slice_get v.devices.items i

abbrev pub zone_of : List (Option CellZones) → ℕ → ZoneKey → Option (List Rect)
zone_of table cell key = squares_for (entry table cell) key

-- what others may make without the cell of a device rule's regions' layer
abbrev pub lone_entry : Option CellZones → ℕ → Option (List Rect)
lone_entry None rule = None
lone_entry (Some v) rule = lone_in v rule

abbrev pub lone_of : List (Option CellZones) → ℕ → ℕ → Option (List Rect)
lone_of table cell rule = lone_entry (entry table cell) rule

-- so the accessor's condition is met at each reached cell, for each name of the rules
abbrev pub ZoneEntryLaw : Type 0
ZoneEntryLaw = (d : Design) (r : Rules) (table : List (Option CellZones)) (cell i : ℕ)
    (x : Formula) → AreZones d r table → IsReached d cell → slice_get (formulas r.names) i ≡ Some x
    → (zone : List Rect) × (zone_of table cell (Layer i) ≡ Some zone)

-- and what is found there are the squares that the cell leaves, for each name that is asked and
-- each device rule
abbrev pub HasZone : Design → ℕ → List (Option CellZones) → ℕ → ZoneKey → List LayerKey → Type 0
HasZone d n table cell key keys = (zone : List Rect) × (zone_of table cell key ≡ Some zone)
    × IsOpenZone d keys n cell zone

abbrev pub ZoneAtLaw : Type 0
ZoneAtLaw = (d : Design) (r : Rules) (table : List (Option CellZones)) (cell i : ℕ) (x : Formula)
    → AreZones d r table → IsReached d cell
    → slice_get (formulas r.names) i ≡ Some x → IsAsked r i x
    → HasZone d (zone_margin r.names) table cell (Layer i) (inputs x)

abbrev pub DeviceZoneAtLaw : Type 0
DeviceZoneAtLaw = (d : Design) (r : Rules) (table : List (Option CellZones)) (cell i : ℕ) (u : Rule)
    → AreZones d r table → IsReached d cell
    → slice_get (device_rules r) i ≡ Some u
    → HasZone d (zone_margin r.names) table cell (Device i) (gate_inputs (wiring_of r) u)

-- for no layers nothing is disturbed
abbrev pub EmptyZoneLaw : Type 0
EmptyZoneLaw = (d : Design) (n cell : ℕ) → IsZone d [] n cell []
