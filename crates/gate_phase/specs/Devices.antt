-- A device rule of any kind, by the numbers of its names.
use Rattle.std.specs.Prelude.{◌≡◌, ℕ, ◌<◌, List, Option, Some, None, ◌++◌, get_or, length, map, max}
use Rattle.geo_base.specs.declared.layer.Op.TheVariants.{And}
use Rattle.flat_layout.specs.Gates as flat
use Rattle.flat_layout.specs.Layers.{Formula, Empty, Binary}
use Rattle.flat_layout.specs.Regions.{formula}
use Rattle.plain_netlist.specs.declared.kinds.DeviceKind.{DeviceKind}
use Rattle.plain_netlist.specs.declared.kinds.DeviceKind.TheVariants.{Mos4, ResistorWithBulk, Diode}
use Rattle.rule_text.specs.Rules.{Rules}
use Rattle.rule_text.specs.declared.rules.MosRule.{MosRule}
use Rattle.rule_text.specs.declared.rules.MoreRule.{MoreRule}
use Rattle.rule_text.specs.declared.rules.MoreRule.TheVariants as more
use Rattle.rule_layers.specs.Formulas.{formulas}
use Rattle.rule_layers.specs.Meaning.{wiring_of}
use Rattle.rule_layers.specs.Reads.{IsRead}
use Rattle.gate_phase.specs.declared.device.Device.{Device}
use Rattle.gate_phase.specs.declared.device.Region.{Region}
use Rattle.gate_phase.specs.declared.device.Region.TheVariants.{One, Both}

-- a transistor's rule by its names
abbrev pub of_mos : MosRule → Device
of_mos m = record {
  kind = Mos4;
  region = One m.g;
  ends = Some m.sd;
  well = Some m.w;
  ts = m.ts;
  tg = m.tg;
  tb = m.tb;
}

-- and a further one, which has no gate: there its bulk stands; a diode has its anode at the ends,
-- its cathode at the bulk
abbrev pub of_more : MoreRule → Device
of_more (more.Resistor class n c w ta tw) = record {
  kind = ResistorWithBulk;
  region = One n;
  ends = Some c;
  well = Some w;
  ts = ta;
  tg = tw;
  tb = tw;
}
of_more (more.Diode class p n ta tc) = record {
  kind = Diode;
  region = Both p n;
  ends = None;
  well = None;
  ts = ta;
  tg = tc;
  tb = tc;
}

-- all device rules by their names, in the order of their numbers
abbrev pub devices_of : Rules → List Device
devices_of r = map of_mos r.devices ++ map of_more r.more

-- the layer whose parts are the rule's regions
abbrev pub region_of : List Formula → Region → Formula
region_of trees (One name) = get_or trees name Empty
region_of trees (Both a b) = Binary And (get_or trees a Empty) (get_or trees b Empty)

-- a layer that some kinds don't have
abbrev pub layer_in : List Formula → Option ℕ → Formula
layer_in trees None = Empty
layer_in trees (Some name) = get_or trees name Empty

-- how far these reach, and how far all layers of the rule do, by the reaches of the names
abbrev pub region_reach : List ℕ → Region → ℕ
region_reach reaches (One name) = get_or reaches name 0
region_reach reaches (Both a b) = max (get_or reaches a 0) (get_or reaches b 0)

abbrev pub layer_reach : List ℕ → Option ℕ → ℕ
layer_reach reaches None = 0
layer_reach reaches (Some name) = get_or reaches name 0

abbrev pub device_reach : List ℕ → Device → ℕ
device_reach reaches x = max (layer_reach reaches x.ends) (max (region_reach reaches x.region)
    (max (layer_reach reaches x.well) (max (get_or reaches x.ts 0)
    (max (get_or reaches x.tg 0) (get_or reaches x.tb 0)))))

-- these are the names of the rule
pub record IsDevice (trees : List Formula) (x : Device) (u : flat.Rule) : Type 0 where
  pub kind : u.kind ≡ x.kind
  pub region : u.gate ≡ region_of trees x.region
  pub ends : u.sd ≡ layer_in trees x.ends
  pub well : u.well ≡ layer_in trees x.well
  pub ts : u.ts ≡ x.ts
  pub tg : u.tg ≡ x.tg
  pub tb : u.tb ≡ x.tb

-- a name that is there; where there are two for the regions, each is read by a device rule
abbrev pub IsKnownRegion : Rules → Region → Type 0
IsKnownRegion r (One a) = a < length r.names
IsKnownRegion r (Both a b) = (a < length r.names) × (b < length r.names)
    × IsRead r.names r.devices r.more a × IsRead r.names r.devices r.more b

-- a diode alone has no groups beside its regions
abbrev pub AreKnownEnds : Rules → DeviceKind → Option ℕ → Type 0
AreKnownEnds r Mos4 None = ⊥
AreKnownEnds r Mos4 (Some a) = a < length r.names
AreKnownEnds r ResistorWithBulk None = ⊥
AreKnownEnds r ResistorWithBulk (Some a) = a < length r.names
AreKnownEnds r Diode None = Unit {0}
AreKnownEnds r Diode (Some a) = ⊥

-- a terminal's conductor is read as its name
pub record IsTerminalName (r : Rules) (c : ℕ) : Type 0 where
  pub known : c < length r.names
  pub read : formula (wiring_of r) c ≡ get_or (formulas r.names) c Empty

-- the names of a sound device rule
pub record IsKnownDevice (r : Rules) (x : Device) : Type 0 where
  pub region : IsKnownRegion r x.region
  pub ends : AreKnownEnds r x.kind x.ends
  pub ts : IsTerminalName r x.ts
  pub tg : IsTerminalName r x.tg
  pub tb : IsTerminalName r x.tb
