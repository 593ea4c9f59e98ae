-- What a cell keeps of the squares in both of two names, as one value.
use Rattle.std.specs.Prelude.{◌≡◌, ◌↔◌, ℕ, ◌<◌, ◌^◌, max, List, Option, Some, length}
use Rattle.geo_base.specs.declared.layer.Op.TheVariants.{And}
use Rattle.geo_base.specs.declared.shapes.Rect.{Rect}
use Rattle.geo_base.specs.declared.shapes.Square.{Square}
use Rattle.rect_sets.specs.Near.{HasNearCorners}
use Rattle.flat_layout.specs.Layers.{Binary, Formula, IsKept, inputs, reach}
use Rattle.flat_layout.specs.Layout as flat
use Rattle.flat_layout.specs.Plane.{IsReachedBy}
use Rattle.sized_layers.specs.Sizes.{IsSetWithin}
use Rattle.cell_graph.specs.Linked.{Linked, plain}
use Rattle.rule_text.specs.Seen.{rules_seen}
use Rattle.rule_text.specs.Sound.{IsSound}
use Rattle.rule_text.specs.declared.rules.RuleSet.{RuleSet}
use Rattle.rule_layers.specs.Formulas.{formulas, zone_margin}
use Rattle.deep_tables.specs.Frames.{IsFramedOpen}
use Rattle.deep_tables.specs.Zones.{zone_of}
use Rattle.deep_tables.specs.declared.zones.CellZones.{CellZones}
use Rattle.deep_tables.specs.declared.zones.ZoneKey.TheVariants.{Layer}
use Rattle.gate_search.specs.Gather.{IsGatheredAround}
use Rattle.gate_shapes.specs.PartLists.{AreParts}
use Rattle.gate_shapes.specs.Sets.{in_set}
use Rattle.gate_phase.specs.Devices.{region_of}
use Rattle.gate_phase.specs.Layer.{KeptOf, formula_of}
use Rattle.gate_phase.specs.declared.both.BothLayer.TheInside.{Inside}
use Rattle.gate_phase.specs.declared.device.Region.{Region}
use Rattle.gate_phase.specs.declared.device.Region.TheVariants.{One, Both}

pub record BothOf : Type 0 where
  pub design : Linked
  pub rules : RuleSet
  pub cell : ℕ
  pub names : ℕ × ℕ

abbrev pub both_of : Inside → BothOf
both_of a =
    record { design = a.design.now; rules = a.first.rules; cell = a.cell; names = a.names }

-- the table has the squares that the cell leaves for the name
pub record IsOpenFor (d : Linked) (r : RuleSet) (z : List (Option CellZones)) (cell name : ℕ)
    : Type 0 where
  pub zone : List Rect
  pub is : zone_of z cell (Layer name) ≡ Some zone
  pub framed : IsFramedOpen (zone_margin r.names.items) d (inputs (formula_of r name)) cell zone

-- the one name's layer or the other's, of the same cell
abbrev pub kept_by : Linked → RuleSet → ℕ → ℕ → KeptOf
kept_by d r cell name = record { design = d; rules = r; cell = cell; name = name }

pub record IsBothLayer (a : Inside) : Type 0 where
  pub rules : IsSound (rules_seen a.first.rules)
  pub first : a.first ≡ kept_by a.design.now a.first.rules a.cell a.names.0
  pub second : a.second ≡ kept_by a.design.now a.first.rules a.cell a.names.1
  pub first_zone : IsOpenFor a.design.now a.first.rules a.zones.now a.cell a.names.0
  pub second_zone : IsOpenFor a.design.now a.first.rules a.zones.now a.cell a.names.1
  pub reach : a.reach ≡ max (reach (formula_of a.first.rules a.names.0))
      (reach (formula_of a.first.rules a.names.1))

-- the table's entry lies where sets are grown
abbrev pub HasNearZone : List (Option CellZones) → ℕ → ℕ → Type 0
HasNearZone z cell name = (zone : List Rect) × (zone_of z cell (Layer name) ≡ Some zone)
    × IsSetWithin (2 ^ 39) zone

-- squares of a set from which none of a zone is within n
abbrev pub AreCalm : ℕ → List Rect → List Rect → List Rect → Type 0
AreCalm n set zone found = (q : Square) → in_set found q
    ↔ (in_set set q × (IsReachedBy n (in_set zone) q → ⊥))

-- squares of both sets from which none of either zone is within n
pub record AreCalmInBoth (n : ℕ) (z : List (Option CellZones)) (cell : ℕ) (names : ℕ × ℕ)
    (first second found : List Rect) : Type 0 where
  pub one : List Rect
  pub is_one : zone_of z cell (Layer names.0) ≡ Some one
  pub other : List Rect
  pub is_other : zone_of z cell (Layer names.1) ≡ Some other
  pub squares : (q : Square) → in_set found q ↔ ((in_set first q × in_set second q)
      × ((IsReachedBy n (in_set one) q → ⊥) × (IsReachedBy n (in_set other) q → ⊥)))

-- the cell keeps the square of the formula of both, and it lies where motions are worked
pub record IsBothNear (x : BothOf) (q : Square) : Type 0 where
  pub kept : IsKept (plain x.design) x.cell
      (Binary And (formula_of x.rules x.names.0) (formula_of x.rules x.names.1)) q
  pub near : HasNearCorners q

-- the names of a region are there, and where there are two it is known what the cell leaves for each
abbrev pub IsReadyRegion : Linked → RuleSet → List (Option CellZones) → ℕ → Region → Type 0
IsReadyRegion d r z cell (One a) = a < length r.names.items
IsReadyRegion d r z cell (Both a b) = (a < length r.names.items) × (b < length r.names.items)
    × IsOpenFor d r z cell a × IsOpenFor d r z cell b

-- the parts of what is gathered around some squares of what a cell keeps of a formula
pub record ArePartsAround (d : flat.Design) (cell : ℕ) (x : Formula) (seeds : List Rect)
    (parts : List (List Rect)) : Type 0 where
  pub found : List Rect
  pub gathered : IsGatheredAround (IsKept d cell x) seeds found
  pub parted : AreParts found parts

-- the layer of a region of the rules
abbrev pub region_formula : RuleSet → Region → Formula
region_formula r g = region_of (formulas r.names.items) g
