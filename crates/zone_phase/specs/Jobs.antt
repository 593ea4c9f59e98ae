-- What the references to a cell bring, from the entries of their jobs.
use Rattle.std.specs.Prelude.{◌≡◌, ℕ, ◌<◌, true, List, [], ◌∷◌, Option, Some, None, IsSomeAnd}
use Rattle.std.specs.Prelude.{length, slice_get, get_or}
use Rattle.geo_base.specs.Rects.{has}
use Rattle.geo_base.specs.declared.layer.LayerKey.{LayerKey}
use Rattle.geo_base.specs.declared.shapes.Rect.{Rect}
use Rattle.geo_base.specs.declared.shapes.Square.{Square}
use Rattle.cell_graph.specs.declared.cells.Place.{Place}
use Rattle.cell_graph.specs.Linked.{Linked, IsStep}
use Rattle.deep_tables.specs.declared.zones.CellZones.{CellZones}
use Rattle.deep_tables.specs.Frames.{IsFramedZone}
pub use Rattle.deep_tables.specs.Zones.{HasName, disturbed_in}
use Rattle.deep_tables.specs.Entries.{downward_cell}
use Rattle.zone_phase.specs.declared.uses.Use.{Use}
use Rattle.zone_phase.specs.Neighbours.{WhyHere}

-- what an entry says lies over its cell on a name's input layer
abbrev pub zone_in : Option CellZones → ℕ → List Rect
zone_in None name = []
zone_in (Some v) name = disturbed_in v name

-- and these are the cell's disturbed squares for the key, in its hull grown by n
abbrev pub IsEntry : ℕ → Linked → LayerKey → ℕ → ℕ → CellZones → Type 0
IsEntry n d key name cell v = HasName name v
    × IsFramedZone n d (key ∷ []) cell (disturbed_in v name)

-- the entries of the references' jobs have the name's squares
abbrev pub HaveEntries : ℕ → Linked → (ℕ → Option CellZones) → LayerKey → ℕ → List Use → Type 0
HaveEntries n d value key name uses = (k : ℕ) (u : Use) → slice_get uses k ≡ Some u
    → IsSomeAnd (value u.job) (IsEntry n d key name (downward_cell d u.job))

-- the entries of the references' jobs have squares for the name
abbrev pub HaveName : (ℕ → Option CellZones) → ℕ → List Use → Type 0
HaveName value name uses = (k : ℕ) (u : Use) → slice_get uses k ≡ Some u
    → IsSomeAnd (value u.job) (HasName name)

-- the entries of the references' jobs may be read
abbrev pub MayRead : (ℕ → Type 0) → List Use → Type 0
MayRead may uses = (k : ℕ) (u : Use) → slice_get uses k ≡ Some u → may u.job

-- the reference brings q, a square of the grown hull, onto its parent's disturbed squares, or onto
-- shapes beside it; of one by itself, onto the parent's own shapes alone
pub record IsFromUse (d : Linked) (zone : List Rect) (cell : ℕ) (key : LayerKey) (g : Rect) (q :
    Square) (u : Use) : Type 0 where
  pub row : ℕ
  pub column : ℕ
  pub from : Place
  pub step : IsStep d (downward_cell d u.job) u.index row column from
  pub here : from.cell ≡ cell
  pub inner : has g q ≡ true
  pub why : WhyHere zone d (downward_cell d u.job) u.index key from row column q

-- one of the first references brings q
pub record IsFromUses (d : Linked) (value : ℕ
    → Option CellZones) (name cell : ℕ) (key : LayerKey) (g : Rect) (uses : List Use) (bound : ℕ)
    (q : Square) : Type 0 where
  pub at : ℕ
  pub found : Use
  pub at_in : at < bound
  pub there : slice_get uses at ≡ Some found
  pub brings : IsFromUse d (zone_in (value found.job) name) cell key g q found
