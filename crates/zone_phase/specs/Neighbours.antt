-- Other placements beside the placements of a cell.
use Rattle.std.specs.Prelude.{◌≡◌, ◌⊎◌, ◌++◌, ◌∷◌, [], ◌<◌, ℕ, pos, true, List, Some, length, slice_get}
use Rattle.geo_base.specs.Motions.{moved_square}
use Rattle.geo_base.specs.Rects.{has}
use Rattle.geo_base.specs.declared.layer.LayerKey.{LayerKey}
use Rattle.geo_base.specs.declared.motion.Motion.{Motion}
use Rattle.geo_base.specs.declared.shapes.Rect.{Rect}
use Rattle.geo_base.specs.declared.shapes.Square.{Square}
use Rattle.flat_layout.specs.Layout.{Some_of}
use Rattle.cell_graph.specs.declared.cells.Place.{Place}
use Rattle.cell_graph.specs.Linked.{Linked, cell_at, hull_of, own_of, places_at, motion_at}
use Rattle.cell_context.specs.Arrays.{IsAlone, IsNearArray}
use Rattle.cell_context.specs.Over.{IsThrough}
use Rattle.cell_context.specs.declared.arrays.Visit.{Visit}
use Rattle.deep_tables.specs.Frames.{grown}
use Rattle.deep_tables.specs.Entries.{downward_cell}
use Rattle.zone_phase.specs.declared.neighbours.Neighbour.{Neighbour}
use Rattle.zone_phase.specs.declared.uses.Use.{Use}
use Rattle.deep_laws.specs.Zones.{IsFromSibling}
use Rattle.zone_phase.specs.Pulls.{OnRects}
use Rattle.zone_phase.specs.Siblings.{IsBroughtTo}

-- the element takes q onto the parent's own shapes; or, where it isn't by itself, onto what other
-- references bring
abbrev pub BesideHere : Linked → ℕ → ℕ → LayerKey → Place → ℕ → ℕ → Square → Type 0
BesideHere d parent index key p row column q = OnRects p (own_of (cell_at d parent) key) row column q
    ⊎ ((IsAlone p → ⊥)
    × IsThrough d parent (Some index) key (moved_square (motion_at p row column) q))

-- the same, or onto the parent's disturbed squares, or a sibling's
abbrev pub WhyHere : List Rect → Linked → ℕ → ℕ → LayerKey → Place → ℕ → ℕ → Square → Type 0
WhyHere zone d parent index key p row column q = OnRects p zone row column q
    ⊎ (BesideHere d parent index key p row column q ⊎ IsFromSibling d p row column key q)

-- a reference of one placement
abbrev pub alone : ℕ → Motion → Place
alone cell motion = record {
  cell = cell;
  motion = motion;
  columns = 1;
  rows = 1;
  column_step = record { x = pos 0; y = pos 0 };
  row_step = record { x = pos 0; y = pos 0 };
}

-- followed by the other motion it is the first
pub record IsRelative (one other rel : Motion) : Type 0 where
  pub squares : (s : Square) → moved_square other (moved_square rel s) ≡ moved_square one s

-- the neighbour brings a flat square of its cell to where the placement takes q
abbrev pub IsOverBy : Linked → LayerKey → Square → Neighbour → Type 0
IsOverBy d key q n = IsBroughtTo d n.other key (moved_square (motion_at n.place 0 0) q)

-- how the neighbour lies is what it says
abbrev pub LiesSo : Neighbour → Type 0
LiesSo n = IsRelative n.other.motion (motion_at n.place 0 0) n.relative

-- of one cell, and lying alike
abbrev pub LieAlike : Neighbour → Neighbour → Type 0
LieAlike n m = (m.other.cell ≡ n.other.cell) × (m.relative ≡ n.relative)

-- a neighbour of the cell that lies so is known
abbrev pub IsKnown : List Neighbour → ℕ → Motion → Type 0
IsKnown list cell rel = Some_of (λ m. (m.other.cell ≡ cell) × (m.relative ≡ rel)) list

-- what is visited near a placement, as its neighbour
pub record IsSeenAs (place : Place) (v : Visit) (n : Neighbour) : Type 0 where
  pub place_is : n.place ≡ place
  pub other : n.other ≡ alone v.cell v.motion
  pub lies : LiesSo n

-- the neighbour was put behind the others, or one is there that lies alike
abbrev pub IsPutOnce : List Neighbour → List Neighbour → Neighbour → Type 0
IsPutOnce old new n = (new ≡ old ++ n ∷ []) ⊎ ((new ≡ old) × Some_of (LieAlike n) old)

-- what is visited near a placement is put once
abbrev pub IsPut : Place → Visit → List Neighbour → List Neighbour → Type 0
IsPut place v old new = (n : Neighbour) × IsSeenAs place v n × IsPutOnce old new n

-- a use of one placement, and another placement of that parent over whose shapes it lies
pub record IsNeighbour (d : Linked) (uses : List Use) (n : Neighbour) : Type 0 where
  pub at : ℕ
  pub found : Use
  pub there : slice_get uses at ≡ Some found
  pub placed : slice_get (places_at (cell_at d (downward_cell d found.job))) found.index
      ≡ Some n.place
  pub apart : IsAlone n.place
  pub inside : n.other.cell < length d.cells
  pub near : IsNearArray n.other
  pub single : IsAlone n.other
  pub lies : LiesSo n
  pub through : (key : LayerKey) (q : Square) → IsOverBy d key q n
      → IsThrough d (downward_cell d found.job) (Some found.index) key
      (moved_square (motion_at n.place 0 0) q)

abbrev pub AreNeighbours : Linked → List Use → List Neighbour → Type 0
AreNeighbours d uses list = (k : ℕ) (n : Neighbour) → slice_get list k ≡ Some n
    → IsNeighbour d uses n

-- what other references bring into the hull at a placement one of the neighbours brings
abbrev pub IsAllNear : Linked → Rect → ℕ → ℕ → Place → List Neighbour → Type 0
IsAllNear d g parent index p list = (key : LayerKey) (q : Square) → has g q ≡ true
    → IsThrough d parent (Some index) key (moved_square (motion_at p 0 0) q)
    → Some_of (IsOverBy d key q) list

-- the same at a use, where it is of one placement
abbrev pub IsNearUse : Linked → Rect → Use → List Neighbour → Type 0
IsNearUse d g u list = (p : Place)
    → slice_get (places_at (cell_at d (downward_cell d u.job))) u.index ≡ Some p → IsAlone p
    → IsAllNear d g (downward_cell d u.job) u.index p list

-- and at the first uses
abbrev pub AreAllNear : Linked → Rect → List Use → ℕ → List Neighbour → Type 0
AreAllNear d g uses bound list = (k : ℕ) (u : Use) → k < bound → slice_get uses k ≡ Some u
    → IsNearUse d g u list

-- the use is one of the list
abbrev pub Listed : List Use → Use → Type 0
Listed uses u = (k : ℕ) × (slice_get uses k ≡ Some u)

-- what a list of neighbours brings a longer one brings
abbrev pub BringsMore : Linked → List Neighbour → List Neighbour → Type 0
BringsMore d old new = (key : LayerKey) (q : Square) → Some_of (IsOverBy d key q) old
    → Some_of (IsOverBy d key q) new

-- a cell's neighbours in its hull grown by n, where it has one
abbrev pub AreNear : ℕ → Linked → ℕ → List Use → List Neighbour → Type 0
AreNear n d cell uses list = (h : Rect) → hull_of (cell_at d cell) ≡ Some h
    → AreNeighbours d uses list × AreAllNear d (grown n h) uses (length uses) list

-- references of one placement, which place the same cell alike
pub record StandAlike (o p : Place) : Type 0 where
  pub apart : IsAlone o
  pub cell : o.cell ≡ p.cell
  pub motion : o.motion ≡ p.motion

-- an earlier use in the same cell is of a placement that stands as this one does
pub record StandsAgain (uses : List Use) (at : ℕ) (places : List Place) (p : Place) : Type 0 where
  pub earlier : ℕ
  pub before : earlier < at
  pub found : Use
  pub there : slice_get uses earlier ≡ Some found
  pub this : Use
  pub this_there : slice_get uses at ≡ Some this
  pub job : found.job ≡ this.job
  pub other : Place
  pub placed : slice_get places found.index ≡ Some other
  pub alike : StandAlike other p
