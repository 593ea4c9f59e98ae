-- From seeds to a cell's own gates.
use Rattle.std.specs.Prelude.{◌≡◌, ◌⊎◌, ◌↔◌, ℕ, Bool, List, Some, slice_get}
use Rattle.geo_base.specs.declared.shapes.Rect.{Rect}
use Rattle.geo_base.specs.declared.shapes.Square.{Square}
use Rattle.flat_layout.specs.Gates.{Geometry, InGate, IsSettled, IsGateBelow, IsListedGate}
use Rattle.flat_layout.specs.Gates.{IsSoundGeometry}
use Rattle.flat_layout.specs.Layers.{IsCalmAt, IsKept, IsLone}
use Rattle.flat_layout.specs.Layout.{Design, IsReached}
use Rattle.flat_layout.specs.Parts.{IsCloseTo}
use Rattle.flat_layout.specs.Seeds.{IsNearSeed}
use Rattle.flat_laws.specs.SeedLaws.{AreLeft, IsNearOpen}
use Rattle.gate_shapes.specs.PartLists.{AreParts}
use Rattle.gate_shapes.specs.Sets.{in_set}
use Rattle.gate_search.specs.Gather.{IsGatheredAround}

-- all squares near which gates may begin: by what disturbs placed cells, or by what these leave and
-- others may make there without them
abbrev pub HoldSeeds : Design → Geometry → ℕ → List Rect → Type 0
HoldSeeds d g cell seeds = ((q : Square) → IsNearSeed d g cell q → in_set seeds q)
    ⊎ ((left : ℕ → Square → Bool) × AreLeft d g cell left
    × ((q : Square) → IsNearOpen d g left cell q → in_set seeds q))

-- the seeds hold these, and the parts are those of what was gathered around them
pub record IsSearch (d : Design) (g : Geometry) (cell : ℕ) (seeds found : List Rect)
    (parts : List (List Rect)) : Type 0 where
  pub sound : IsSoundGeometry g
  pub reached : IsReached d cell
  pub all : HoldSeeds d g cell seeds
  pub gathered : IsGatheredAround (IsKept d cell g.region) seeds found
  pub parted : AreParts found parts

-- within reach of what is close to the part all is shut, and one of its squares others can't make
-- alone
pub record IsShutPart (d : Design) (g : Geometry) (cell : ℕ) (part : List Rect) : Type 0 where
  pub calm : (q : Square) → IsCloseTo (in_set part) q → IsCalmAt d g.keys g.reach cell q
  pub mine : Square
  pub in_part : in_set part mine
  pub alone : IsLone d cell g.region mine → ⊥

-- the square is the part's, which is settled exactly where it is shut, and is then the gate of each
-- of its squares
pub record IsTold (d : Design) (g : Geometry) (cell : ℕ) (part : List Rect) (s : Square) : Type 0
  where
    pub here : in_set part s
    pub settled : IsSettled d g cell s ↔ IsShutPart d g cell part
    pub squares : IsSettled d g cell s → (q : Square) → in_set part q ↔ InGate d g cell s q

abbrev pub PartLaw : Type 0
PartLaw = (d : Design) (g : Geometry) (cell : ℕ) (seeds found : List Rect)
    (parts : List (List Rect)) → IsSearch d g cell seeds found parts
    → (i : ℕ) (part : List Rect) (s : Square) → slice_get parts i ≡ Some part → in_set part s
    → IsTold d g cell part s

-- each gate of the cell's own is one of the parts
abbrev pub FoundLaw : Type 0
FoundLaw = (d : Design) (g : Geometry) (cell : ℕ) (seeds found : List Rect)
    (parts : List (List Rect)) → IsSearch d g cell seeds found parts
    → (s : Square) → IsListedGate d g cell s → (i : ℕ) × (part : List Rect)
    × (slice_get parts i ≡ Some part) × in_set part s

-- what is known of the settled parts is known of all settled gates
abbrev pub KnownLaw : Type 0
KnownLaw = (d : Design) (g : Geometry) (cell : ℕ) (seeds found : List Rect)
    (parts : List (List Rect)) → IsSearch d g cell seeds found parts
    → ((i : ℕ) (part : List Rect) (s : Square) → slice_get parts i ≡ Some part → in_set part s
    → IsSettled d g cell s → IsListedGate d g cell s ⊎ IsGateBelow d g cell s)
    → (s : Square) → IsSettled d g cell s → IsListedGate d g cell s ⊎ IsGateBelow d g cell s
