-- The nets of placed cells as items of nets above.
use Rattle.std.specs.Prelude.{◌≡◌, ℕ, ◌<◌, ◌==◌, ◌||◌, ◌&&◌, Bool, true, false, List, [], ◌∷◌}
use Rattle.std.specs.Prelude.{Option, Some, IsSome, length, map, slice_get}
use Rattle.std.specs.Global.{Vec}
use Rattle.std.specs.List.{list_any}
use Rattle.cell_graph.specs.Linked.{Linked, plain}
use Rattle.net_marks.specs.Marks.{has_terminal}
use Rattle.deep_tables.specs.Entries.{downward_cell, entry}
use Rattle.deep_tables.specs.Gates.{gates_of}
use Rattle.deep_tables.specs.Nets.{nets_in}
use Rattle.deep_tables.specs.declared.gates.CellGates.{CellGates}
use Rattle.deep_tables.specs.declared.nets.CellNets.{CellNets}
use Rattle.deep_tables.specs.declared.nets.Item as code
use Rattle.deep_tables.specs.declared.nets.Item.TheVariants as code_item
use Rattle.flat_layout.specs.GateTables.{GateEntry}
use Rattle.flat_layout.specs.Layout.{Design, IsPlaced, IsReached, Place}
use Rattle.flat_layout.specs.Nets.{AreNets, Child, Tables}
use Rattle.flat_layout.specs.Pins.{IsNetOf}
use Rattle.flat_layout.specs.Regions.{Wiring}
use Rattle.net_walk.specs.declared.cells.Element.{Element}
use Rattle.pin_phase.specs.Sets.{Has}
use Rattle.pin_phase.specs.declared.links.Link.{Link}

-- the number stands twice in the list
abbrev pub is_twice : ℕ → List ℕ → Bool
is_twice x [] = false
is_twice x (y ∷ ys) = (x == y && list_any (λ z. x == z) ys) || is_twice x ys

-- the net has two items, or a good gate's terminal
abbrev pub is_busy : ℕ → List ℕ → List GateEntry → Bool
is_busy x net_of gates = has_terminal x gates || is_twice x net_of

abbrev pub lists_of : List (Vec Link) → List (List Link)
lists_of lists = map (λ v. v.items) lists

-- a cell's nets, where it is placed, are items of a net above
pub record IsLinkTo (d : Linked) (t : Tables) (gates : ℕ → List GateEntry) (cell : ℕ)
    (l : Link) : Type 0 where
  pub job_in : l.job < length d.order
  pub number : ℕ
  pub place : Place
  pub placed : IsPlaced (plain d) (downward_cell d l.job) number place
  pub here : place.cell ≡ cell
  pub is_of : IsNetOf (t.nets (downward_cell d l.job)) (Child number l.net) l.above
  pub busy : l.busy ≡ is_busy l.above (t.nets (downward_cell d l.job)).net_of
      (gates (downward_cell d l.job))

-- of each cell all of these
pub record AreLinks (d : Linked) (t : Tables) (gates : ℕ → List GateEntry)
    (lists : List (List Link)) : Type 0 where
  pub count : length lists ≡ length d.cells
  pub each : (cell : ℕ) (l : Link) → Has lists cell l → IsLinkTo d t gates cell l
  pub all : (cell : ℕ) (l : Link) → IsLinkTo d t gates cell l → Has lists cell l

-- what stands at a place of a cell's items, where that is a net of a placed cell
pub record IsChildLink (of_job : ℕ) (elements : List Element) (net_of : List ℕ) (is : ℕ → Bool)
    (i : ℕ) (item : code.Item) (cell : ℕ) (l : Link) : Type 0 where
  pub place : ℕ
  pub element : Element
  pub child : item ≡ code_item.Child place l.net
  pub there : slice_get elements place ≡ Some element
  pub here : element.cell ≡ cell
  pub numbered : slice_get net_of i ≡ Some l.above
  pub job : l.job ≡ of_job
  pub busy : l.busy ≡ is l.above

-- where the item is of a placement, that is one of the elements, of a known cell
abbrev pub IsChildIn : ℕ → List Element → code.Item → Type 0
IsChildIn cells elements item = (place net : ℕ) → item ≡ code_item.Child place net
    → (element : Element) × (slice_get elements place ≡ Some element) × (element.cell < cells)

abbrev pub AreChildrenIn : ℕ → List Element → List code.Item → Type 0
AreChildrenIn cells elements items = (i : ℕ) (item : code.Item) → slice_get items i ≡ Some item
    → IsChildIn cells elements item

-- the table has right nets of each reached cell, and these tables say the same
pub record AreKnownNets (d : Design) (w : Wiring) (t : Tables)
    (nets : List (Option CellNets)) : Type 0 where
  pub some : (cell : ℕ) → IsReached d cell → IsSome (entry nets cell)
  pub same : (cell : ℕ) → IsReached d cell → nets_in (entry nets cell) ≡ t.nets cell
  pub right : (cell : ℕ) → IsReached d cell → AreNets d w t cell (t.nets cell)

-- the table has gates of each reached cell, with terminals on its nets
pub record AreKnownGates (d : Design) (t : Tables) (gates : List (Option CellGates)) : Type 0 where
  pub some : (cell : ℕ) → IsReached d cell → IsSome (entry gates cell)
  pub terminals : (cell x : ℕ) → IsReached d cell → has_terminal x (gates_of gates cell) ≡ true
      → x < (t.nets cell).count
