-- The nets of a cell, over those of the cells that it places.
use Rattle.std.specs.Prelude.{◌≡◌, ◌⊎◌, ◌↔◌, ℕ, zero, suc, ◌<◌, List, [], ◌∷◌, ◌++◌, Some}
use Rattle.std.specs.Prelude.{slice_get, get_or, length}
use Rattle.geo_base.specs.declared.shapes.Rect.{Rect}
use Rattle.geo_base.specs.declared.shapes.Square.{Square}
use Rattle.plain_netlist.specs.Chains.{Reaches}
use Rattle.rect_sets.specs.Rects.{IsCanonical}
use Rattle.flat_layout.specs.Layers.{Formula, IsKept, IsKeptBelow, IsLocal}
use Rattle.flat_layout.specs.Layout.{Place, Cell, Design, IsPlaced, Leads, IsReached, IsHeight}
use Rattle.flat_layout.specs.Plane.{IsIn}
use Rattle.flat_layout.specs.Regions.{Wiring, Node, At, Ground, Touches, IsNode, InOneRegion, moved}
use Rattle.flat_layout.specs.Regions.{formula, kept}

-- what a net of a cell is made of: rectangles of the cell itself, nets of placed cells, globals
pub data Item : Type 0 where
  Own : (conductor rect : ℕ) → Item
  Child : (place net : ℕ) → Item
  Global : (global : ℕ) → Item

-- the items of a cell in order, the net of each, and how many nets there are
pub record CellNets : Type 0 where
  pub items : List Item
  pub net_of : List ℕ
  pub count : ℕ

-- of each cell, the rectangles that it holds of each conductor, and its nets
pub record Tables : Type 0 where
  pub own : ℕ → ℕ → List Rect
  pub nets : ℕ → CellNets

-- the i-th item, in this net
pub record IsOf (v : CellNets) (net i : ℕ) (item : Item) : Type 0 where
  pub listed : slice_get v.items i ≡ Some item
  pub numbered : slice_get v.net_of i ≡ Some net

-- an item holds a node that lies so many placements deep
abbrev pub HoldsAt : Design → Tables → ℕ → ℕ → Item → Node → Type 0
HoldsAt d t zero cell (Own c r) n = (q : Square) × (rect : Rect)
    × (slice_get (t.own cell c) r ≡ Some rect) × IsIn q rect × (At c q ≡ n)
HoldsAt d t zero cell (Child k b) n = ⊥
HoldsAt d t zero cell (Global g) n = Ground g ≡ n
HoldsAt d t (suc h) cell (Own c r) n = ⊥
HoldsAt d t (suc h) cell (Child k b) n = (p : Place) × IsPlaced d cell k p × (i : ℕ) × (item : Item)
    × IsOf (t.nets p.cell) b i item × (m : Node) × HoldsAt d t h p.cell item m
    × (moved p.motion m ≡ n)
HoldsAt d t (suc h) cell (Global g) n = ⊥

-- an item holds a node: a square of the rectangle, the image of what the placed cell's net holds,
-- or the global
pub record ItemHolds (d : Design) (t : Tables) (cell : ℕ) (item : Item) (n : Node) : Type 0 where
  pub depth : ℕ
  pub holds : HoldsAt d t depth cell item n

-- a net holds what its items hold
pub record NetHolds (d : Design) (t : Tables) (cell net : ℕ) (n : Node) : Type 0 where
  pub index : ℕ
  pub item : Item
  pub is_of : IsOf (t.nets cell) net index item
  pub holds : ItemHolds d t cell item n

-- what stands among the items of a cell
abbrev pub IsItem : Design → Wiring → Tables → ℕ → Item → Type 0
IsItem d w t cell (Own c r) = (c < length w.conductors) × (r < length (t.own cell c))
IsItem d w t cell (Child k b) = (p : Place) × IsPlaced d cell k p × (b < (t.nets p.cell).count)
IsItem d w t cell (Global g) = g < length w.globals

-- squares of the two touch, or a square of the one and a global of the other, or they hold one node
pub record IsItemLink (d : Design) (w : Wiring) (t : Tables) (cell : ℕ) (a b : Item) : Type 0 where
  pub from : IsItem d w t cell a
  pub to : IsItem d w t cell b
  pub one : Node
  pub other : Node
  pub held : ItemHolds d t cell a one
  pub others : ItemHolds d t cell b other
  pub touch : Touches w one other

-- f of k, k + 1 and so on, n of them
abbrev pub run : (ℕ → Item) → ℕ → ℕ → List Item
run f k zero = []
run f k (suc n) = f k ∷ run f (suc k) n

-- from the c-th conductor on, its rectangles
abbrev pub own_items : Tables → ℕ → ℕ → List Formula → List Item
own_items t cell c [] = []
own_items t cell c (x ∷ xs) = run (Own c) 0 (length (t.own cell c)) ++ own_items t cell (suc c) xs

-- from the k-th placement on, the placed cells' nets
abbrev pub child_items : Tables → ℕ → List Place → List Item
child_items t k [] = []
child_items t k (p ∷ ps) = run (Child k) 0 (t.nets p.cell).count ++ child_items t (suc k) ps

abbrev pub no_cell : Cell
no_cell = record { name = []; layers = []; texts = []; places = [] }

-- the items of a cell in order: for each conductor its rectangles, for each placement the placed
-- cell's nets, each global
abbrev pub items_of : Design → Wiring → Tables → ℕ → List Item
items_of d w t cell = own_items t cell 0 w.conductors
    ++ (child_items t 0 (get_or d.cells cell no_cell).places ++ run Global 0 (length w.globals))

-- the items of a cell, and the classes of those that chains of links join, numbered from 0 by their
-- least item
pub record AreNets (d : Design) (w : Wiring) (t : Tables) (cell : ℕ) (v : CellNets) : Type 0 where
  pub items : v.items ≡ items_of d w t cell
  pub numbers : length v.net_of ≡ length v.items
  pub joined : (i j : ℕ) (a b : Item) (x y : ℕ) → IsOf v x i a → IsOf v y j b → (x ≡ y)
      ↔ Reaches (IsItemLink d w t cell) a b
  pub below : (i x : ℕ) → slice_get v.net_of i ≡ Some x → x < v.count
  pub used : (x : ℕ) → x < v.count → (i : ℕ) × (slice_get v.net_of i ≡ Some x)
  pub earlier : (i x y : ℕ) → slice_get v.net_of i ≡ Some x → y < x → (j : ℕ) × (j < i)
      × (slice_get v.net_of j ≡ Some y)

-- the rectangles of a table cover what the cell itself holds, and none is empty
pub record AreOwn (d : Design) (w : Wiring) (t : Tables) (cell c : ℕ) : Type 0 where
  pub local : (r : ℕ) (rect : Rect) (q : Square) → slice_get (t.own cell c) r ≡ Some rect
      → IsIn q rect → IsLocal d cell (formula w c) q
  pub found : (q : Square) → IsLocal d cell (formula w c) q → (r : ℕ) × (rect : Rect)
      × (slice_get (t.own cell c) r ≡ Some rect) × IsIn q rect
  pub filled : (r : ℕ) (rect : Rect) → slice_get (t.own cell c) r ≡ Some rect → (q : Square)
      × IsIn q rect

-- and they are the one canonical list, so that they are determined
pub record AreListed (d : Design) (w : Wiring) (t : Tables) (cell c : ℕ) : Type 0 where
  pub own : AreOwn d w t cell c
  pub canonical : IsCanonical (t.own cell c)

-- the tables are right in each reached cell, and it is known of each kept square whether it comes
-- from below
pub record AreTables (d : Design) (w : Wiring) (t : Tables) (height : ℕ → ℕ) : Type 0 where
  pub lower : IsHeight d height
  pub parted : (cell c : ℕ) (q : Square) → IsReached d cell → IsKept d cell (formula w c) q
      → IsLocal d cell (formula w c) q ⊎ IsKeptBelow d cell (formula w c) q
  pub own : (cell c : ℕ) → IsReached d cell → AreOwn d w t cell c
  pub nets : (cell : ℕ) → IsReached d cell → AreNets d w t cell (t.nets cell)

-- the nets of a cell are the regions of what it keeps
pub record AreRegions (d : Design) (w : Wiring) (t : Tables) (cell : ℕ) : Type 0 where
  pub sound : (x : ℕ) (n : Node) → NetHolds d t cell x n → IsNode w (kept d w cell) n
  pub complete : (n : Node) → IsNode w (kept d w cell) n → (x : ℕ) × NetHolds d t cell x n
  pub joined : (x y : ℕ) (a b : Node) → NetHolds d t cell x a → NetHolds d t cell y b → (x ≡ y)
      ↔ InOneRegion w (kept d w cell) a b
  pub filled : (x : ℕ) → x < (t.nets cell).count → (n : Node) × NetHolds d t cell x n

-- the nodes of a placed cell's net lie, by the placement, in one net of its parent, and in no other
pub record LiesIn (d : Design) (t : Tables) (cell : ℕ) (p : Place) (b x : ℕ) : Type 0 where
  pub each : (n : Node) → NetHolds d t p.cell b n → NetHolds d t cell x (moved p.motion n)

-- the cells below a cell, itself among them
abbrev pub IsUnder : Design → ℕ → ℕ → Type 0
IsUnder d cell c = (path : List ℕ) × Leads d cell path c

-- the tables are right in each cell below this one
pub record AreRightBelow (d : Design) (w : Wiring) (t : Tables) (cell : ℕ) : Type 0 where
  pub own : (e c : ℕ) → IsUnder d cell e → AreListed d w t e c
  pub nets : (k e : ℕ) (p : Place) → IsPlaced d cell k p → IsUnder d p.cell e
      → AreNets d w t e (t.nets e)

-- the nets of a cell, without a word of other tables: they are right over all that is right below
abbrev pub IsNetsOf : Design → Wiring → ℕ → CellNets → Type 0
IsNetsOf d w cell v = (t : Tables) → AreRightBelow d w t cell → AreNets d w t cell v
