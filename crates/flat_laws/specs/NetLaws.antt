-- The nets of cells as regions, and that each cell has one table of them.
use Rattle.std.specs.Prelude.{◌≡◌, ℕ, ◌<◌}
use Rattle.flat_layout.specs.Layout.{Design, IsHeight, IsPlaced, IsReached, Place}
use Rattle.flat_layout.specs.Nets.{AreListed, AreNets, AreRegions, AreRightBelow, AreTables}
use Rattle.flat_layout.specs.Nets.{CellNets, IsNetsOf, IsUnder, LiesIn, Tables}
use Rattle.flat_layout.specs.Regions.{Node, Touches, Wiring, moved}
use Rattle.geo_base.specs.declared.motion.Motion.{Motion}

-- touching nodes touch after a motion
abbrev pub TouchLaw : Type 0
TouchLaw =
    (w : Wiring) (m : Motion) (a b : Node) → Touches w a b → Touches w (moved m a) (moved m b)

-- over right tables, the nets of each reached cell are the regions of what it keeps
abbrev pub RegionLaw : Type 0
RegionLaw = (d : Design) (w : Wiring) (t : Tables) (height : ℕ → ℕ) → AreTables d w t height
    → (cell : ℕ) → IsReached d cell → AreRegions d w t cell

-- a placed cell's net lies in one net of its parent, and in no other
abbrev pub OneParentLaw : Type 0
OneParentLaw = (d : Design) (w : Wiring) (t : Tables) (height : ℕ → ℕ) → AreTables d w t height
    → (cell k b : ℕ) (p : Place) → IsReached d cell → IsPlaced d cell k p
    → b < (t.nets p.cell).count
    → (x : ℕ) × LiesIn d t cell p b x × ((y : ℕ) → LiesIn d t cell p b y → y ≡ x)

-- over the same tables a cell has one table of nets
abbrev pub OneTableLaw : Type 0
OneTableLaw = (d : Design) (w : Wiring) (t : Tables) (cell : ℕ) (v z : CellNets)
    → AreNets d w t cell v → AreNets d w t cell z → v ≡ z

-- so what a job read of a placed cell is what any right tables say
abbrev pub ReadLaw : Type 0
ReadLaw = (d : Design) (w : Wiring) (t : Tables) (cell k : ℕ) (p : Place) (v : CellNets)
    → AreRightBelow d w t cell → IsPlaced d cell k p → IsNetsOf d w p.cell v → v ≡ t.nets p.cell

-- and where each cell's nets are right by themselves, all are right together
abbrev pub TogetherLaw : Type 0
TogetherLaw = (d : Design) (w : Wiring) (t : Tables) (height : ℕ → ℕ) → IsHeight d height
    → (cell : ℕ) → ((e c : ℕ) → IsUnder d cell e → AreListed d w t e c)
    → ((e : ℕ) → IsUnder d cell e → IsNetsOf d w e (t.nets e))
    → AreNets d w t cell (t.nets cell)
