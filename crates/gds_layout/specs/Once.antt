-- A byte list is one layout or has one first fault.
use Rattle.std.specs.Prelude.{◌≡◌, ◌≢◌, ℕ, List, map, Option}
use Rattle.flat_layout.specs.Layout as flat
use Rattle.cell_graph.specs.declared.cells.CellPart.{CellPart}
use Rattle.cell_graph.specs.declared.cells.Place.{Place}
use Rattle.cell_graph.specs.Linked.{plain_cell}
use Rattle.gds_layout.specs.declared.layout.Header.{Header}
use Rattle.gds_layout.specs.declared.layout.Layout.{Layout}
use Rattle.gds_layout.specs.declared.layout.LayoutFault.{LayoutFault}
use Rattle.gds_layout.specs.declared.layout.LayoutFault.TheVariants.{NoMemory}
use Rattle.gds_layout.specs.Layouts.{IsRead, IsFaultOf}

-- what stands before the cells is the same
pub record IsSameHeader (a b : Header) : Type 0 where
  pub version : a.version ≡ b.version
  pub dates : a.dates ≡ b.dates
  pub name : a.name.items ≡ b.name.items
  pub units : a.units ≡ b.units
  pub unit : a.unit_pm ≡ b.unit_pm

-- what a cell draws, and its references
abbrev pub contents : CellPart → flat.Cell × List Place
contents c = (plain_cell c, c.places.items)

-- header, dates, what the cells draw and place, and the top are the same
pub record IsSameLayout (l m : Layout) : Type 0 where
  pub header : IsSameHeader l.header m.header
  pub dates : l.cell_dates.items ≡ m.cell_dates.items
  pub cells : map contents l.design.cells ≡ map contents m.design.cells
  pub top : l.design.top ≡ m.design.top

-- and the cells keep squares in one way
pub record IsAlike (l m : Layout) : Type 0 where
  pub same : IsSameLayout l m
  pub way : l.design.way ≡ m.design.way

-- bytes are read as one layout
abbrev pub OneLayoutLaw : Type 0
OneLayoutLaw = (bytes : List ℕ) (top : Option (List ℕ)) (l m : Layout) → IsRead bytes top l
    → IsRead bytes top m → IsSameLayout l m

-- and what is read has no fault, want of memory apart
abbrev pub NoFaultLaw : Type 0
NoFaultLaw = (bytes : List ℕ) (top : Option (List ℕ)) (l : Layout) (f : LayoutFault)
    → IsRead bytes top l → IsFaultOf bytes top f → f ≡ NoMemory

-- bytes have one first fault at most, want of memory apart
abbrev pub OneFaultLaw : Type 0
OneFaultLaw = (bytes : List ℕ) (top : Option (List ℕ)) (f g : LayoutFault) → IsFaultOf bytes top f
    → IsFaultOf bytes top g → f ≢ NoMemory → g ≢ NoMemory → f ≡ g
