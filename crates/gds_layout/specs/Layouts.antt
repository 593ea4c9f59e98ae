-- The layout that a stream is, or its first fault.
use Rattle.std.specs.Prelude.{◌≡◌, ◌≢◌, ℕ, List, map, Option, Result, Ok, Err}
use Rattle.gds_elements.specs.declared.library.GdsFault.TheVariants.{Bad}
use Rattle.gds_elements.specs.declared.library.GdsFault.TheVariants.{NoMemory as NoMemoryInStream}
use Rattle.gds_elements.specs.Data.{unit_in}
use Rattle.gds_elements.specs.Units.{IsUnit}
use Rattle.gds_elements.specs.Meaning.{Cell, Library}
use Rattle.gds_elements.specs.Faults.{Accepts, FirstFault, IsAccepted}
use Rattle.gds_elements.specs.Reading.{library_after}
use Rattle.gds_elements.specs.declared.library.Library.{Library as Rest}
use Rattle.cell_graph.specs.declared.drafts.CellDraft.{CellDraft}
use Rattle.cell_graph.specs.declared.drafts.LinkFault.{LinkFault}
use Rattle.cell_graph.specs.declared.drafts.LinkFault.TheVariants.{NoMemory as NoMemoryInLinks}
use Rattle.cell_graph.specs.Drafts.{IsLink, IsFault}
use Rattle.cell_graph.specs.Linked.{keeping}
use Rattle.flat_layout.specs.declared.way.Way.{Way}
use Rattle.gds_layout.specs.declared.layout.Header.{Header}
use Rattle.gds_layout.specs.declared.layout.Layout.{Layout}
use Rattle.gds_layout.specs.declared.layout.LayoutFault.{LayoutFault}
use Rattle.gds_layout.specs.declared.layout.LayoutFault.TheVariants.{Gds, Link, NoMemory}
use Rattle.gds_layout.specs.declared.drafts.Drawn.{Drawn}
use Rattle.gds_layout.specs.Drafts.{AreDraftsOf, AreDrawn}

-- what stands before the cells; the unit is UNITS's second real in picometres
pub record IsHeaderOf (v : Library) (h : Header) : Type 0 where
  pub version : h.version ≡ v.version
  pub dates : h.dates ≡ v.dates
  pub name : h.name.items ≡ v.name
  pub units : h.units ≡ v.units
  pub unit : IsUnit (unit_in v.units) h.unit_pm

-- the library's header and dates, and its cells linked from the top of this name, or from the only
-- cell that none refers to
pub record IsLayoutOf (v : Library) (top : Option (List ℕ)) (l : Layout) : Type 0 where
  pub header : IsHeaderOf v l.header
  pub cell_dates : l.cell_dates.items ≡ map (λ c. c.dates) v.cells
  pub drafts : List CellDraft
  pub drafted : AreDraftsOf v.cells drafts
  pub linked : IsLink drafts top l.design

-- the bytes are accepted, and this is their layout
pub record IsRead (bytes : List ℕ) (top : Option (List ℕ)) (l : Layout) : Type 0 where
  pub library : Library
  pub accepted : Accepts bytes library
  pub layout : IsLayoutOf library top l

-- the first fault in linking the library's cells from the top
pub record IsNotLinked (v : Library) (top : Option (List ℕ)) (f : LinkFault) : Type 0 where
  pub drafts : List CellDraft
  pub drafted : AreDraftsOf v.cells drafts
  pub fault : IsFault drafts top f

-- a fault of linking, and no want of memory
abbrev pub IsLinkFault : Library → Option (List ℕ) → LinkFault → Type 0
IsLinkFault v top NoMemoryInLinks = ⊥
IsLinkFault v top f = IsNotLinked v top f

-- the fault of an accepted library
abbrev pub IsFaultOfLibrary : Library → Option (List ℕ) → LayoutFault → Type 0
IsFaultOfLibrary v top (Gds f) = ⊥
IsFaultOfLibrary v top (Link f) = IsLinkFault v top f
IsFaultOfLibrary v top NoMemory = Unit {0}

-- the stream's first fault; where it is accepted, the first fault of its cells. Want of memory is
-- said in one way
abbrev pub IsFaultOf : List ℕ → Option (List ℕ) → LayoutFault → Type 0
IsFaultOf bytes top (Gds (Bad number index offset)) = FirstFault bytes number index offset
IsFaultOf bytes top (Gds NoMemoryInStream) = ⊥
IsFaultOf bytes top (Link f) = (v : Library) × Accepts bytes v × IsLinkFault v top f
IsFaultOf bytes top NoMemory = Unit {0}

-- the answer is the layout of the bytes, or their first fault
abbrev pub IsAnswer : List ℕ → Option (List ℕ) → Result Layout LayoutFault → Type 0
IsAnswer bytes top (Ok l) = IsRead bytes top l
IsAnswer bytes top (Err f) = IsFaultOf bytes top f

-- where the stream has this first fault, nothing else is answered but want of memory
abbrev pub OnlyStreamFault : ℕ → ℕ → ℕ → Result Layout LayoutFault → Type 0
OnlyStreamFault number index offset (Ok l) = ⊥
OnlyStreamFault number index offset (Err (Gds (Bad n i o))) =
    (n ≡ number) × (i ≡ index) × (o ≡ offset)
OnlyStreamFault number index offset (Err (Gds NoMemoryInStream)) = ⊥
OnlyStreamFault number index offset (Err (Link f)) = ⊥
OnlyStreamFault number index offset (Err NoMemory) = Unit {0}

-- where the stream is accepted, no fault of it is answered
abbrev pub IsPastStream : Result Layout LayoutFault → Type 0
IsPastStream (Err (Gds f)) = ⊥
IsPastStream _ = Unit {0}

-- a fault is told exactly where the bytes fed have one that more bytes don't mend
abbrev pub Tells : List ℕ → Result (Unit {0}) LayoutFault → Type 0
Tells fed (Ok u) = (number index offset : ℕ) → number ≢ 1 → FirstFault fed number index offset → ⊥
Tells fed (Err (Gds (Bad number index offset))) = FirstFault fed number index offset × (number ≢ 1)
Tells fed (Err (Gds NoMemoryInStream)) = ⊥
Tells fed (Err (Link f)) = ⊥
Tells fed (Err NoMemory) = Unit {0}

-- the structures drawn so far and those left are an accepted library's
pub record IsRestOf (rest : Rest) (d : Drawn) : Type 0 where
  pub taken : List Cell
  pub drawn : AreDrawn taken d
  pub accepted : IsAccepted (library_after taken rest)

-- the same layout, whose cells keep squares in this way
abbrev pub kept_as : Way → Layout → Layout
kept_as way l = record l { design = keeping way l.design }
