-- The layout on which a run by some rules works.
use Rattle.std.specs.Prelude.{◌≡◌, ◌≢◌, ◌⊎◌, ℕ, List, Option}
use Rattle.cell_graph.specs.declared.drafts.LinkFault.TheVariants.{CoordinateRange}
use Rattle.gds_layout.specs.Layouts.{IsFaultOf, IsRead}
use Rattle.gds_layout.specs.Once.{IsAlike}
use Rattle.gds_layout.specs.declared.layout.Layout.{Layout}
use Rattle.gds_layout.specs.declared.layout.LayoutFault.{LayoutFault}
use Rattle.gds_layout.specs.declared.layout.LayoutFault.TheVariants.{Link, NoMemory}
use Rattle.layout_shapes.specs.Writable.{FitsStream}
use Rattle.rule_layers.specs.Meaning.{way_of}
use Rattle.rule_stages.specs.Stages.{stages_of}
use Rattle.rule_text.specs.Rules.{Rules}
use Rattle.rule_text.specs.Sound.{IsSound}
use Rattle.run_layout.specs.Far.{IsFirstFar, IsNear}
use Rattle.staged_layouts.specs.Staged.{IsStagedLayout, ShowsSelections}

-- what these bytes are read as from the top, whose cells keep squares in the rules' way
pub record IsDrawnLayout (bytes : List ℕ) (top : Option (List ℕ)) (r : Rules) (l : Layout) : Type 0
  where
    pub read : IsRead bytes top l
    pub way : l.design.way ≡ way_of r
    pub rules : IsSound r

-- with the rules' selections as further layers, which show the flat selections; no hull, grown as
-- far as these may reach, leaves the range
pub record IsRunLayout (bytes : List ℕ) (top : Option (List ℕ)) (r : Rules) (l : Layout) : Type 0
  where
    pub drawn : Layout
    pub is : IsDrawnLayout bytes top r drawn
    pub near : IsNear r drawn
    pub staged : IsStagedLayout (stages_of r) drawn l
    pub shows : ShowsSelections (stages_of r) drawn l

-- a hull does, that of the cell of this name first
pub record IsTooFar (bytes : List ℕ) (top : Option (List ℕ)) (r : Rules) (name : List ℕ) : Type 0
  where
    pub drawn : Layout
    pub is : IsDrawnLayout bytes top r drawn
    pub far : IsFirstFar r drawn name

-- the fault of the bytes; where they have none, that of the selections
abbrev pub IsRunFault : List ℕ → Option (List ℕ) → Rules → LayoutFault → Type 0
IsRunFault bytes top r fault = IsFaultOf bytes top fault
    ⊎ ((name : List ℕ) × (fault ≡ Link (CoordinateRange name)) × IsTooFar bytes top r name)

-- bytes and rules have one such layout
abbrev pub OneRunLayoutLaw : Type 0
OneRunLayoutLaw = (bytes : List ℕ) (top : Option (List ℕ)) (r : Rules) (l m : Layout)
    → IsRunLayout bytes top r l → IsRunLayout bytes top r m → IsAlike l m

-- or one fault, want of memory apart
abbrev pub NoRunFaultLaw : Type 0
NoRunFaultLaw = (bytes : List ℕ) (top : Option (List ℕ)) (r : Rules) (l : Layout)
    (fault : LayoutFault) → IsRunLayout bytes top r l → IsRunFault bytes top r fault
    → fault ≡ NoMemory

abbrev pub OneRunFaultLaw : Type 0
OneRunFaultLaw = (bytes : List ℕ) (top : Option (List ℕ)) (r : Rules) (f g : LayoutFault)
    → IsRunFault bytes top r f → IsRunFault bytes top r g → f ≢ NoMemory → g ≢ NoMemory → f ≡ g

-- it fits a stream as what was drawn does
abbrev pub RunFitsLaw : Type 0
RunFitsLaw = (bytes : List ℕ) (top : Option (List ℕ)) (r : Rules) (l : Layout)
    → (x : IsRunLayout bytes top r l) → FitsStream x.drawn → FitsStream l
