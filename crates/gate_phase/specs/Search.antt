-- What was found around seeds.
use Rattle.std.specs.Prelude.{ℕ, List}
use Rattle.geo_base.specs.declared.shapes.Rect.{Rect}
use Rattle.flat_layout.specs.Gates.{Geometry}
use Rattle.flat_layout.specs.Layout.{Design}
use Rattle.gate_search.specs.SearchLaws.{IsSearch}
use Rattle.gate_phase.specs.Both.{ArePartsAround, IsReadyRegion, region_formula}
use Rattle.gate_phase.specs.Site.{layout_at}
use Rattle.gate_phase.specs.declared.device.Region.{Region}
use Rattle.gate_phase.specs.declared.site.Site.{Site}

-- the parts of what was gathered around seeds that hold all squares where gates may begin
abbrev pub AreSearched : Design → Geometry → ℕ → List (List Rect) → Type 0
AreSearched d g cell parts =
    (seeds found : List Rect) × IsSearch d g cell seeds found parts

-- a region's names in a cell, and the parts of its layer there around some squares
abbrev pub IsRegionAt : Site → Region → Type 0
IsRegionAt site g = IsReadyRegion site.design.now site.rules.now site.zones.now site.cell g

abbrev pub ArePartsAt : Site → Region → List Rect → List (List Rect) → Type 0
ArePartsAt site g seeds parts =
    ArePartsAround (layout_at site) site.cell (region_formula site.rules.now g) seeds parts
