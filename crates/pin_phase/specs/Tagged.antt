-- The tags of the nets of a cell.
use Rattle.std.specs.Prelude.{◌≡◌, ◌↔◌, ℕ, List, Some, length, slice_get}
use Rattle.cell_graph.specs.declared.cells.RawText.{RawText}
use Rattle.cell_graph.specs.Linked.{plain_text}
use Rattle.flat_layout.specs.Layout.{Design, HasText, Text}
use Rattle.flat_layout.specs.Nets.{NetHolds, Tables}
use Rattle.flat_layout.specs.Pins.{IsTag}
use Rattle.flat_layout.specs.Regions.{Ground, Wiring}
use Rattle.pin_phase.specs.Corners.{HasCorner}
use Rattle.pin_phase.specs.Sets.{Has, OfSome}
use Rattle.pin_phase.specs.declared.lines.TextLine.{TextLine}

-- the line connects the text's layer to a conductor of which the net has a square at the text
pub record IsLineTag (d : Design) (t : Tables) (cell : ℕ) (text : RawText) (line : TextLine) (x : ℕ)
    (s : List ℕ) : Type 0 where
  pub key : line.key ≡ text.key
  pub corner : HasCorner d t cell line.conductor text.at x
  pub string : s ≡ text.text.items

-- some line does
abbrev pub IsRawTag : Design → Tables → ℕ → List TextLine → RawText → ℕ → List ℕ → Type 0
IsRawTag d t cell lines text x s = OfSome (λ i line. IsLineTag d t cell text line) lines x s

-- the net holds the global of this number and name
abbrev pub IsGlobalTag : Design → Tables → ℕ → ℕ → List ℕ → ℕ → List ℕ → Type 0
IsGlobalTag d t cell g name x s = NetHolds d t cell x (Ground g) × (s ≡ name)

-- these are the cell's texts
abbrev pub AreTextsOf : Design → ℕ → List RawText → Type 0
AreTextsOf d cell texts = (text : Text) → HasText d cell text
    ↔ ((i : ℕ) × (raw : RawText) × (slice_get texts i ≡ Some raw) × (plain_text raw ≡ text))

-- each net has exactly its tags
pub record AreTags (d : Design) (w : Wiring) (t : Tables) (cell : ℕ)
    (tags : List (List (List ℕ))) : Type 0 where
  pub count : length tags ≡ (t.nets cell).count
  pub each : (x : ℕ) (s : List ℕ) → Has tags x s ↔ IsTag d w t cell x s
