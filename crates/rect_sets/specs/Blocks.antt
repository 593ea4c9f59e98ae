-- Edges that are swept.
use Rattle.std.specs.Prelude.{◌≡◌, ℕ, ℤ, ◌+ℤ◌, ◌≤ℤ◌, Bool, List, [], ◌∷◌, length, drop, ◌+◌, ◌<◌}
use Rattle.std.specs.Prelude.{slice_index_or}
use Rattle.std.specs.List.{All}
use Rattle.rect_sets.specs.Edges.{sum_where, set_of}
use Rattle.rect_sets.specs.Actives.{leftmost, Follows, AreNext, Ignores, IsReady}
use Rattle.rect_sets.specs.Sweeps.{Swept}
use Rattle.geo_base.specs.declared.shapes.Rect.{Rect}
use Rattle.rect_sets.specs.declared.opens.Open.{Open}
use Rattle.rect_sets.specs.declared.row.Edge.{Edge}
use Rattle.geo_base.specs.declared.layer.Op.{Op}

-- by y1, then x
abbrev pub InSweepOrder : List Edge → Type 0
InSweepOrder [] = Unit {0}
InSweepOrder (e ∷ edges) = AreNext e.y1 leftmost (e ∷ edges)

-- below y all is swept, and the active edges and those to come are all that count from there on
pub record SweepState (op : Op) (edges : List Edge) (y : ℤ) (at : ℕ) (active : List Edge)
    (opens : List Open) (closed : List Rect) : Type 0 where
  pub swept : Swept (set_of op edges) y opens closed
  pub ready : IsReady y active edges at
  pub part : (test : Edge → Bool) (field : Edge → ℤ) → Ignores y test
      → (sum_where test field active +ℤ sum_where test field (drop at edges))
      ≡ sum_where test field edges

-- none is left of all numbers of 64 bits
abbrev pub HaveRoom : List Edge → Type 0
HaveRoom edges = All (λ e. leftmost ≤ℤ e.x) edges

-- neighbours are in order
abbrev pub AreSortedEdges : List Edge → Type 0
AreSortedEdges edges = (k : ℕ) (d : Edge) → k + 1 < length edges
    → Follows (slice_index_or edges k d).y1 (slice_index_or edges k d).x
    (slice_index_or edges (k + 1) d)
