-- Indexes of what stands in cells.
use Rattle.std.specs.Prelude.{◌≡◌, ◌≤◌, ℕ, pos, List, Option, Some, None, map}
use Rattle.std.specs.Global.{Vec}
use Rattle.geo_base.specs.Rects.{moved_rect, grown}
use Rattle.geo_base.specs.declared.shapes.Rect.{Rect}
use Rattle.cell_graph.specs.Linked.{Linked, cell_at, hull_of}
use Rattle.flat_layout.specs.Layers.{reach}
use Rattle.flat_layout.specs.Regions.{formula}
use Rattle.rule_layers.specs.Meaning.{wiring_of}
use Rattle.rule_text.specs.Rules.{Rules}
use Rattle.net_walk.specs.declared.cells.Element.{Element}
use Rattle.net_phase.specs.Bare.{AreAllBare, mark_lists}
use Rattle.net_phase.specs.declared.indexes.Indexes.{Indexes}

abbrev pub index_lists : List (Vec (List Rect)) → List (List (List Rect))
index_lists all = map (λ v. v.items) all

-- no conductor reaches further: so far outside a cell's hull a net's squares may lie
pub record IsNetReach (r : Rules) (n : ℕ) : Type 0 where
  pub all : (c : ℕ) → reach (formula (wiring_of r) c) ≤ n
  pub most : n ≤ 10000

-- what bounds the nets of a cell: its hull, grown so far; nothing where it has no square
abbrev pub bound_by : ℕ → Option Rect → Option Rect
bound_by n None = None
bound_by n (Some hull) = Some (grown n hull)

abbrev pub bound_of : ℕ → Linked → ℕ → Option Rect
bound_of n d cell = bound_by n (hull_of (cell_at d cell))

-- what bounds the nets of a placed cell, as its placement brings it there; an empty rectangle where
-- there is nothing
abbrev pub span_by : Element → Option Rect → Rect
span_by e None = record { x1 = pos 0; y1 = pos 0; x2 = pos 0; y2 = pos 0 }
span_by e (Some bound) = moved_rect e.motion bound

abbrev pub span_of : ℕ → Linked → Element → Rect
span_of n d e = span_by e (bound_of n d e.cell)

abbrev pub spans_of : ℕ → Linked → List Element → List Rect
spans_of n d elements = map (span_of n d) elements

-- the indexes are of the own rectangles, by cell and conductor, and of what bounds the placements
-- for what the conductors reach; marked cells hold nothing of a conductor
pub record AreIndexes (d : Linked) (r : Rules) (rects : List (List (List Rect)))
    (elements : List (List Element)) (x : Indexes) : Type 0 where
  pub own : index_lists x.own.items ≡ rects
  pub spans : x.spans.items ≡ map (spans_of x.reach d) elements
  pub reach : IsNetReach r x.reach
  pub bare : AreAllBare d rects (mark_lists x.bare.items)
