-- Cells that hold nothing of a conductor.
use Rattle.std.specs.Prelude.{◌≡◌, ℕ, Bool, true, false, List, [], get_or, map}
use Rattle.std.specs.Global.{Vec}
use Rattle.geo_base.specs.declared.shapes.Rect.{Rect}
use Rattle.cell_graph.specs.Linked.{Linked, plain}
use Rattle.flat_layout.specs.Layout.{IsPlaced, Place}
use Rattle.net_phase.specs.Own.{own_at}

abbrev pub mark_lists : List (Vec Bool) → List (List Bool)
mark_lists all = map (λ v. v.items) all

-- a marked cell holds no rectangle of the conductor, and places only marked cells
pub record AreBare (d : Linked) (rects : List (List (List Rect))) (c : ℕ)
    (marks : List Bool) : Type 0 where
  pub own : (cell : ℕ) → get_or marks cell false ≡ true → own_at rects cell c ≡ []
  pub placed : (cell k : ℕ) (p : Place) → get_or marks cell false ≡ true
      → IsPlaced (plain d) cell k p → get_or marks p.cell false ≡ true

-- for each conductor
abbrev pub AreAllBare : Linked → List (List (List Rect)) → List (List Bool) → Type 0
AreAllBare d rects all = (c : ℕ) → AreBare d rects c (get_or all c [])
