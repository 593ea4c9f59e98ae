-- Hulls as rectangles of a design.
use Rattle.std.proofs.Common.{◌↔◌, ℕ, Option, Some, None}
use Rattle.geo_base.specs.declared.shapes.Rect.{Rect}
use Rattle.geo_base.specs.declared.shapes.Square.{Square}
use Rattle.flat_layout.specs.Hull.{IsHullOf, IsInHull}
use Rattle.flat_layout.specs.Layout.{Design}
use Rattle.cell_graph.specs.Linked.{plain, hull_of, cell_at}
use Rattle.cell_graph.proofs.Bridge.{has_in, in_has}
use Rattle.table_laws.proofs.Corners as corners
use Rattle.deep_tables.specs.Frames.{grown, IsInGrown, FrameLaw, OpenFrameLaw}

-- a cell's grown hull, by its hull
pub in_hull : (d : Design) (n cell : ℕ) (o : Option Rect) (q : Square) → IsHullOf d cell o → IsInHull d cell n q ↔ IsInGrown n o q
in_hull d n cell None q none = ((λ h. corners.none d cell n q none h), (λ h. absurd h))
in_hull d n cell (Some r) q is =
    let law = corners.grown d cell n r q is in (
      (λ h. let g = law.0 h in in_has (grown n r) q (g.left, g.right, g.low, g.high)),
      (λ h. let g = has_in (grown n r) q h in law.1 (record { left = g.0; right = g.1; low = g.2; high = g.3 })),
    )

pub framed : FrameLaw
framed d keys n cell zone is canonical = (
  (λ h q.
      let hull = in_hull (plain d) n cell (hull_of (cell_at d cell)) q is in
      ((λ c. let g = (h.each q).0 c in (g.0, hull.0 g.1)), (λ g. (h.each q).1 (g.0, hull.1 g.1)))),
  (λ h. record {
    canonical = canonical;
    each = λ q.
        let hull = in_hull (plain d) n cell (hull_of (cell_at d cell)) q is in
        ((λ c. let g = (h q).0 c in (g.0, hull.1 g.1)), (λ g. (h q).1 (g.0, hull.0 g.1)));
  }),
)

pub framed_open : OpenFrameLaw
framed_open d keys n cell zone is canonical = (
  (λ h. record {
    inside = λ q c. let g = h.inside q c in ((at q).0 g.0, g.1);
    shut = λ q inner off. h.shut q ((at q).1 inner) off;
  }),
  (λ h. record {
    canonical = canonical;
    inside = λ q c. let g = h.inside q c in ((at q).1 g.0, g.1);
    shut = λ q inner off. h.shut q ((at q).0 inner) off;
  }),
)
  where
    at : (q : Square) → IsInHull (plain d) cell n q ↔ IsInGrown n (hull_of (cell_at d cell)) q
    at q = in_hull (plain d) n cell (hull_of (cell_at d cell)) q is
