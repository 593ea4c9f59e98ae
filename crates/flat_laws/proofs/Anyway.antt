-- Paths, reached cells and hulls don't ask in which way cells keep squares.
use Rattle.std.proofs.Common.{ℕ, List, [], ◌∷◌, Option, Some, None}
use Rattle.flat_layout.specs.Hull.{TakesPoint, IsHullPoint, IsInHull, IsHullRect, IsHullOf}
use Rattle.flat_layout.specs.Layout.{Cell, Design, Leads, Takes, IsReached}
use Rattle.flat_layout.specs.declared.way.Way.{Way}
use Rattle.geo_base.specs.declared.shapes.Point.{Point}
use Rattle.geo_base.specs.declared.shapes.Rect.{Rect}
use Rattle.geo_base.specs.declared.shapes.Square.{Square}

abbrev pub design : List Cell → ℕ → Way → Design
design cells top way = record { cells = cells; top = top; way = way }

module _ (cells : List Cell) (top : ℕ) (v w : Way) where
  abbrev D : Design
  D = design cells top v

  abbrev E : Design
  E = design cells top w

  pub leads : (from : ℕ) (path : List ℕ) (to : ℕ) → Leads D from path to → Leads E from path to
  leads from [] to h = h
  leads from (k ∷ ks) to h = (h.0, h.1, leads h.0.cell ks to h.2)

  pub reached : (cell : ℕ) → IsReached D cell → IsReached E cell
  reached cell h = record { path = h.path; leads = leads top h.path cell h.leads }

  pub takes : (from : ℕ) (path : List ℕ) (to : ℕ) (s q : Square) → Takes D from path to s q → Takes E from path to s q
  takes from [] to s q h = h
  takes from (k ∷ ks) to s q h = (h.0, h.1, h.2, takes h.0.cell ks to s h.2 h.3, h.4)

  pub takes_point : (from : ℕ) (path : List ℕ) (to : ℕ) (s q : Point) → TakesPoint D from path to s q → TakesPoint E from path to s q
  takes_point from [] to s q h = h
  takes_point from (k ∷ ks) to s q h = (h.0, h.1, h.2, takes_point h.0.cell ks to s h.2 h.3, h.4)

  hull_point : (cell : ℕ) (p : Point) → IsHullPoint D cell p → IsHullPoint E cell p
  hull_point cell p h = record { path = h.path; end = h.end; point = h.point; takes = takes_point cell h.path h.end h.point p h.takes; own = h.own }

  pub in_hull : (cell n : ℕ) (q : Square) → IsInHull D cell n q → IsInHull E cell n q
  in_hull cell n q h = record {
    west = (h.west.0, hull_point cell h.west.0 h.west.1, h.west.2);
    east = (h.east.0, hull_point cell h.east.0 h.east.1, h.east.2);
    south = (h.south.0, hull_point cell h.south.0 h.south.1, h.south.2);
    north = (h.north.0, hull_point cell h.north.0 h.north.1, h.north.2);
    wide = (h.wide.0, h.wide.1, hull_point cell h.wide.0 h.wide.2, hull_point cell h.wide.1 h.wide.3, h.wide.4);
    tall = (h.tall.0, h.tall.1, hull_point cell h.tall.0 h.tall.2, hull_point cell h.tall.1 h.tall.3, h.tall.4);
  }

-- the hull, from either way to the other
hull_rect : (cells : List Cell) (top : ℕ) (v w : Way) (cell : ℕ) (h : Rect) → IsHullRect (design cells top v) cell h → IsHullRect (design cells top w) cell h
hull_rect cells top v w cell h is =
    let to = hull_point cells top v w cell in
    record {
      wide = is.wide;
      tall = is.tall;
      holds = λ p i. is.holds p (hull_point cells top w v cell p i);
      west = (is.west.0, to is.west.0 is.west.1, is.west.2);
      east = (is.east.0, to is.east.0 is.east.1, is.east.2);
      south = (is.south.0, to is.south.0 is.south.1, is.south.2);
      north = (is.north.0, to is.north.0 is.north.1, is.north.2);
    }

pub hull_is : (cells : List Cell) (top : ℕ) (v w : Way) (cell : ℕ) (o : Option Rect) → IsHullOf (design cells top v) cell o → IsHullOf (design cells top w) cell o
hull_is cells top v w cell None none = λ q h. none q (in_hull cells top w v cell 0 q h)
hull_is cells top v w cell (Some h) is = hull_rect cells top v w cell h is
