-- The vertical edges of a line of points, as the sweep takes them.
use Rattle.std.specs.Prelude.{pos, negsuc, int_lt, List, [], ◌∷◌, ◌++◌, if◌then◌else◌}
use Rattle.geo_base.specs.declared.shapes.Point.{Point}
use Rattle.rect_sets.specs.declared.row.Edge.{Edge}

-- of weight 1 where it goes up and -1 where it goes down; none where a and b have one height
abbrev pub edges_between : Point → Point → List Edge
edges_between a b =
    if int_lt a.y b.y then record {
      x =
          a.x;
      y1 = a.y;
      y2 = b.y;
      first = pos 1;
      second = pos 0;
    } ∷ []
    else (if int_lt b.y a.y then record {
      x =
          a.x;
      y1 = b.y;
      y2 = a.y;
      first = negsuc 0;
      second = pos 0;
    } ∷ [] else [])

-- those of the line that begins at p and goes through the points
abbrev pub edges_from : Point → List Point → List Edge
edges_from p [] = []
edges_from p (q ∷ points) = edges_between p q ++ edges_from q points

-- those of a line of points
abbrev pub edges_along : List Point → List Edge
edges_along [] = []
edges_along (p ∷ points) = edges_from p points
