-- Rows of a net's rectangles, one behind the other.
use Rattle.std.proofs.Common.{◌≡◌, ◌∙◌, ℕ, List, [], ◌∷◌, ◌++◌, get_or, sym, subst, append_assoc}
use Rattle.std.proofs.lemmas.List.Elements.{All-head, All-tail}
use Rattle.geo_base.specs.declared.shapes.Point.{Point}
use Rattle.view_words.specs.Numbers.{IsSmall, IsSmallRect}
use Rattle.view_words.specs.Steps.{step_row, step_to, upper_right}
use Rattle.view_netlist.specs.Drawing.{AreSmallShapes, shape_rows}
use Rattle.view_netlist.specs.declared.drawing.Shape.{Shape}

-- the rows that are written, and what is left of the rectangles
pub record ShapesSoFar (layers : List (List ℕ)) (out : List ℕ) (corner : Point) (rest : List Shape) (initial : List ℕ) (from : Point) (all : List Shape) : Type 0 where
  pub text : out ++ shape_rows layers corner rest ≡ initial ++ shape_rows layers from all
  pub x : IsSmall corner.x
  pub y : IsSmall corner.y
  pub small : AreSmallShapes rest

more_shapes : (layers : List (List ℕ)) (out : List ℕ) (corner : Point) (s : Shape) (more : List Shape) (initial : List ℕ) (from : Point) (all : List Shape)
    → ShapesSoFar layers out corner (s ∷ more) initial from all
    → ShapesSoFar layers (out ++ step_row (get_or layers s.layer []) (step_to corner s.rect)) (upper_right s.rect) more initial from all
more_shapes layers out corner s more initial from all h =
    let small : IsSmallRect s.rect = All-head (λ (o : Shape). IsSmallRect o.rect) s more h.small in
    record {
      text = append_assoc out (step_row (get_or layers s.layer []) (step_to corner s.rect)) (shape_rows layers (upper_right s.rect) more) ∙ h.text;
      x = small.x2;
      y = small.y2;
      small = All-tail (λ (o : Shape). IsSmallRect o.rect) s more h.small;
    }

-- one row more is written
pub shape_more : (layers : List (List ℕ)) (out new : List ℕ) (corner next : Point) (s : Shape) (rest more : List Shape) (initial : List ℕ) (from : Point) (all : List Shape)
    → ShapesSoFar layers out corner rest initial from all → rest ≡ s ∷ more
    → new ≡ out ++ step_row (get_or layers s.layer []) (step_to corner s.rect) → next ≡ upper_right s.rect → ShapesSoFar layers new next more initial from all
shape_more layers out new corner next s rest more initial from all h e f g =
    let here = more_shapes layers out corner s more initial from all (subst (λ (ss : List Shape). ShapesSoFar layers out corner ss initial from all) e h) in
    subst (λ (o : List ℕ). ShapesSoFar layers o next more initial from all) (sym f)
    (subst (λ (p : Point). ShapesSoFar layers (out ++ step_row (get_or layers s.layer []) (step_to corner s.rect)) p more initial from all) (sym g) here)
