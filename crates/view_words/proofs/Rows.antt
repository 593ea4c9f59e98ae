-- Rows of rectangles, one behind the other.
use Rattle.std.proofs.Common.{◌≡◌, ◌∙◌, ℕ, ◌-◌, ◌≤◌, List, [], ◌∷◌, ◌++◌, length, take, drop, get_or, sym, ap, subst, arith, append_assoc}
use Rattle.std.specs.List.{All}
use Rattle.std.proofs.lemmas.List.{take_all}
use Rattle.std.proofs.lemmas.List.Elements.{All-head, All-tail}
use Rattle.geo_base.specs.declared.shapes.Point.{Point}
use Rattle.geo_base.specs.declared.shapes.Rect.{Rect}
use Rattle.view_words.specs.Numbers.{IsSmall, IsSmallRect}
use Rattle.view_words.specs.Steps.{last_corner, step_row, step_rows, step_to, steps, upper_right}

-- the rows that are written, and what is left of the rectangles
pub record RowsSoFar (layer out : List ℕ) (corner : Point) (rest : List Rect) (initial : List ℕ) (from : Point) (all : List Rect) : Type 0 where
  pub text : out ++ step_rows layer (steps corner rest) ≡ initial ++ step_rows layer (steps from all)
  pub corner_of : last_corner corner rest ≡ last_corner from all
  pub x : IsSmall corner.x
  pub y : IsSmall corner.y
  pub small : All IsSmallRect rest

pub first_and_rest : {A : Type 0} (xs : List A) (d : A) → 1 ≤ length xs → xs ≡ get_or xs 0 d ∷ take (length xs - 1) (drop 1 xs)
first_and_rest [] d h = absurd (omega (arith, h))
first_and_rest {A = A} (y ∷ ys) d h = ap (λ (zs : List A). y ∷ zs) (sym (take_all (length (y ∷ ys) - 1) ys (omega arith)))

more_rows : (layer out : List ℕ) (corner : Point) (x : Rect) (more : List Rect) (initial : List ℕ) (from : Point) (all : List Rect)
    → RowsSoFar layer out corner (x ∷ more) initial from all
    → RowsSoFar layer (out ++ step_row layer (step_to corner x)) (upper_right x) more initial from all
more_rows layer out corner x more initial from all h =
    let small : IsSmallRect x = All-head IsSmallRect x more h.small in
    record {
      text = append_assoc out (step_row layer (step_to corner x)) (step_rows layer (steps (upper_right x) more)) ∙ h.text;
      corner_of = h.corner_of;
      x = small.x2;
      y = small.y2;
      small = All-tail IsSmallRect x more h.small;
    }

-- one row more is written
pub row_more : (layer out new : List ℕ) (corner next : Point) (x : Rect) (rest more : List Rect) (initial : List ℕ) (from : Point) (all : List Rect)
    → RowsSoFar layer out corner rest initial from all → rest ≡ x ∷ more
    → new ≡ out ++ step_row layer (step_to corner x) → next ≡ upper_right x → RowsSoFar layer new next more initial from all
row_more layer out new corner next x rest more initial from all h e f g =
    let here = more_rows layer out corner x more initial from all (subst (λ (rs : List Rect). RowsSoFar layer out corner rs initial from all) e h) in
    subst (λ (o : List ℕ). RowsSoFar layer o next more initial from all) (sym f)
    (subst (λ (p : Point). RowsSoFar layer (out ++ step_row layer (step_to corner x)) p more initial from all) (sym g) here)
