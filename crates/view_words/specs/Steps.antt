-- Rectangles as the reader takes them: each by the step from the upper right corner of the one
-- before to its lower left corner, and by width and height.
use Rattle.std.specs.Prelude.{ℕ, ◌+ℤ◌, ◌-ℤ◌, List, [], ◌∷◌, ◌++◌, codes}
use Rattle.geo_base.specs.declared.shapes.Point.{Point}
use Rattle.geo_base.specs.declared.shapes.Rect.{Rect}
use Rattle.view_words.specs.declared.rects.Step.{Step}
use Rattle.view_words.specs.Numbers.{pair_text}
use Rattle.view_words.specs.Words.{word}

abbrev pub upper_right : Rect → Point
upper_right r = record { x = r.x2; y = r.y2 }

-- the step from a corner to a rectangle
abbrev pub step_to : Point → Rect → Step
step_to p r = record {
  dx = r.x1 -ℤ p.x;
  dy = r.y1 -ℤ p.y;
  width = r.x2 -ℤ r.x1;
  height = r.y2 -ℤ r.y1;
}

-- the rectangle that a step leads to
abbrev pub stepped : Point → Step → Rect
stepped p s = record {
  x1 = p.x +ℤ s.dx;
  y1 = p.y +ℤ s.dy;
  x2 = p.x +ℤ s.dx +ℤ s.width;
  y2 = p.y +ℤ s.dy +ℤ s.height;
}

-- the steps along a list of rectangles
abbrev pub steps : Point → List Rect → List Step
steps p [] = []
steps p (r ∷ rects) = step_to p r ∷ steps (upper_right r) rects

-- the rectangles along a list of steps, as the reader makes them
abbrev pub walked : Point → List Step → List Rect
walked p [] = []
walked p (s ∷ more) = stepped p s ∷ walked (upper_right (stepped p s)) more

-- where the next step begins
abbrev pub last_corner : Point → List Rect → Point
last_corner p [] = p
last_corner p (r ∷ rects) = last_corner (upper_right r) rects

abbrev pub step_text : Step → List ℕ
step_text s = pair_text s.dx s.dy ++ 0x20 ∷ pair_text s.width s.height

-- the row `R(LAYER (DX DY) (W H))` of a step
abbrev pub step_row : List ℕ → Step → List ℕ
step_row layer s = codes "\n   R(" ++ (word layer ++ (0x20 ∷ (step_text s ++ 0x29 ∷ [])))

abbrev pub step_rows : List ℕ → List Step → List ℕ
step_rows layer [] = []
step_rows layer (s ∷ more) = step_row layer s ++ step_rows layer more
