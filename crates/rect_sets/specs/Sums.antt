-- The sums of the weights of edges in each row.
use Rattle.std.specs.Prelude.{◌≡◌, ℤ, pos, ◌+ℤ◌, ◌-ℤ◌, ◌≤ℤ◌, int_le, int_lt, ◌&&◌, ◌||◌}
use Rattle.std.specs.Prelude.{List, [], ◌∷◌, if◌then◌else◌}
use Rattle.std.specs.List.{All}
use Rattle.geo_base.specs.Rects.{is_between}
use Rattle.rect_sets.specs.Edges.{first_of, second_of, total, is_some, IsEdge}
use Rattle.rect_sets.specs.declared.row.Edge.{Edge}
use Rattle.rect_sets.specs.declared.sums.Begun.{Begun}
use Rattle.rect_sets.specs.declared.sums.End.{End}

-- edges at an upright line whose weights in each row are the sums of those of others
pub record AreSums (x : ℤ) (edges sums : List Edge) : Type 0 where
  pub sound : All IsEdge sums
  pub line : All (λ e. e.x ≡ x) sums
  pub first : (row : ℤ) → total first_of sums row ≡ total first_of edges row
  pub second : (row : ℤ) → total second_of sums row ≡ total second_of edges row

-- the weights of an edge begin at its lower end and are taken back at the upper one
abbrev pub lower : Edge → End
lower e = record { y = e.y1; first = e.first; second = e.second }

abbrev pub upper : Edge → End
upper e = record { y = e.y2; first = pos 0 -ℤ e.first; second = pos 0 -ℤ e.second }

abbrev pub ends_of : List Edge → List End
ends_of [] = []
ends_of (e ∷ edges) = lower e ∷ upper e ∷ ends_of edges

-- what an end changes
abbrev pub first_change : End → ℤ
first_change d = d.first

abbrev pub second_change : End → ℤ
second_change d = d.second

-- the sum over the ends
abbrev pub sum_of : (End → ℤ) → List End → ℤ
sum_of value [] = pos 0
sum_of value (d ∷ ends) = value d +ℤ sum_of value ends

-- what an end adds to the sum of a row
abbrev pub seen_from : (End → ℤ) → ℤ → End → ℤ
seen_from change row d = if int_le d.y row then change d else pos 0

-- from a place on, from low to high
abbrev pub AreFrom : ℤ → List End → Type 0
AreFrom y [] = Unit {0}
AreFrom y (d ∷ ends) = (y ≤ℤ d.y) × AreFrom d.y ends

abbrev pub AreRisingEnds : List End → Type 0
AreRisingEnds [] = Unit {0}
AreRisingEnds (d ∷ ends) = AreFrom d.y ends

-- where the first end is, and a sum that begins there
abbrev pub first_y : List End → ℤ
first_y [] = pos 0
first_y (d ∷ ends) = d.y

abbrev pub start : ℤ → List End → Begun
start x ends = record {
  edge = record { x = x; y1 = first_y ends; y2 = first_y ends; first = pos 0; second = pos 0 };
  first = pos 0;
  second = pos 0;
}

-- the edge, where it has rows and weights
abbrev pub piece : Edge → List Edge
piece e = if int_lt e.y1 e.y2 && (is_some e.first || is_some e.second) then e ∷ [] else []

pub record IsBegun (b : Begun) : Type 0 where
  pub ordered : b.edge.y1 ≤ℤ b.edge.y2

-- the weights above the last edge, up to an end
abbrev pub next_edge : Begun → End → Edge
next_edge b d = record { x = b.edge.x; y1 = b.edge.y2; y2 = d.y; first = b.first; second = b.second }

-- the last edge, and the weights above an end
abbrev pub passed : Begun → Edge → End → Begun
passed b e d = record { edge = e; first = b.first +ℤ d.first; second = b.second +ℤ d.second }

-- a row's sum of a list, the last edge and a weight up to y is that of another list and edge
abbrev pub GoesUp : (Edge → ℤ) → Edge → ℤ → ℤ → List Edge → List Edge → Edge → Type 0
GoesUp field last above y old new e = (row : ℤ) → (total field new row +ℤ total field (e ∷ []) row)
    ≡ ((total field old row +ℤ total field (last ∷ []) row)
    +ℤ (if is_between last.y2 row y then above else pos 0))

-- the edges and the last one reach up to y
pub record IsStep (b : Begun) (y : ℤ) (old new : List Edge) (e : Edge) : Type 0 where
  pub ordered : e.y1 ≤ℤ e.y2
  pub to : e.y2 ≡ y
  pub same_x : e.x ≡ b.edge.x
  pub sound : All IsEdge old → All IsEdge new
  pub line : (x : ℤ) → b.edge.x ≡ x → All (λ f. f.x ≡ x) old → All (λ f. f.x ≡ x) new
  pub first : GoesUp first_of b.edge b.first y old new e
  pub second : GoesUp second_of b.edge b.second y old new e

-- the edges and the last one have the sums of the rows below its upper end; above that are its
-- weights and those of the ends that are left
pub record IsSummed (field : Edge → ℤ) (change : End → ℤ) (all rest : List End) (out : List Edge)
    (last : Edge) (above : ℤ) : Type 0 where
  pub rows : (row : ℤ) → ((total field out row +ℤ total field (last ∷ []) row)
      +ℤ (if int_lt row last.y2 then pos 0 else (above +ℤ sum_of (seen_from change row) rest)))
      ≡ sum_of (seen_from change row) all
  pub end : above +ℤ sum_of change rest ≡ pos 0
