-- A set swept from below, row by row.
use Rattle.std.specs.Prelude.{◌≡◌, ◌⊎◌, ◌↔◌, ℤ, pos, ◌-ℤ◌, ◌≤ℤ◌, ◌<ℤ◌, Bool, true, List, [], ◌∷◌}
use Rattle.rect_sets.specs.Spans.{covers as covers_number, AreApart}
use Rattle.geo_base.specs.Rects.{has}
use Rattle.rect_sets.specs.Rects.{covers, IsRun, IsBlock, IsListed}
use Rattle.rect_sets.specs.Opens.{spans_of}
use Rattle.rect_sets.specs.declared.row.Span.{Span}
use Rattle.geo_base.specs.declared.shapes.Rect.{Rect}
use Rattle.geo_base.specs.declared.shapes.Square.{Square}
use Rattle.rect_sets.specs.declared.opens.Open.{Open}

-- the range is in the list
abbrev pub IsIn : Span → List Span → Type 0
IsIn s [] = ⊥
IsIn s (t ∷ spans) = (s ≡ t) ⊎ IsIn s spans

-- the open rectangle is in the list
abbrev pub IsAmong : Open → List Open → Type 0
IsAmong o [] = ⊥
IsAmong o (p ∷ opens) = (o ≡ p) ⊎ IsAmong o opens

-- the longest runs of the set in one row
pub record IsRowOf (set : Square → Bool) (row : ℤ) (runs : List Span) : Type 0 where
  pub from : ℤ
  pub apart : AreApart from runs
  pub same : (x : ℤ) → covers_number runs x ≡ set (record { x = x; y = row })

-- rows from y up to end that have these runs each
pub record IsStrip (set : Square → Bool) (y end : ℤ) (runs : List Span) : Type 0 where
  pub some : y <ℤ end
  pub rows : (row : ℤ) → y ≤ℤ row → row <ℤ end → IsRowOf set row runs

-- a run in each row from its own lower end up to y
pub record IsOpenRun (set : Square → Bool) (y : ℤ) (o : Open) : Type 0 where
  pub some : o.y1 <ℤ y
  pub rows : (row : ℤ) → o.y1 ≤ℤ row → row <ℤ y → IsRun set row o.x1 o.x2
  pub below : IsRun set (o.y1 -ℤ pos 1) o.x1 o.x2 → ⊥

-- an open rectangle has the square, so far as it is known
pub record OpenHas (opens : List Open) (s : Square) : Type 0 where
  pub one : Open
  pub among : IsAmong one opens
  pub left : one.x1 ≤ℤ s.x
  pub right : s.x <ℤ one.x2
  pub from : one.y1 ≤ℤ s.y

-- a rectangle of the list has the square
pub record ListHas (rects : List Rect) (s : Square) : Type 0 where
  pub one : Rect
  pub listed : IsListed one rects
  pub inside : has one s ≡ true

-- all rows below y are done: the blocks that end below it are closed, and the runs of the row below
-- it are open
pub record Swept (set : Square → Bool) (y : ℤ) (opens : List Open) (closed : List Rect) : Type 0
  where
    pub row : IsRowOf set (y -ℤ pos 1) (spans_of opens)
    pub each_open : (o : Open) → IsAmong o opens → IsOpenRun set y o
    pub each_closed : (r : Rect) → IsListed r closed → IsBlock set r × (r.y2 <ℤ y)
    pub all_closed : (r : Rect) → IsBlock set r → r.y2 <ℤ y → IsListed r closed
    pub covered : (s : Square) → set s ≡ true → s.y <ℤ y → OpenHas opens s ⊎ ListHas closed s

-- exactly the blocks of the set, and they cover it
pub record AreBlocks (set : Square → Bool) (rects : List Rect) : Type 0 where
  pub each : (r : Rect) → IsListed r rects ↔ IsBlock set r
  pub same : (s : Square) → covers rects s ≡ set s
