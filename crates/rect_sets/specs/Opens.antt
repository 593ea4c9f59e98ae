-- From strip to strip: open rectangles against the runs of the next strip.
use Rattle.std.specs.Prelude.{◌≡◌, ℕ, ℤ, pos, ◌+◌, ◌<◌, ◌≤◌, ◌≤ℤ◌, ◌<ℤ◌, Bool, true, false, ◌&&◌}
use Rattle.std.specs.Prelude.{◌||◌, List, [], ◌∷◌, ◌++◌, length, drop, if◌then◌else◌}
use Rattle.std.specs.Prelude.{slice_index_or}
use Rattle.std.specs.Ordering.{int_eq}
use Rattle.rect_sets.specs.Spans.{AreApart}
use Rattle.rect_sets.specs.declared.row.Span.{Span}
use Rattle.geo_base.specs.declared.shapes.Rect.{Rect}
use Rattle.rect_sets.specs.declared.opens.Open.{Open}
use Rattle.rect_sets.specs.declared.opens.Turn.{Turn}
use Rattle.rect_sets.specs.declared.opens.Turn.TheVariants.{Same, Close, Fresh}

-- the rectangle of an open one that ends at y
abbrev pub rect_of : ℤ → Open → Rect
rect_of y o = record { x1 = o.x1; y1 = o.y1; x2 = o.x2; y2 = y }

-- a run that begins a rectangle at y
abbrev pub fresh : ℤ → Span → Open
fresh y s = record { x1 = s.x1; x2 = s.x2; y1 = y }

-- the range of numbers of an open rectangle
abbrev pub span_of : Open → Span
span_of o = record { x1 = o.x1; x2 = o.x2 }

-- the ranges of all
abbrev pub spans_of : List Open → List Span
spans_of [] = []
spans_of (o ∷ opens) = span_of o ∷ spans_of opens

-- the open rectangle has this run
abbrev pub is_same : Open → Span → Bool
is_same o s = int_eq o.x1 s.x1 && int_eq o.x2 s.x2

-- the open rectangle of a run: it goes on, or begins here
abbrev pub found : ℤ → List Open → Span → Open
found y [] s = fresh y s
found y (o ∷ opens) s = if is_same o s then o else found y opens s

-- the open rectangles of all runs of a strip
abbrev pub nexts : ℤ → List Open → List Span → List Open
nexts y opens [] = []
nexts y opens (s ∷ runs) = found y opens s ∷ nexts y opens runs

-- the open rectangle goes on as one of the runs
abbrev pub is_among : Open → List Span → Bool
is_among o [] = false
is_among o (s ∷ runs) = is_same o s || is_among o runs

-- those that are no runs of the strip end below it
abbrev pub ended : ℤ → List Open → List Span → List Rect
ended y [] runs = []
ended y (o ∷ opens) runs =
    if is_among o runs then ended y opens runs else rect_of y o ∷ ended y opens runs

-- the open rectangle at a place
abbrev pub open_at : List Open → ℕ → Open
open_at opens j = slice_index_or opens j (record { x1 = pos 0; x2 = pos 0; y1 = pos 0 })

-- the run at a place
abbrev pub run_at : List Span → ℕ → Span
run_at runs i = slice_index_or runs i (record { x1 = pos 0; x2 = pos 0 })

-- something is left of two lists
pub record HasLeft (opens : List Open) (j : ℕ) (runs : List Span) (i : ℕ) : Type 0 where
  pub j_in : j ≤ length opens
  pub i_in : i ≤ length runs
  pub some : j + i < length opens + length runs

-- which comes next, by its left end: an open rectangle that goes on, one that ends, or a run that
-- begins one
abbrev pub IsTurn : List Open → ℕ → List Span → ℕ → Turn → Type 0
IsTurn opens j runs i Same =
    (j < length opens) × (i < length runs) × (is_same (open_at opens j) (run_at runs i) ≡ true)
IsTurn opens j runs i Close = (j < length opens) × (i < length runs
    → ((open_at opens j).x1 ≤ℤ (run_at runs i).x1) × (is_same (open_at opens j) (run_at runs i)
    ≡ false))
IsTurn opens j runs i Fresh =
    (i < length runs) × (j < length opens → (run_at runs i).x1 <ℤ (open_at opens j).x1)

-- what is left of two lists is apart
pub record ArePartsApart (opens : List Open) (j : ℕ) (runs : List Span) (i : ℕ) : Type 0 where
  pub opens_from : ℤ
  pub opens_apart : AreApart opens_from (spans_of (drop j opens))
  pub runs_from : ℤ
  pub runs_apart : AreApart runs_from (drop i runs)

-- some of the work is done, and what is left is said by the same definitions
pub record Advances (y : ℤ) (opens : List Open) (runs : List Span) (j j' i i' : ℕ)
    (next next' : List Open) (closed closed' : List Rect) : Type 0 where
  pub j_in : j' ≤ length opens
  pub i_in : i' ≤ length runs
  pub more : j + i < j' + i'
  pub apart : ArePartsApart opens j' runs i'
  pub next_same : next' ++ nexts y (drop j' opens) (drop i' runs) ≡ next
      ++ nexts y (drop j opens) (drop i runs)
  pub closed_same : closed' ++ ended y (drop j' opens) (drop i' runs) ≡ closed
      ++ ended y (drop j opens) (drop i runs)

-- the same from the beginning on
pub record StepSoFar (y : ℤ) (opens : List Open) (runs : List Span) (j i : ℕ) (next : List Open)
    (before closed : List Rect) : Type 0 where
  pub j_in : j ≤ length opens
  pub i_in : i ≤ length runs
  pub apart : ArePartsApart opens j runs i
  pub next_same : next ++ nexts y (drop j opens) (drop i runs) ≡ nexts y opens runs
  pub closed_same : closed ++ ended y (drop j opens) (drop i runs) ≡ before ++ ended y opens runs
