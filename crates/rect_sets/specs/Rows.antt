-- One row of a set that is given by weighted edges.
use Rattle.std.specs.Prelude.{◌≡◌, ℕ, ℤ, pos, ◌*◌, ◌+ℤ◌, ◌-ℤ◌, ◌≤ℤ◌, int_le, int_lt, Bool, ◌&&◌}
use Rattle.std.specs.Prelude.{◌||◌, List, [], ◌∷◌, take, drop, if◌then◌else◌}
use Rattle.geo_base.specs.Rects.{is_between}
use Rattle.rect_sets.specs.Edges.{holds, first_of, second_of}
use Rattle.rect_sets.specs.Spans.{covers, AreApart}
use Rattle.rect_sets.specs.declared.row.Span.{Span}
use Rattle.rect_sets.specs.declared.row.Edge.{Edge}
use Rattle.geo_base.specs.declared.layer.Op.{Op}

-- the sum of the weights up to a number, whatever the rows of the edges
abbrev pub weight_up_to : (Edge → ℤ) → List Edge → ℤ → ℤ
weight_up_to field [] x = pos 0
weight_up_to field (e ∷ edges) x =
    (if int_le e.x x then field e else pos 0) +ℤ weight_up_to field edges x

-- the sum of all weights
abbrev pub weight_of_all : (Edge → ℤ) → List Edge → ℤ
weight_of_all field [] = pos 0
weight_of_all field (e ∷ edges) = field e +ℤ weight_of_all field edges

-- none is left of the one before it
abbrev pub AreInOrder : ℤ → List Edge → Type 0
AreInOrder low [] = Unit {0}
AreInOrder low (e ∷ edges) = (low ≤ℤ e.x) × AreInOrder e.x edges

-- the edges that cross one row
pub record IsRow (low : ℤ) (edges : List Edge) : Type 0 where
  pub in_order : AreInOrder low edges
  pub first_balanced : weight_of_all first_of edges ≡ pos 0
  pub second_balanced : weight_of_all second_of edges ≡ pos 0

-- none ends past this number
abbrev pub EndUpTo : ℤ → List Span → Type 0
EndUpTo low [] = Unit {0}
EndUpTo low (s ∷ spans) = (s.x2 ≤ℤ low) × EndUpTo low spans

-- runs that are apart, none of which ends past a number
pub record AreRunsUpTo (low : ℤ) (spans : List Span) : Type 0 where
  pub from : ℤ
  pub apart : AreApart from spans
  pub ends : EndUpTo low spans

-- a range was added at the end, where it is inside
pub record Grows (old new : List Span) (from to : ℤ) (inside : Bool) : Type 0 where
  pub same : (x : ℤ) → covers new x ≡ (covers old x || (inside && is_between from x to))
  pub runs : AreRunsUpTo to new

-- exactly the longest runs of the numbers where the operator holds
pub record HasRunsOf (op : Op) (edges : List Edge) (spans : List Span) : Type 0 where
  pub from : ℤ
  pub apart : AreApart from spans
  pub same : (x : ℤ) → covers spans x ≡ holds op (weight_up_to first_of edges x)
      (weight_up_to second_of edges x)

-- the sum of the first weights, which have 32 bits each; 128 bits hold it, as a list has fewer than
-- 2^64 edges
pub record IsSumOf (field : Edge → ℤ) (edges : List Edge) (seen : ℕ) (sum : ℤ) : Type 0 where
  pub is : sum ≡ weight_of_all field (take seen edges)
  pub low : (pos 0 -ℤ pos (2147483648 * seen)) ≤ℤ sum
  pub high : sum ≤ℤ pos (2147483648 * seen)

-- none is right of this number
abbrev pub AreUpTo : ℤ → List Edge → Type 0
AreUpTo low [] = Unit {0}
AreUpTo low (e ∷ edges) = (e.x ≤ℤ low) × AreUpTo low edges

-- the runs up to where the sums of the seen edges reach
pub record RowSoFar (op : Op) (edges : List Edge) (seen : ℕ) (low first second : ℤ)
    (out : List Span) : Type 0 where
  pub rest : AreInOrder low (drop seen edges)
  pub done : AreUpTo low (take seen edges)
  pub first_sum : IsSumOf first_of edges seen first
  pub second_sum : IsSumOf second_of edges seen second
  pub runs : AreRunsUpTo low out
  pub same : (x : ℤ) → covers out x
      ≡ (int_lt x low && holds op (weight_up_to first_of (take seen edges) x)
      (weight_up_to second_of (take seen edges) x))
