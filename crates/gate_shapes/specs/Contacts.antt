-- Rectangles that share an edge, or a corner too, the one standing on the other.
use Rattle.std.specs.Prelude.{◌≡◌, ◌⊎◌, ℕ, suc, ◌+◌, ◌<◌, ℤ, ◌≤ℤ◌, ◌<ℤ◌, int_le, int_lt, Bool}
use Rattle.std.specs.Prelude.{◌&&◌, ◌||◌, List, [], ◌∷◌, length, if◌then◌else◌, Some, slice_get}
use Rattle.std.specs.Prelude.{slice_index_or}
use Rattle.std.specs.Ordering.{int_eq}
use Rattle.flat_layout.specs.Parts.{Joint, Edges, Corners}
use Rattle.geo_base.specs.declared.shapes.Rect.{Rect}
use Rattle.link_classes.specs.Classes.{IsLinked, AreInRange}
use Rattle.link_classes.specs.declared.classes.Link.{Link}
use Rattle.gate_shapes.specs.declared.contacts.Joint.{Joint as CodeJoint}
use Rattle.gate_shapes.specs.declared.contacts.Joint.TheVariants as code
use Rattle.gate_shapes.specs.declared.contacts.Top.{Top}

-- the code's word for a joint
abbrev pub joint_of : CodeJoint → Joint
joint_of code.Edges = Edges
joint_of code.Corners = Corners

-- their x ranges share a number, or, where corners join, one ends where the other begins
abbrev pub crosses : Joint → Rect → Rect → Bool
crosses Edges a b = int_lt a.x1 b.x2 && int_lt b.x1 a.x2
crosses Corners a b = int_le a.x1 b.x2 && int_le b.x1 a.x2

-- the second stands on the first
abbrev pub is_over : Joint → Rect → Rect → Bool
is_over joint a b = int_eq a.y2 b.y1 && crosses joint a b

-- the first one's upper side lies below the second one's lower side, or in one row with it and ends
-- no later
abbrev pub ends_first : Rect → Rect → Bool
ends_first a b = int_lt a.y2 b.y1 || (int_eq a.y2 b.y1 && int_le a.x2 b.x2)

abbrev pub IsUpTo : Joint → ℤ → ℤ → Type 0
IsUpTo Edges a b = a <ℤ b
IsUpTo Corners a b = a ≤ℤ b

pub record IsOver (joint : Joint) (a b : Rect) : Type 0 where
  pub row : a.y2 ≡ b.y1
  pub left : IsUpTo joint a.x1 b.x2
  pub right : IsUpTo joint b.x1 a.x2

-- rectangles with their places, counted from k
abbrev pub tops_from : ℕ → List Rect → List Top
tops_from k [] = []
tops_from k (r ∷ rects) = record { rect = r; index = k } ∷ tops_from (suc k) rects

-- a link, where the rectangle stands on the other
abbrev pub found : Joint → Top → Rect → ℕ → List Link
found joint t r j = if is_over joint t.rect r then record { one = t.index; other = j } ∷ [] else []

-- by the upper side, then x1
abbrev pub IsNotLater : Top → Top → Type 0
IsNotLater s t = (s.rect.y2 <ℤ t.rect.y2) ⊎ ((s.rect.y2 ≡ t.rect.y2) × (s.rect.x1 ≤ℤ t.rect.x1))

abbrev pub AreSortedTops : List Top → Type 0
AreSortedTops tops = (k : ℕ) (d : Top) → k + 1 < length tops
    → IsNotLater (slice_index_or tops k d) (slice_index_or tops (k + 1) d)

-- at these places of the list, the second stands on the first
pub record IsContact (joint : Joint) (rects : List Rect) (x y : ℕ) : Type 0 where
  pub one : Rect
  pub other : Rect
  pub first : slice_get rects x ≡ Some one
  pub second : slice_get rects y ≡ Some other
  pub over : IsOver joint one other

-- exactly the contacts of the list
pub record AreContacts (joint : Joint) (rects : List Rect) (links : List Link) : Type 0 where
  pub sound : (x y : ℕ) → IsLinked links x y
      → IsContact joint rects x y ⊎ IsContact joint rects y x
  pub complete : (x y : ℕ) → IsContact joint rects x y → IsLinked links x y
  pub inside : AreInRange (length rects) links

-- of the first i tops and the first j rectangles, all contacts are found
pub record ContactsSoFar (joint : Joint) (rects : List Rect) (tops : List Top) (i j : ℕ)
    (links : List Link) : Type 0 where
  pub sound : (x y : ℕ) → IsLinked links x y
      → IsContact joint rects x y ⊎ IsContact joint rects y x
  pub inside : AreInRange (length rects) links
  pub seen : (a b : ℕ) (t : Top) (s : Rect) → slice_get tops a ≡ Some t → slice_get rects b ≡ Some s
      → (a < i) ⊎ (b < j) → IsOver joint t.rect s → IsLinked links t.index b

-- the tops of the list, in order: an earlier one is the same, or lies in a lower row, or ends
-- before the other begins
pub record AreTops (rects : List Rect) (tops : List Top) : Type 0 where
  pub each : (a : ℕ) (t : Top) → slice_get tops a ≡ Some t → slice_get rects t.index ≡ Some t.rect
  pub all : (x : ℕ) (r : Rect) → slice_get rects x ≡ Some r → (a : ℕ)
      × (slice_get tops a ≡ Some (record { rect = r; index = x }))
  pub order : (a b : ℕ) (s t : Top) → a < b → slice_get tops a ≡ Some s → slice_get tops b ≡ Some t
      → (s.index ≡ t.index) ⊎ ((s.rect.y2 <ℤ t.rect.y2)
      ⊎ ((s.rect.y2 ≡ t.rect.y2) × (s.rect.x2 <ℤ t.rect.x1)))
