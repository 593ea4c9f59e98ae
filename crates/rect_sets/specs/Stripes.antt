-- The plane in stripes, between lines across one axis.
use Rattle.std.specs.Prelude.{◌≡◌, ℕ, zero, suc, ◌<◌, ◌≤◌, ◌≤ℤ◌, ◌<ℤ◌, ℤ, pos, Bool, List, []}
use Rattle.std.specs.Prelude.{◌∷◌, ◌++◌, length, map, get_or}
use Rattle.std.specs.Global.{Vec}
use Rattle.geo_base.specs.declared.shapes.Rect.{Rect}
use Rattle.geo_base.specs.declared.shapes.Square.{Square}
use Rattle.rect_sets.specs.Rects.{covers}
use Rattle.rect_sets.specs.Divided.{lows, highs, kept, cut_off}
use Rattle.rect_sets.specs.Halves.{low_half, high_half}
use Rattle.rect_sets.specs.Sweeps.{AreBlocks}
use Rattle.rect_sets.specs.declared.cuts.Axis.{Axis}
use Rattle.rect_sets.specs.declared.cuts.Cut.{Cut}
use Rattle.rect_sets.specs.declared.cuts.Lines.{Lines}

abbrev pub lists_of : List (Vec Rect) → List (List Rect)
lists_of lists = map (λ v. v.items) lists

-- the list at a place: none past the last
abbrev pub list_at : List (Vec Rect) → ℕ → List Rect
list_at lists i = get_or (lists_of lists) i []

-- each line is further up than the one before it
abbrev pub AreRising : List ℤ → Type 0
AreRising [] = Unit {0}
AreRising (a ∷ []) = Unit {0}
AreRising (a ∷ b ∷ at) = (a <ℤ b) × AreRising (b ∷ at)

-- there are so many lines, and the first of them are no further up than x
abbrev pub ArePassed : ℤ → ℕ → List ℤ → Type 0
ArePassed x zero at = Unit {0}
ArePassed x (suc i) [] = ⊥
ArePassed x (suc i) (a ∷ at) = (a ≤ℤ x) × ArePassed x i at

abbrev pub cut_of : Axis → ℤ → Cut
cut_of axis a = record { axis = axis; at = a }

-- the line at a place
abbrev pub line_at : Axis → List ℤ → ℕ → Cut
line_at axis at i = cut_of axis (get_or at i (pos 0))

-- the parts of rectangles in a stripe: what is past the lines below it and below its own
abbrev pub stripe : ℕ → Axis → List ℤ → List Rect → List Rect
stripe zero axis [] rects = rects
stripe zero axis (a ∷ at) rects = lows (cut_of axis a) rects
stripe (suc i) axis [] rects = []
stripe (suc i) axis (a ∷ at) rects = stripe i axis at (highs (cut_of axis a) rects)

-- a list at one place, and none at the others
abbrev pub only : ℕ → List Rect → ℕ → List Rect
only zero rects zero = rects
only zero rects (suc j) = []
only (suc i) rects zero = []
only (suc i) rects (suc j) = only i rects j

-- the parts of rectangles were added, each to the list of its stripe
abbrev pub AreAdded : Lines → List (Vec Rect) → List (Vec Rect) → List Rect → Type 0
AreAdded lines old new rects =
    (j : ℕ) → list_at new j ≡ list_at old j ++ stripe j lines.axis lines.at.items rects

-- the set in a stripe
abbrev pub within : ℕ → Axis → List ℤ → (Square → Bool) → Square → Bool
within i axis [] set = set
within zero axis (a ∷ at) set = low_half set (cut_of axis a)
within (suc i) axis (a ∷ at) set = within i axis at (high_half set (cut_of axis a))

-- the set in a stripe and those above it
abbrev pub beyond : ℕ → Axis → List ℤ → (Square → Bool) → Square → Bool
beyond zero axis at set = set
beyond (suc i) axis [] set = set
beyond (suc i) axis (a ∷ at) set = beyond i axis at (high_half set (cut_of axis a))

-- of the blocks of some stripes, those that are done, as they don't touch the line below them
abbrev pub done_of : ℕ → Axis → List ℤ → List Rect → List Rect
done_of zero axis at rects = rects
done_of (suc i) axis at rects = kept (line_at axis at i) rects

-- and those that touch it
abbrev pub rest_of : ℕ → Axis → List ℤ → List Rect → List Rect
rest_of zero axis at rects = []
rest_of (suc i) axis at rects = cut_off (line_at axis at i) rects

-- the blocks of the set in a stripe and those above it, in two lists
pub record AreSorted (i : ℕ) (axis : Axis) (at : List ℤ) (set : Square → Bool)
    (done rest : List Rect) : Type 0 where
  pub all : List Rect
  pub blocks : AreBlocks (beyond i axis at set) all
  pub done_are : done ≡ done_of i axis at all
  pub rest_are : rest ≡ rest_of i axis at all

-- the stripes from i on are joined; there are none past the last line
pub record AreJoined (i : ℕ) (axis : Axis) (at : List ℤ) (set : Square → Bool)
    (done rest : List Rect) : Type 0 where
  pub none : length at < i → (done ≡ []) × (rest ≡ [])
  pub some : i ≤ length at → AreSorted i axis at set done rest

-- the stripes' lists up to the i-th
pub record AreFirst (i : ℕ) (lines : Lines) (parts : List (Vec Rect)) (rects : List Rect) : Type 0
  where
    pub count : length (lists_of parts) ≡ i
    pub lists : (j : ℕ) → j < i → list_at parts j ≡ stripe j lines.axis lines.at.items rects

-- blocks of two neighbouring parts, without those above the line that don't touch it: those that
-- touch it are made one set
pub record IsSwept (cut : Cut) (found rest all : List Rect) : Type 0 where
  pub joined : List Rect
  pub blocks : AreBlocks (covers (rest ++ cut_off cut found)) joined
  pub all_are : all ≡ kept cut found ++ joined
