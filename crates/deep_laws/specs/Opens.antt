-- The squares that a cell leaves to the cells above, and those that others may make without it, from
-- its disturbed squares.
use Rattle.std.specs.Prelude.{◌≡◌, ◌↔◌, ℕ, ◌+◌, ℤ, unsigned_abs, Bool, true, false, not, ◌&&◌, ◌||◌, List}
use Rattle.std.specs.Prelude.{[], ◌∷◌, ◌++◌}
use Rattle.geo_base.specs.declared.layer.LayerKey.{LayerKey}
use Rattle.geo_base.specs.declared.layer.Op.{Op}
use Rattle.geo_base.specs.declared.layer.Op.TheVariants.{And, Or, Not, Xor}
use Rattle.geo_base.specs.declared.shapes.Rect.{Rect}
use Rattle.geo_base.specs.declared.shapes.Square.{Square}
use Rattle.rect_sets.specs.Rects.{covers, IsCanonical}
use Rattle.flat_layout.specs.Hull.{IsInHull}
use Rattle.flat_layout.specs.Layers.{Formula, Input, Binary, Sized, IsCalmAt}
use Rattle.flat_layout.specs.Layout.{Design, InFlatInput}
use Rattle.flat_layout.specs.Plane.{IsReachedBy, IsSized}
use Rattle.flat_layout.specs.Values.{IsZone, IsOpenZone, IsLoneZone}
use Rattle.flat_layout.specs.declared.way.Way.TheVariants.{Disturbed, Covered}

-- where a cell leaves all that something from elsewhere lies over, these are the disturbed squares
abbrev pub OpenZoneLaw : Type 0
OpenZoneLaw = (d : Design) (keys : List LayerKey) (n cell : ℕ) (v : List Rect) → d.way ≡ Disturbed
    → IsZone d keys n cell v → IsOpenZone d keys n cell v

-- where it keeps what it covers itself, those of an input layer without its own flat squares
abbrev pub BareLaw : Type 0
BareLaw = (d : Design) (key : LayerKey) (n cell : ℕ) (zone flat bare : List Rect)
    → d.way ≡ Covered → IsZone d (key ∷ []) n cell zone
    → ((q : Square) → (covers flat q ≡ true)
    ↔ ((covers zone q ≡ true) × InFlatInput d cell key q)) → IsCanonical bare
    → ((q : Square) → covers bare q ≡ (covers zone q && not (covers flat q)))
    → IsOpenZone d (key ∷ []) n cell bare

-- for no layers there are none
abbrev pub OpenNoneLaw : Type 0
OpenNoneLaw = (d : Design) (n cell : ℕ) (v : List Rect) → IsCanonical v
    → ((q : Square) → covers v q ≡ false) → IsOpenZone d [] n cell v

-- for two lists of layers together: those of one of them
abbrev pub OpenUnionLaw : Type 0
OpenUnionLaw = (d : Design) (xs ys : List LayerKey) (n cell : ℕ) (a b v : List Rect)
    → IsOpenZone d xs n cell a → IsOpenZone d ys n cell b → IsCanonical v
    → ((q : Square) → covers v q ≡ (covers a q || covers b q)) → IsOpenZone d (xs ++ ys) n cell v

-- near a square of the hull all is shut exactly where none of them is near
abbrev pub CalmByLaw : Type 0
CalmByLaw = (d : Design) (keys : List LayerKey) (m n cell : ℕ) (v : List Rect) (q : Square)
    → IsOpenZone d keys (m + n) cell v → IsInHull d cell m q
    → (IsReachedBy n (λ z. covers v z ≡ true) q → ⊥) ↔ IsCalmAt d keys n cell q

-- others alone make what disturbs an input layer
abbrev pub LoneInputLaw : Type 0
LoneInputLaw = (d : Design) (key : LayerKey) (n cell : ℕ) (v : List Rect)
    → IsZone d (key ∷ []) n cell v → IsLoneZone d (Input key) n cell v

-- of a name of two others the most that the two can: what is taken away they needn't draw
abbrev pub lone_of : Op → Bool → Bool → Bool
lone_of And a b = a && b
lone_of Or a b = a || b
lone_of Not a b = a
lone_of Xor a b = a || b

abbrev pub LoneBinaryLaw : Type 0
LoneBinaryLaw = (d : Design) (op : Op) (a b : Formula) (n cell : ℕ) (first second v : List Rect)
    → IsLoneZone d a n cell first → IsLoneZone d b n cell second → IsCanonical v
    → ((q : Square) → covers v q ≡ lone_of op (covers first q) (covers second q))
    → IsLoneZone d (Binary op a b) n cell v

-- and of a sized name, from as much further round the hull
abbrev pub LoneSizedLaw : Type 0
LoneSizedLaw = (d : Design) (by : ℤ) (a : Formula) (n cell : ℕ) (set v : List Rect)
    → IsLoneZone d a (n + unsigned_abs by) cell set → IsCanonical v
    → ((q : Square) → (covers v q ≡ true) ↔ IsSized by (λ z. covers set z ≡ true) q)
    → IsLoneZone d (Sized by a) n cell v
