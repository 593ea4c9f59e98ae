-- The winding number round the outline of a rectangle.
use Rattle.std.proofs.Common.{◌≡◌, ℤ, pos, negsuc, ◌+ℤ◌, ◌<ℤ◌, ◌≤ℤ◌, Bool, true, false, ◌&&◌, ◌||◌, if◌then◌else◌, int_le, int_lt, List, [], ◌∷◌, length, get_or, ◌<◌, ◌≤◌, refl, sym, ap, ◌∙◌, arith}
use Rattle.std.proofs.lemmas.Int.{ints, by_lt_z}
use Rattle.std.specs.Int.{int_min, int_max}
use Rattle.geo_base.specs.declared.shapes.Point.{Point}
use Rattle.geo_base.specs.Rects.{is_between}
use Rattle.geo_base.specs.Layers.{differ}
use Rattle.poly_fill.specs.Outlines.{UprightLaw, LevelLaw}

-- what an edge adds, by whether it stands to the left and spans the row upwards or downwards
abbrev pub edge : Bool → Bool → Bool → ℤ
edge left up down = if left then (if up then pos 1 else (if down then negsuc 0 else pos 0)) else pos 0

abbrev pub is_turned : ℤ → Bool
is_turned w = int_lt w (pos 0) || int_lt (pos 0) w

unmoved : (left : Bool) → edge left false false ≡ pos 0
unmoved true = refl
unmoved false = refl

-- the first edge upwards where u, downwards where v, and the other the other way
first_third : (l m u v : Bool) → (u ≡ true → v ≡ true → ⊥) → is_turned (edge l u v +ℤ (pos 0 +ℤ (edge m v u +ℤ (pos 0 +ℤ pos 0)))) ≡ (differ l m && (u || v))
first_third true true true false h = refl
first_third true true false true h = refl
first_third true true false false h = refl
first_third true false true false h = refl
first_third true false false true h = refl
first_third true false false false h = refl
first_third false true true false h = refl
first_third false true false true h = refl
first_third false true false false h = refl
first_third false false true false h = refl
first_third false false false true h = refl
first_third false false false false h = refl
first_third l m true true h = absurd (h refl refl)

second_fourth : (l m u v : Bool) → (u ≡ true → v ≡ true → ⊥) → is_turned (pos 0 +ℤ (edge l u v +ℤ (pos 0 +ℤ (edge m v u +ℤ pos 0)))) ≡ (differ l m && (u || v))
second_fourth true true true false h = refl
second_fourth true true false true h = refl
second_fourth true true false false h = refl
second_fourth true false true false h = refl
second_fourth true false false true h = refl
second_fourth true false false false h = refl
second_fourth false true true false h = refl
second_fourth false true false true h = refl
second_fourth false true false false h = refl
second_fourth false false true false h = refl
second_fourth false false false true h = refl
second_fourth false false false false h = refl
second_fourth l m true true h = absurd (h refl refl)

-- the same with the level edges
upright : (l m k n u v : Bool) (a b c d p q : Bool) → a ≡ false → b ≡ false → p ≡ false → q ≡ false → c ≡ v → d ≡ u → (u ≡ true → v ≡ true → ⊥)
    → is_turned (edge l u v +ℤ (edge k a b +ℤ (edge m c d +ℤ (edge n p q +ℤ pos 0)))) ≡ (differ l m && (u || v))
upright l m k n u v true b c d p q e f g h i j no_both = cc
upright l m k n u v false true c d p q e f g h i j no_both = cc
upright l m k n u v false false c d true q e f g h i j no_both = cc
upright l m k n u v false false c d false true e f g h i j no_both = cc
upright l m k n u v false false c d false false e f g h i j no_both =
    ap (λ (x : Bool). is_turned (edge l u v +ℤ (edge k false false +ℤ (edge m x d +ℤ (edge n false false +ℤ pos 0))))) i
    ∙ ap (λ (x : Bool). is_turned (edge l u v +ℤ (edge k false false +ℤ (edge m v x +ℤ (edge n false false +ℤ pos 0))))) j
    ∙ ap (λ (z : ℤ). is_turned (edge l u v +ℤ (z +ℤ (edge m v u +ℤ (edge n false false +ℤ pos 0))))) (unmoved k)
    ∙ ap (λ (z : ℤ). is_turned (edge l u v +ℤ (pos 0 +ℤ (edge m v u +ℤ (z +ℤ pos 0))))) (unmoved n)
    ∙ first_third l m u v no_both

levelled : (l m k n u v : Bool) (a b c d p q : Bool) → a ≡ false → b ≡ false → p ≡ false → q ≡ false → c ≡ v → d ≡ u → (u ≡ true → v ≡ true → ⊥)
    → is_turned (edge k a b +ℤ (edge l u v +ℤ (edge n p q +ℤ (edge m c d +ℤ pos 0)))) ≡ (differ l m && (u || v))
levelled l m k n u v true b c d p q e f g h i j no_both = cc
levelled l m k n u v false true c d p q e f g h i j no_both = cc
levelled l m k n u v false false c d true q e f g h i j no_both = cc
levelled l m k n u v false false c d false true e f g h i j no_both = cc
levelled l m k n u v false false c d false false e f g h i j no_both =
    ap (λ (x : Bool). is_turned (edge k false false +ℤ (edge l u v +ℤ (edge n false false +ℤ (edge m x d +ℤ pos 0))))) i
    ∙ ap (λ (x : Bool). is_turned (edge k false false +ℤ (edge l u v +ℤ (edge n false false +ℤ (edge m v x +ℤ pos 0))))) j
    ∙ ap (λ (z : ℤ). is_turned (z +ℤ (edge l u v +ℤ (edge n false false +ℤ (edge m v u +ℤ pos 0))))) (unmoved k)
    ∙ ap (λ (z : ℤ). is_turned (pos 0 +ℤ (edge l u v +ℤ (z +ℤ (edge m v u +ℤ pos 0))))) (unmoved n)
    ∙ second_fourth l m u v no_both

-- ranges between two numbers in either order
min_first : (a b : ℤ) → a ≤ℤ b → int_min a b ≡ a
min_first a b h = grind (arith, ints)

max_second : (a b : ℤ) → a ≤ℤ b → int_max a b ≡ b
max_second a b h = grind (arith, ints)

min_second : (a b : ℤ) → b <ℤ a → int_min a b ≡ b
min_second a b h = grind (arith, ints)

max_first : (a b : ℤ) → b <ℤ a → int_max a b ≡ a
max_first a b h = grind (arith, ints)

none_between : (a b t : ℤ) → a ≤ℤ b → is_between b t a ≡ false
none_between a b t h = grind (arith, ints)

both_between : (a b t : ℤ) → is_between a t b ≡ true → is_between b t a ≡ true → ⊥
both_between a b t e f = grind (arith, ints)

or_none : (u v : Bool) → v ≡ false → (u || v) ≡ u
or_none true v e = refl
or_none false v e = e

none_or : (u v : Bool) → u ≡ false → (u || v) ≡ v
none_or true v e = cc
none_or false v e = refl

spanned : (a b t : ℤ) → (is_between a t b || is_between b t a) ≡ is_between (int_min a b) t (int_max a b)
spanned a b t = by_lt_z b a
    (λ lt. none_or (is_between a t b) (is_between b t a) (none_between b a t (omega (arith, ints, lt)))
    ∙ ap (λ (z : ℤ). is_between z t a) (sym (min_second a b lt)) ∙ ap (λ (z : ℤ). is_between (int_min a b) t z) (sym (max_first a b lt)))
    (λ le. or_none (is_between a t b) (is_between b t a) (none_between a b t le)
    ∙ ap (λ (z : ℤ). is_between z t b) (sym (min_first a b le)) ∙ ap (λ (z : ℤ). is_between (int_min a b) t z) (sym (max_second a b le)))

one_of : (a b x : ℤ) → a ≤ℤ b → differ (int_le a x) (int_le b x) ≡ is_between a x b
one_of a b x h = grind (arith, ints)

other_of : (a b x : ℤ) → a ≤ℤ b → differ (int_le b x) (int_le a x) ≡ is_between a x b
other_of a b x h = grind (arith, ints)

parted : (a b x : ℤ) → differ (int_le a x) (int_le b x) ≡ is_between (int_min a b) x (int_max a b)
parted a b x = by_lt_z b a
    (λ lt. other_of b a x (omega (arith, ints, lt))
    ∙ ap (λ (z : ℤ). is_between z x a) (sym (min_second a b lt)) ∙ ap (λ (z : ℤ). is_between (int_min a b) x z) (sym (max_first a b lt)))
    (λ le. one_of a b x le
    ∙ ap (λ (z : ℤ). is_between z x b) (sym (min_first a b le)) ∙ ap (λ (z : ℤ). is_between (int_min a b) x z) (sym (max_second a b le)))

none_flat : (a b t : ℤ) → b ≡ a → is_between a t b ≡ false
none_flat a b t e = none_between b a t (omega (arith, ints, e))

same_range : (a b c d t : ℤ) → a ≡ c → b ≡ d → is_between a t b ≡ is_between c t d
same_range a b c d t e f = ap (λ (z : ℤ). is_between z t b) e ∙ ap (λ (z : ℤ). is_between c t z) f

-- the second side and the fourth lie level
pub upright_outline : UprightLaw
upright_outline a b c d e s f g h =
    upright (int_le a.x s.x) (int_le c.x s.x) (int_le b.x s.x) (int_le d.x s.x) (is_between a.y s.y b.y) (is_between b.y s.y a.y)
    (is_between b.y s.y c.y) (is_between c.y s.y b.y) (is_between c.y s.y d.y) (is_between d.y s.y c.y) (is_between d.y s.y e.y) (is_between e.y s.y d.y)
    (none_flat b.y c.y s.y (sym f)) (none_flat c.y b.y s.y f) (none_flat d.y e.y s.y (h ∙ sym g)) (none_flat e.y d.y s.y (g ∙ sym h))
    (same_range c.y d.y b.y a.y s.y (sym f) g) (same_range d.y c.y a.y b.y s.y g (sym f)) (both_between a.y b.y s.y)
    ∙ ap (λ (x : Bool). x && (is_between a.y s.y b.y || is_between b.y s.y a.y)) (parted a.x c.x s.x)
    ∙ ap (λ (x : Bool). is_between (int_min a.x c.x) s.x (int_max a.x c.x) && x) (spanned a.y b.y s.y)
    ∙ ap (λ (z : ℤ). is_between (int_min a.x c.x) s.x (int_max a.x c.x) && is_between (int_min a.y z) s.y (int_max a.y z)) f

-- the first side and the third lie level
pub level_outline : LevelLaw
level_outline a b c d e s f g h =
    levelled (int_le b.x s.x) (int_le d.x s.x) (int_le a.x s.x) (int_le c.x s.x) (is_between b.y s.y c.y) (is_between c.y s.y b.y)
    (is_between a.y s.y b.y) (is_between b.y s.y a.y) (is_between d.y s.y e.y) (is_between e.y s.y d.y) (is_between c.y s.y d.y) (is_between d.y s.y c.y)
    (none_flat a.y b.y s.y (sym f)) (none_flat b.y a.y s.y f) (none_flat c.y d.y s.y (sym g)) (none_flat d.y c.y s.y g)
    (same_range d.y e.y c.y b.y s.y (sym g) (h ∙ f)) (same_range e.y d.y b.y c.y s.y (h ∙ f) (sym g)) (both_between b.y c.y s.y)
    ∙ ap (λ (x : Bool). x && (is_between b.y s.y c.y || is_between c.y s.y b.y)) (parted b.x d.x s.x)
    ∙ ap (λ (x : Bool). is_between (int_min b.x d.x) s.x (int_max b.x d.x) && x) (spanned b.y c.y s.y)
    ∙ ap (λ (z : ℤ). is_between (int_min b.x d.x) s.x (int_max b.x d.x) && is_between (int_min b.y z) s.y (int_max b.y z)) g

-- a list of five points
pub five : (ps : List Point) (v w x y z : Point) → 5 ≤ length ps → length ps < 6 → ps ≡ get_or ps 0 v ∷ get_or ps 1 w ∷ get_or ps 2 x ∷ get_or ps 3 y ∷ get_or ps 4 z ∷ []
five [] v w x y z low high = absurd (omega (arith, low))
five (a ∷ []) v w x y z low high = absurd (omega (arith, low))
five (a ∷ b ∷ []) v w x y z low high = absurd (omega (arith, low))
five (a ∷ b ∷ c ∷ []) v w x y z low high = absurd (omega (arith, low))
five (a ∷ b ∷ c ∷ d ∷ []) v w x y z low high = absurd (omega (arith, low))
five (a ∷ b ∷ c ∷ d ∷ e ∷ []) v w x y z low high = refl
five (a ∷ b ∷ c ∷ d ∷ e ∷ f ∷ ps) v w x y z low high = absurd (omega (arith, high))
