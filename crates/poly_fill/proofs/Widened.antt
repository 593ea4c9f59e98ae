-- The rectangles of a path's segments, and the squares that they cover.
use Rattle.std.proofs.Common.{◌≡◌, ℕ, ◌+◌, ◌<◌, ◌≤◌, ℤ, ◌+ℤ◌, ◌-ℤ◌, ◌≤ℤ◌, Bool, true, false, ◌||◌, List, [], ◌∷◌, ◌++◌, length, length-drop, get_or, drop, refl, sym, ap, ◌∙◌, arith, w64, if◌then◌else◌}
use Rattle.base_laws.proofs.Tests.{not_both, or_false, or_assoc}
use Rattle.std.proofs.lemmas.Bool.{false_from_ne_true}
use Rattle.std.proofs.lemmas.Int.{ints}
use Rattle.std.proofs.lemmas.Bool.Decides.{Decides-int_eq}
use mir.Val.{to_z, of_z}
use Rattle.geo_base.specs.Near.{IsLong}
use Rattle.std.proofs.lemmas.List.{drop_more, drop_all}
use Rattle.std.proofs.lemmas.List.Folds.{list_any-append}
use Rattle.std.specs.Ordering.{int_eq}
use Rattle.std.specs.List.{All}
use Rattle.std.proofs.lemmas.List.Elements.{All-cons, All-head, All-tail}
use Rattle.geo_base.specs.declared.shapes.Point.{Point}
use Rattle.geo_base.specs.declared.shapes.Square.{Square}
use Rattle.geo_base.specs.declared.shapes.Rect.{Rect}
use Rattle.geo_base.specs.Rects.{has, is_rect}
use Rattle.geo_base.proofs.Meeting.{has_rect, rect_to}
use Rattle.rect_sets.specs.Rects.{covers}
use Rattle.poly_fill.specs.Fills.{low_of, high_of, segment, segments, same_point, distinct_behind, distinct}

pub rect_same : (a b c d e f g h : ℤ) → a ≡ e → b ≡ f → c ≡ g → d ≡ h → (let r : Rect = record { x1 = a; y1 = b; x2 = c; y2 = d } in r) ≡ record { x1 = e; y1 = f; x2 = g; y2 = h }
rect_same a b c d e f g h p q r s = cc

pub along : (f : ℤ → ℤ → ℤ → ℤ → ℤ) (a b c d e g h i : ℤ) → a ≡ e → b ≡ g → c ≡ h → d ≡ i → f a b c d ≡ f e g h i
along f a b c d e g h i p q r s = cc

pub near_value : (z : ℤ) → IsLong z → to_z w64 (of_z w64 z) ≡ z
near_value z near = omega (arith, ints)

pub level_segment : (half begin end : ℤ) (a b : Point) → a.y ≡ b.y
    → segment half begin end a b ≡ record { x1 = low_of a.x b.x begin end; y1 = a.y -ℤ half; x2 = high_of a.x b.x begin end; y2 = a.y +ℤ half }
level_segment half begin end a b e = let t : int_eq a.y b.y ≡ true = (Decides-int_eq a.y b.y).1 e in rw t refl

pub upright_segment : (half begin end : ℤ) (a b : Point) → (a.y ≡ b.y → ⊥)
    → segment half begin end a b ≡ record { x1 = a.x -ℤ half; y1 = low_of a.y b.y begin end; x2 = a.x +ℤ half; y2 = high_of a.y b.y begin end }
upright_segment half begin end a b not = let f : int_eq a.y b.y ≡ false = is_false (int_eq a.y b.y) (λ t. not ((Decides-int_eq a.y b.y).0 t)) in rw f refl
  where
    is_false : (b : Bool) → (b ≡ true → ⊥) → b ≡ false
    is_false true h = absurd (h refl)
    is_false false h = refl

-- a rectangle without width or height has no square
pub no_squares : (r : Rect) (s : Square) → is_rect r ≡ false → has r s ≡ false
no_squares r s h = false_from_ne_true (has r s) (λ e. not_both (is_rect r) (rect_to r (has_rect r s e)) h)

pub or_none : (a b : Bool) → b ≡ false → a ≡ (a || b)
or_none true b h = refl
or_none false b h = sym h

pub covers_push : (rects : List Rect) (r : Rect) (s : Square) → covers (rects ++ r ∷ []) s ≡ (covers rects s || has r s)
covers_push rects r s = list_any-append (λ q. has q s) rects (r ∷ []) ∙ ap (λ b. covers rects s || b) (or_false (has r s))

-- one segment on: it is lengthened by end where it is the last, and by half where it isn't
segments_more : (half before after end : ℤ) (from to : Point) (left : List Point) → (length left ≡ 0 → after ≡ end) → (0 < length left → after ≡ half)
    → segments half before end (from ∷ to ∷ left) ≡ segment half before after from to ∷ segments half half end (to ∷ left)
segments_more half before after end from to [] last inner = ap (λ z. segment half before z from to ∷ []) (sym (last refl))
segments_more half before after end from to (p ∷ left) last inner = ap (λ z. segment half before z from to ∷ segments half half end (to ∷ p ∷ left)) (sym (inner (omega arith)))

pub covers_more : (half before after end : ℤ) (from : Point) (points : List Point) (i : ℕ) (d : Point) (done new whole : Bool) (r : Rect) (s : Square) → i < length points
    → (i + 1 ≡ length points → after ≡ end) → (i + 1 < length points → after ≡ half) → r ≡ segment half before after from (get_or points i d) → new ≡ (done || has r s)
    → (done || covers (segments half before end (from ∷ drop i points)) s) ≡ whole
    → (new || covers (segments half half end (get_or points i d ∷ drop (i + 1) points)) s) ≡ whole
covers_more half before after end from points i d done new whole r s lt last inner same added e =
    let q : Point = get_or points i d in
    let left = drop (i + 1) points in
    let rest = covers (segments half half end (q ∷ left)) s in
    let size = length-drop (i + 1) points in
    let here : segments half before end (from ∷ q ∷ left) ≡ segment half before after from q ∷ segments half half end (q ∷ left) =
    segments_more half before after end from q left (λ h. last (omega arith)) (λ h. inner (omega arith)) in
    ap (λ b. b || rest) added ∙ or_assoc done (has r s) rest ∙ ap (λ t. done || (has t s || rest)) same
    ∙ ap (λ rects. done || covers rects s) (sym here) ∙ ap (λ xs. done || covers (segments half before end (from ∷ xs)) s) (sym (drop_more points i d lt)) ∙ e

pub covers_all : (half before end : ℤ) (from : Point) (points : List Point) (i : ℕ) (done whole : Bool) (s : Square) → length points ≤ i
    → (done || covers (segments half before end (from ∷ drop i points)) s) ≡ whole → done ≡ whole
covers_all half before end from points i done whole s le e =
    sym (or_false done) ∙ ap (λ xs. done || covers (segments half before end (from ∷ xs)) s) (sym (drop_all i points le)) ∙ e

pub no_segments : (half begin end : ℤ) (points : List Point) (s : Square) → length points ≡ 0 → false ≡ covers (segments half begin end points) s
no_segments half begin end [] s h = refl
no_segments half begin end (p ∷ points) s h = absurd (omega arith)

pub along_three : (f : ℤ → ℤ → ℤ → Bool) (a b c d e g : ℤ) → a ≡ d → b ≡ e → c ≡ g → f a b c ≡ f d e g
along_three f a b c d e g p q r = cc

-- the points that are kept are some of the points
all_behind : (P : Point → Type 0) (p : Point) (points : List Point) → All P points → All P (distinct_behind p points)
all_behind P p [] h = h
all_behind P p (q ∷ points) h = step (same_point p q) (all_behind P p points (All-tail P q points h)) (all_behind P q points (All-tail P q points h))
  where
    step : (b : Bool) → All P (distinct_behind p points) → All P (distinct_behind q points) → All P (if b then distinct_behind p points else q ∷ distinct_behind q points)
    step true f g = f
    step false f g = All-cons P q (distinct_behind q points) (All-head P q points h) g

pub all_distinct : (P : Point → Type 0) (points : List Point) → All P points → All P (distinct points)
all_distinct P [] h = h
all_distinct P (p ∷ points) h = All-cons P p (distinct_behind p points) (All-head P p points h) (all_behind P p points (All-tail P p points h))
