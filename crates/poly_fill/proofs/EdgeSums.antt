-- The vertical edges of a closed line of points, summed: they balance, and their weights are the winding number.
use Rattle.std.proofs.Common.{◌≡◌, ℤ, pos, negsuc, ◌+ℤ◌, ◌-ℤ◌, ◌<ℤ◌, int_lt, Bool, true, false, List, [], ◌∷◌, ◌++◌, ◌||◌, ◌∙◌, refl, ap, arith, if◌then◌else◌}
use Rattle.std.proofs.lemmas.Int.{ints}
use Rattle.std.specs.List.{All}
use Rattle.geo_base.specs.declared.shapes.Point.{Point}
use Rattle.geo_base.specs.declared.shapes.Square.{Square}
use Rattle.std.proofs.lemmas.List.Elements.{All-append, All-nil, All-cons}
use Rattle.geo_base.specs.declared.layer.Op.TheVariants.{Or}
use Rattle.base_laws.proofs.Tests.{or_false}
use Rattle.rect_sets.specs.declared.row.Edge.{Edge}
use Rattle.rect_sets.specs.Edges.{first_of, second_of, sum_where, crosses, acts_on, weight, total, is_some, set_of, IsEdge, IsBalanced}
use Rattle.poly_fill.specs.Fills.{turns, winding, in_boundary}
use Rattle.geo_base.specs.Outlines.{last_from, IsClosed}
use Rattle.poly_fill.specs.Edges.{edges_between, edges_from, edges_along}

sum_where-append : (test : Edge → Bool) (field : Edge → ℤ) (xs ys : List Edge) → sum_where test field (xs ++ ys) ≡ sum_where test field xs +ℤ sum_where test field ys
sum_where-append test field [] ys = omega (arith, ints)
sum_where-append test field (e ∷ xs) ys = let rest = sum_where-append test field xs ys in omega (arith, ints)

-- 1 where the point lies above the row
abbrev side : Point → ℤ → ℤ
side p row = if int_lt row p.y then pos 1 else pos 0

total_between : (a b : Point) (row : ℤ) → total first_of (edges_between a b) row ≡ side b row -ℤ side a row
total_between a b row = grind (arith, ints)

weight_between : (a b : Point) (s : Square) → weight first_of (edges_between a b) s ≡ turns a b s
weight_between a b s = grind (arith, ints)

second_between : (test : Edge → Bool) (a b : Point) → sum_where test second_of (edges_between a b) ≡ pos 0
second_between test a b = grind (arith, ints)

-- each step adds what the later end has above the earlier one, so a line adds what its last point has above its first
total_from : (p : Point) (points : List Point) (row : ℤ) → total first_of (edges_from p points) row ≡ side (last_from p points) row -ℤ side p row
total_from p [] row = omega (arith, ints)
total_from p (q ∷ points) row =
    let rest = total_from q points row in
    let here = total_between p q row in
    let joined = sum_where-append (crosses row) first_of (edges_between p q) (edges_from q points) in
    omega (arith, ints)

-- the weights of the edges that act on a square are the winding number round its centre
pub weight_from : (p : Point) (points : List Point) (s : Square) → weight first_of (edges_from p points) s ≡ winding (p ∷ points) s
weight_from p [] s = refl
weight_from p (q ∷ points) s =
    let rest = weight_from q points s in
    let here = weight_between p q s in
    let joined = sum_where-append (acts_on s) first_of (edges_between p q) (edges_from q points) in
    omega (arith, ints)

second_from : (test : Edge → Bool) (p : Point) (points : List Point) → sum_where test second_of (edges_from p points) ≡ pos 0
second_from test p [] = refl
second_from test p (q ∷ points) =
    let rest = second_from test q points in
    let here = second_between test p q in
    let joined = sum_where-append test second_of (edges_between p q) (edges_from q points) in
    omega (arith, ints)

-- a closed line has as many edges up as down across each row
pub balanced_from : (p : Point) (points : List Point) → last_from p points ≡ p → IsBalanced (edges_from p points)
balanced_from p points closed = record {
  first = λ row. let whole = total_from p points row in let same = ap (λ (q : Point). side q row) closed in omega (arith, ints);
  second = λ row. second_from (crosses row) p points;
}

-- each edge has a row
one_edge : (e : Edge) → e.y1 <ℤ e.y2 → All IsEdge (e ∷ [])
one_edge e h = All-cons IsEdge e [] (record { some = h }) (All-nil IsEdge)

sound_between : (a b : Point) → All IsEdge (edges_between a b)
sound_between a b = by_bool (int_lt a.y b.y)
    (λ up. let k : a.y <ℤ b.y = omega (arith, ints) in rw up (one_edge (record { x = a.x; y1 = a.y; y2 = b.y; first = pos 1; second = pos 0 }) k))
    (λ not. by_bool (int_lt b.y a.y)
    (λ down. let k : b.y <ℤ a.y = omega (arith, ints) in rw (not, down) (one_edge (record { x = a.x; y1 = b.y; y2 = a.y; first = negsuc 0; second = pos 0 }) k))
    (λ level. rw (not, level) (All-nil IsEdge)))
  where
    by_bool : {P : Type 0} (b : Bool) → (b ≡ true → P) → (b ≡ false → P) → P
    by_bool true f g = f refl
    by_bool false f g = g refl

sound_from : (p : Point) (points : List Point) → All IsEdge (edges_from p points)
sound_from p [] = All-nil IsEdge
sound_from p (q ∷ points) = All-append IsEdge (edges_between p q) (edges_from q points) (sound_between p q) (sound_from q points)

pub sound_along : (points : List Point) → All IsEdge (edges_along points)
sound_along [] = All-nil IsEdge
sound_along (p ∷ points) = sound_from p points

pub balanced_along : (points : List Point) → IsClosed points → IsBalanced (edges_along points)
balanced_along [] closed = record { first = λ row. refl; second = λ row. refl }
balanced_along (p ∷ points) closed = balanced_from p points closed

weight_along : (points : List Point) (s : Square) → weight first_of (edges_along points) s ≡ winding points s
weight_along [] s = refl
weight_along (p ∷ points) s = weight_from p points s

second_along : (points : List Point) (s : Square) → weight second_of (edges_along points) s ≡ pos 0
second_along [] s = refl
second_along (p ∷ points) s = second_from (acts_on s) p points

-- so the edges give the squares that the line winds round
pub set_along : (points : List Point) (s : Square) → set_of Or (edges_along points) s ≡ in_boundary points s
set_along points s =
    ap (λ z. is_some (weight first_of (edges_along points) s) || is_some z) (second_along points s)
    ∙ or_false (is_some (weight first_of (edges_along points) s)) ∙ ap is_some (weight_along points s)
