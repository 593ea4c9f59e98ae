-- Outside the disturbed squares a placed cell keeps its flat squares.
use Rattle.std.proofs.Common.{◌≡◌, ℕ, ℤ, List, [], ◌∷◌, ◌++◌, Some, refl, sym, ◌∙◌, ap, append_assoc, subst, arith, ◌+ℤ◌, slice_get}
use Rattle.std.proofs.Math.Decide.{ℕ_discrete}
use Rattle.std.proofs.lemmas.Int.{ints}
use Rattle.flat_laws.specs.LayerLaws.{UndisturbedLaw}
use Rattle.flat_layout.specs.Layout.{Place, Cell, Design, Some_of, IsOwn, IsPlaced, Leads, Takes, InFlatInput, IsPrefix, IsDisturbed, IsReached}
use Rattle.geo_base.specs.declared.layer.LayerKey.{LayerKey}
use Rattle.geo_base.specs.Motions.{moved_square, turned_x, turned_y}
use Rattle.geo_base.specs.declared.motion.Motion.{Motion}
use Rattle.geo_base.specs.declared.motion.Turn.{Turn}
use Rattle.geo_base.specs.declared.motion.Turn.TheVariants.{R0, R90, R180, R270, M0, M90, M180, M270}
use Rattle.geo_base.specs.declared.shapes.Square.{Square}

one_x : (t : Turn) (a b c d u v : ℤ) → turned_x t a b +ℤ u ≡ turned_x t c d +ℤ u → turned_y t a b +ℤ v ≡ turned_y t c d +ℤ v → a ≡ c
one_x R0 a b c d u v e f = omega (arith, ints)
one_x R90 a b c d u v e f = omega (arith, ints)
one_x R180 a b c d u v e f = omega (arith, ints)
one_x R270 a b c d u v e f = omega (arith, ints)
one_x M0 a b c d u v e f = omega (arith, ints)
one_x M90 a b c d u v e f = omega (arith, ints)
one_x M180 a b c d u v e f = omega (arith, ints)
one_x M270 a b c d u v e f = omega (arith, ints)

one_y : (t : Turn) (a b c d u v : ℤ) → turned_x t a b +ℤ u ≡ turned_x t c d +ℤ u → turned_y t a b +ℤ v ≡ turned_y t c d +ℤ v → b ≡ d
one_y R0 a b c d u v e f = omega (arith, ints)
one_y R90 a b c d u v e f = omega (arith, ints)
one_y R180 a b c d u v e f = omega (arith, ints)
one_y R270 a b c d u v e f = omega (arith, ints)
one_y M0 a b c d u v e f = omega (arith, ints)
one_y M90 a b c d u v e f = omega (arith, ints)
one_y M180 a b c d u v e f = omega (arith, ints)
one_y M270 a b c d u v e f = omega (arith, ints)

-- two squares with one image are one
pub moved_square-injective : (m : Motion) (s t : Square) → moved_square m s ≡ moved_square m t → s ≡ t
moved_square-injective m s t e =
    let ex = ap (λ (q : Square). q.x) e in let ey = ap (λ (q : Square). q.y) e in
    let x : s.x ≡ t.x = one_x m.turn s.x s.y t.x t.y m.dx m.dy ex ey in
    let y : s.y ≡ t.y = one_y m.turn s.x s.y t.x t.y m.dx m.dy ex ey in
    ap (λ (v : ℤ). let q : Square = record { x = v; y = s.y } in q) x ∙ ap (λ (v : ℤ). let q : Square = record { x = t.x; y = v } in q) y

-- a path takes each square somewhere
goes : (d : Design) (from to : ℕ) (ks : List ℕ) (s : Square) → Leads d from ks to → (q : Square) × Takes d from ks to s q
goes d from to [] s h = (s, (h, refl))
goes d from to (k ∷ ks) s h = let rest = goes d h.0.cell to ks s h.2 in (moved_square h.0.motion rest.0, (h.0, h.1, rest.0, rest.1, refl))

-- one path after another
pub joined : (d : Design) (from mid to : ℕ) (ks js : List ℕ) (s r q : Square) → Takes d from ks mid r q → Takes d mid js to s r → Takes d from (ks ++ js) to s q
joined d from mid to [] js s r q h t = subst (λ (c : ℕ). Takes d c js to s q) (sym h.0) (subst (λ (v : Square). Takes d mid js to s v) h.1 t)
joined d from mid to (k ∷ ks) js s r q h t = (h.0, h.1, h.2, joined d h.0.cell mid to ks js s r h.2 h.3 t, h.4)

-- a path goes on through one placement
pub extends : (d : Design) (from mid k : ℕ) (p : Place) (ks : List ℕ) (s q : Square) → Takes d from ks mid (moved_square p.motion s) q → IsPlaced d mid k p → Takes d from (ks ++ k ∷ []) p.cell s q
extends d from mid k p ks s q t placed = joined d from mid p.cell ks (k ∷ []) s (moved_square p.motion s) q t (p, placed, s, (refl, refl), refl)

-- a prefix of a longer path
pub shorter : (ks : List ℕ) (k : ℕ) (other : List ℕ) → IsPrefix (ks ++ k ∷ []) other → IsPrefix ks other
shorter ks k other h = ((k ∷ []) ++ h.0, sym (append_assoc ks (k ∷ []) h.0) ∙ h.1)

-- a placement's number names one placement
pub same_place : (d : Design) (cell k : ℕ) (p r : Place) → IsPlaced d cell k p → IsPlaced d cell k r → p ≡ r
same_place d cell k p r h g =
    let same : h.0 ≡ g.0 = cc in
    let there : slice_get g.0.places k ≡ Some p = subst (λ (c : Cell). slice_get c.places k ≡ Some p) same h.2 in cc

-- what isn't a prefix stays none behind a common path
no_prefix : (ks : List ℕ) (k : ℕ) (js : List ℕ) → (IsPrefix (k ∷ []) js → ⊥) → IsPrefix (ks ++ k ∷ []) (ks ++ js) → ⊥
no_prefix [] k js not h = not h
no_prefix (x ∷ ks) k js not h = let e : (ks ++ k ∷ []) ++ h.0 ≡ ks ++ js = cc in no_prefix ks k js not (h.0, e)

-- a shape that comes another way disturbs the placed cell
pub disturbs : (d : Design) (keys : List LayerKey) (key : LayerKey) (parent k : ℕ) (p : Place) (q s : Square) (path : List ℕ) (end : ℕ)
    → IsReached d parent → IsPlaced d parent k p → Some_of (λ j. j ≡ key) keys
    → Takes d parent path end s (moved_square p.motion q) → IsOwn d end key s → (IsPrefix (k ∷ []) path → ⊥) → IsDisturbed d keys p.cell q
disturbs d keys key parent k p q s path end reached placed listed takes own not =
    let u = goes d d.top parent reached.path (moved_square p.motion q) reached.leads in
    record {
      path = reached.path ++ k ∷ [];
      other = reached.path ++ path;
      end = end;
      square = s;
      place = u.0;
      key = key;
      listed = listed;
      takes = joined d d.top parent p.cell reached.path (k ∷ []) q (moved_square p.motion q) u.0 u.1 (p, placed, q, (refl, refl), refl);
      others = joined d d.top parent end reached.path path s (moved_square p.motion q) u.0 u.1 takes;
      own = own;
      apart = no_prefix reached.path k path not;
    }

pub first_differs : (j k : ℕ) (js : List ℕ) → (j ≡ k → ⊥) → IsPrefix (k ∷ []) (j ∷ js) → ⊥
first_differs j k js not h = let e : j ≡ k = cc in not e

came : (d : Design) (keys : List LayerKey) (key : LayerKey) (parent k : ℕ) (p : Place) (q s : Square) (path : List ℕ) (end : ℕ)
    → IsReached d parent → IsPlaced d parent k p → Some_of (λ j. j ≡ key) keys → (IsDisturbed d keys p.cell q → ⊥)
    → Takes d parent path end s (moved_square p.motion q) → IsOwn d end key s → InFlatInput d p.cell key q
came d keys key parent k p q s [] end reached placed listed calm takes own =
    absurd (calm (disturbs d keys key parent k p q s [] end reached placed listed takes own (λ h. let e : k ∷ h.0 ≡ [] = h.1 in cc)))
came d keys key parent k p q s (j ∷ js) end reached placed listed calm takes own =
    elim (ℕ_discrete j k) [
      | yes e ↦
          let same : takes.0 ≡ p = same_place d parent k takes.0 p (subst (λ (i : ℕ). IsPlaced d parent i takes.0) e takes.1) placed in
          let image_same : moved_square p.motion takes.2 ≡ moved_square p.motion q = subst (λ (r : Place). moved_square r.motion takes.2 ≡ moved_square p.motion q) same takes.4 in
          let square_same : takes.2 ≡ q = moved_square-injective p.motion takes.2 q image_same in
          record {
            path = js;
            end = end;
            square = s;
            takes = subst (λ (v : Square). Takes d p.cell js end s v) square_same (subst (λ (r : Place). Takes d r.cell js end s takes.2) same takes.3);
            own = own;
          }
      | no not ↦ absurd (calm (disturbs d keys key parent k p q s (j ∷ js) end reached placed listed takes own (first_differs j k js not)))
    ]

pub law : UndisturbedLaw
law d keys key parent k p q reached placed listed calm = (
  (λ f. came d keys key parent k p q f.square f.path f.end reached placed listed calm f.takes f.own),
  (λ f. record { path = k ∷ f.path; end = f.end; square = f.square; takes = (p, placed, q, f.takes, refl); own = f.own }),
)
