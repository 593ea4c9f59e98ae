-- What a cell keeps, from what it holds itself and from visits.
use Rattle.std.proofs.Common.{◌≡◌, inl, inr, ℕ, ◌<◌, ◌≤◌, ◌+◌, ◌^◌, List, [], ◌∷◌, ◌++◌, Option, Some, None, true, false, ◌&&◌, slice_index_or, get_or, length, take, refl, sym, ◌∙◌, ap, subst, arith}
use Rattle.std.proofs.lemmas.Bool.{and_from, or_cases, or_left, or_right, and_parts}
use Rattle.std.specs.List.{All}
use Rattle.geo_base.specs.Motions.{moved_square}
use Rattle.geo_base.specs.Rects.{has, IsRect, grown}
use Rattle.geo_base.specs.declared.motion.Motion.{Motion}
use Rattle.geo_base.specs.declared.shapes.Rect.{Rect}
use Rattle.geo_base.specs.declared.shapes.Square.{Square}
use Rattle.geo_base.proofs.Images.{onto}
use Rattle.std.proofs.lemmas.Int.{ints}
use Rattle.rect_sets.specs.Rects.{IsListed, covers}
use Rattle.rect_sets.proofs.Unique.{listed_get, rect_of}
use Rattle.rect_sets.proofs.Splitting.{listed_either}
use Rattle.std.proofs.lemmas.List.{take_more}
use Rattle.flat_layout.specs.Arrays.{place_at}
use Rattle.flat_layout.specs.Layout as flat
use Rattle.flat_layout.specs.Layout.{IsReached}
use Rattle.flat_layout.specs.Layers.{Formula, IsKept, IsKeptBelow, reach}
use Rattle.flat_layout.specs.Values.{IsLocalLayer}
use Rattle.flat_laws.proofs.Cover.{reached_below, kept_above, kept_here}
use Rattle.cell_graph.specs.Linked.{Linked, IsSound, IsRectWithin, HullHas, HullIsSound, hull_of, cell_at, motion_at, plain, reference}
use Rattle.cell_graph.specs.Grown.{IsInGrown}
use Rattle.cell_graph.proofs.Growing.{grown_frame}
use Rattle.cell_graph.proofs.Bridge.{hull_sound, inside_has, in_has, placed_of, step_of}
use Rattle.cell_context.specs.declared.arrays.Visit.{Visit}
use Rattle.cell_context.specs.Visits.{IsVisited}
use Rattle.cell_context.specs.Over.{IsVisit, AreVisited, IsPiece}
use Rattle.cell_context.proofs.Collecting.{covers_more}
use Rattle.cell_context.proofs.Gathering.{Adds, some_at}
use Rattle.cell_context.proofs.Visiting.{inside_from, within_inside, wider_rect}
use Rattle.deep_tables.specs.Layers.{layer_of}
use Rattle.gate_search.specs.Gather.{AreMet}
use Rattle.net_phase.proofs.Righting.{flat_in_hull}
use Rattle.gate_phase.specs.Indexes.{LayersOf}
use Rattle.gate_phase.specs.Kept.{HasLocals, HoldsNear, IsNearPiece}
use Rattle.gate_phase.proofs.Seeding.{flat_grown}
use Rattle.gate_phase.proofs.Telling.{kept_flat}

-- a kept square of a name lies in the cell's hull, grown by the name's reach
pub kept_grown : (d : Linked) (cell : ℕ) (x : Formula) (q : Square) → IsSound d → IsKept (plain d) cell x q → IsInGrown (reach x) (hull_of (cell_at d cell)) q
kept_grown d cell x q sound h = flat_grown d x cell q sound (kept_flat (plain d) cell x q h)

-- of a name that isn't sized in the hull itself
pub kept_held : (d : Linked) (cell : ℕ) (x : Formula) (q : Square) → IsSound d → reach x ≡ 0 → IsKept (plain d) cell x q → HullHas (hull_of (cell_at d cell)) q
kept_held d cell x q sound unsized h = flat_in_hull d x cell q sound unsized (kept_flat (plain d) cell x q h)

abbrev pub low_square : Rect → Square
low_square r = record { x = r.x1; y = r.y1 }

pub low_in : (r : Rect) → IsRect r → has r (low_square r) ≡ true
low_in r some = let wide = some.wide in let high = some.high in in_has r (low_square r) ((omega (arith, ints)), (omega (arith, ints)), (omega (arith, ints)), (omega (arith, ints)))

-- a rectangle in a hull is near
pub held_rect : (o : Option Rect) (r : Rect) → HullIsSound o → IsRect r → ((q : Square) → has r q ≡ true → HullHas o q) → IsRectWithin (2 ^ 39) r
held_rect None r sound some h = absurd (h (low_square r) (low_in r some))
held_rect (Some w) r sound some h = within_inside (2 ^ 39) r w some (inside_from r w some h) (wider_rect (2 ^ 36) (2 ^ 39) w (omega arith) sound.near)

-- and so is one in a grown hull
pub frame_rect : (n : ℕ) (o : Option Rect) (r : Rect) → n ≤ 20001 → HullIsSound o → IsRect r → ((q : Square) → has r q ≡ true → IsInGrown n o q) → IsRectWithin (2 ^ 39) r
frame_rect n None r most sound some h = absurd (h (low_square r) (low_in r some))
frame_rect n (Some w) r most sound some h = within_inside (2 ^ 39) r (grown n w) some (inside_from r (grown n w) some h) (wider_rect (2 ^ 37) (2 ^ 39) (grown n w) (omega arith) (grown_frame n w most sound).near)

pub listed_has : (rects : List Rect) (r : Rect) (q : Square) → IsListed r rects → has r q ≡ true → covers rects q ≡ true
listed_has [] r q l e = absurd l
listed_has (x ∷ xs) r q (inl s) e = or_left (has x q) (covers xs q) (subst (λ (y : Rect). has y q ≡ true) s e)
listed_has (x ∷ xs) r q (inr l) e = or_right (has x q) (covers xs q) (listed_has xs r q l e)

pub one_of : (rects : List Rect) (q : Square) → covers rects q ≡ true → (r : Rect) × IsListed r rects × (has r q ≡ true)
one_of [] q e = let f : false ≡ true = e in absurd (let z : ⊥ = cc in z)
one_of (x ∷ xs) q e = elim (or_cases (has x q) (covers xs q) e) [
  | inl f ↦ (x, inl refl, f)
  | inr f ↦ let t = one_of xs q f in (t.0, inr t.1, t.2)
]

-- what is chosen of a list covers no more
pub chosen : (all some : List Rect) → ((r : Rect) → IsListed r some → IsListed r all) → (q : Square) → covers some q ≡ true → covers all q ≡ true
chosen all some h q e = let t = one_of some q e in listed_has all t.0 q (h t.0 t.1) t.2

-- what a cell holds itself is near
local_near : (d : Linked) (x : Formula) (cell : ℕ) (layer : List Rect) (r : Rect) → IsSound d → reach x ≤ 10000 → IsLocalLayer (plain d) x cell layer → IsListed r layer → IsRectWithin (2 ^ 39) r
local_near d x cell layer r sound most is l =
    frame_rect (reach x) (hull_of (cell_at d cell)) r (omega (arith, most)) (hull_sound d cell sound) (rect_of (covers layer) r ((is.canonical.each r).0 l))
    (λ q e. kept_grown d cell x q sound (kept_here (plain d) cell x q ((is.each q).0 (listed_has layer r q l e))))

pub local_pieces : (d : Linked) (x : Formula) (cell : ℕ) (layer rects : List Rect) (plane : Rect) → IsSound d → reach x ≤ 10000 → IsLocalLayer (plain d) x cell layer → HoldsNear plane
    → ((r : Rect) → IsListed r rects → IsListed r layer) → All (IsPiece plane) rects
local_pieces d x cell layer rects plane sound most is all h = λ k r lt.
    let y = slice_index_or rects k r in
    let l = h y (listed_get rects k r lt) in
    record { some = rect_of (covers layer) y ((is.canonical.each y).0 l); inside = all y (local_near d x cell layer y sound most is l) }

-- what is there so far is kept
abbrev pub AreKept : Linked → ℕ → Formula → List Rect → Type 0
AreKept d cell x rects = (q : Square) → covers rects q ≡ true → IsKept (plain d) cell x q

-- the visit's cell is reached
pub visit_reached : (n : ℕ) (d : Linked) (cell : ℕ) (w : Rect) (v : Visit) → IsReached (plain d) cell → IsVisit n d cell None w v → IsReached (plain d) v.cell
visit_reached n d cell w v reached h =
    subst (λ c. IsReached (plain d) c) (sym h.cell_is) (reached_below (plain d) cell _ (place_at (reference h.from) h.row h.column) reached (placed_of d cell h.index h.row h.column h.from h.step))

-- and what it keeps is kept here
visit_kept : (n : ℕ) (d : Linked) (cell : ℕ) (x : Formula) (w : Rect) (v : Visit) (s : Square) → IsReached (plain d) cell → IsVisit n d cell None w v → IsKept (plain d) v.cell x s → IsKept (plain d) cell x (moved_square v.motion s)
visit_kept n d cell x w v s reached h kept =
    subst (λ (m : Motion). IsKept (plain d) cell x (moved_square m s)) (sym h.motion_is)
    (kept_above (plain d) cell _ (place_at (reference h.from) h.row h.column) x s reached (placed_of d cell h.index h.row h.column h.from h.step) (subst (λ c. IsKept (plain d) c x s) h.cell_is kept))

pub right_more : (n : ℕ) (d : Linked) (cell : ℕ) (x : Formula) (w plane : Rect) (old new below : List Rect) (v : Visit) → IsReached (plain d) cell → IsVisit n d cell None w v
    → AreKept d cell x old → AreKept d v.cell x below → Adds old new below v.motion plane → AreKept d cell x new
right_more n d cell x w plane old new below v reached h right exact adds q e =
    let o = onto v.motion q in
    subst (λ y. IsKept (plain d) cell x y) o.1 (at o.0 (subst (λ y. covers new y ≡ true) (sym o.1) e))
  where
    at : (s : Square) → covers new (moved_square v.motion s) ≡ true → IsKept (plain d) cell x (moved_square v.motion s)
    at s e = elim (or_cases (covers old (moved_square v.motion s)) (covers below s && has plane (moved_square v.motion s)) (sym (adds s) ∙ e)) [
      | inl f ↦ right (moved_square v.motion s) f
      | inr f ↦ visit_kept n d cell x w v s reached h (exact s ((and_parts (covers below s) (has plane (moved_square v.motion s)) f).0))
    ]

-- the visit brings what its cell keeps in its window
abbrev pub Brings : Linked → Formula → Rect → List Rect → Visit → Type 0
Brings d x w out v = (s : Square) → has v.window s ≡ true → IsKept (plain d) v.cell x s → has w (moved_square v.motion s) ≡ true → covers out (moved_square v.motion s) ≡ true

pub brings_here : (d : Linked) (x : Formula) (w plane : Rect) (old new below : List Rect) (v : Visit) → HoldsNear plane → IsRectWithin (2 ^ 39) w
    → ((s : Square) → IsKept (plain d) v.cell x s → has v.window s ≡ true → covers below s ≡ true) → Adds old new below v.motion plane → Brings d x w new v
brings_here d x w plane old new below v all near exact adds s h kept g =
    adds s ∙ or_right (covers old (moved_square v.motion s)) (covers below s && has plane (moved_square v.motion s))
    (and_from (covers below s) (has plane (moved_square v.motion s)) (exact s kept h) (inside_has w plane (moved_square v.motion s) (all w near) g))

-- what the window has of all that is kept is there
pub all_there : (n : ℕ) (d : Linked) (cell : ℕ) (x : Formula) (w : Rect) (layer out : List Rect) (vs : List Visit) (none : Visit) → IsSound d → n ≡ reach x → IsLocalLayer (plain d) x cell layer
    → ((q : Square) → covers layer q ≡ true → has w q ≡ true → covers out q ≡ true)
    → ((k : ℕ) → k < length vs → Brings d x w out (slice_index_or vs k none)) → AreVisited n d cell None w vs
    → (q : Square) → IsKept (plain d) cell x q → has w q ≡ true → covers out q ≡ true
all_there n d cell x w layer out vs none sound known is mine brings found q kept g = elim (is.parted q kept) [
  | inl here ↦ mine q ((is.each q).1 here) g
  | inr below ↦ from_below below
]
  where
    from_below : IsKeptBelow (plain d) cell x q → covers out q ≡ true
    from_below b =
        let t = step_of d cell b.number b.place b.placed in
        let is_kept : IsKept (plain d) t.from.cell x b.square = subst (λ (y : flat.Place). IsKept (plain d) y.cell x b.square) t.is b.kept in
        let image : moved_square (motion_at t.from t.row t.column) b.square ≡ q = ap (λ (y : flat.Place). moved_square y.motion b.square) (sym t.is) ∙ b.image in
        let inside = subst (λ y. has w y ≡ true) (sym image) g in
        let s = some_at (IsVisited t.from t.row t.column b.square) vs none
        (found t.index t.row t.column t.from b.square t.step (λ e. let f : None ≡ Some t.index = e in let z : ⊥ = cc in z) (subst (λ m. IsInGrown m (hull_of (cell_at d t.from.cell)) b.square) (sym known) (kept_grown d t.from.cell x b.square sound is_kept)) inside) in
        let v = slice_index_or vs s.0 none in
        let m : moved_square v.motion b.square ≡ q = ap (λ (m : Motion). moved_square m b.square) s.2.motion ∙ image in
        let b' = brings s.0 s.1 b.square s.2.has (subst (λ c. IsKept (plain d) c x b.square) (sym s.2.cell) is_kept) (subst (λ y. has w y ≡ true) (sym m) g) in
        subst (λ y. covers out y ≡ true) m b'

pub listed_first : (r : Rect) (xs ys : List Rect) → IsListed r xs → IsListed r (xs ++ ys)
listed_first r [] ys l = absurd l
listed_first r (x ∷ xs) ys (inl e) = inl e
listed_first r (x ∷ xs) ys (inr l) = inr (listed_first r xs ys l)

listed_last : (r : Rect) (xs ys : List Rect) → IsListed r ys → IsListed r (xs ++ ys)
listed_last r [] ys l = l
listed_last r (x ∷ xs) ys l = inr (listed_last r xs ys l)

-- what was chosen of the first rectangles, one on
pub chosen_more : (rects old new : List Rect) (k : ℕ) (d r : Rect) → k < length rects → ((s : Rect) → IsListed s new → IsListed s (old ++ slice_index_or rects k d ∷ [])) → ((s : Rect) → IsListed s old → IsListed s (take k rects))
    → IsListed r new → IsListed r (take (k + 1) rects)
chosen_more rects old new k d r lt step before l =
    subst (IsListed r) (sym (take_more rects k d lt)) (elim (listed_either r old (slice_index_or rects k d ∷ []) (step r l)) [
      | inl a ↦ listed_first r (take k rects) (slice_index_or rects k d ∷ []) (before r a)
      | inr b ↦ listed_last r (take k rects) (slice_index_or rects k d ∷ []) b
    ])

pub complete_more : (rects old new : List Rect) (w : Rect) (k : ℕ) (d : Rect) (q : Square) → k < length rects → (covers old q ≡ true → covers new q ≡ true) → (has (slice_index_or rects k d) q ≡ true → has w q ≡ true → covers new q ≡ true)
    → (covers (take k rects) q ≡ true → has w q ≡ true → covers old q ≡ true) → covers (take (k + 1) rects) q ≡ true → has w q ≡ true → covers new q ≡ true
complete_more rects old new w k d q lt stay here before e g = elim (or_cases (covers (take k rects) q) (has (slice_index_or rects k d) q) (sym (covers_more rects k d q lt) ∙ e)) [
  | inl f ↦ stay (before f g)
  | inr f ↦ here f g
]

pub piece_near : (plane : Rect) (rects : List Rect) → IsRectWithin (2 ^ 39) plane → All (IsPiece plane) rects → All IsNearPiece rects
piece_near plane rects near h = λ k r lt. let p = h k r lt in record { some = p.some; near = within_inside (2 ^ 39) (slice_index_or rects k r) plane p.some p.inside near }

-- one entry of a table
pub one_layer : (o : Option (List Rect)) (a b : List Rect) → o ≡ Some a → o ≡ Some b → a ≡ b
one_layer o a b e f = let g : Some a ≡ Some b = sym e ∙ f in cc

-- what was chosen of a cell's own squares is kept
pub chosen_kept : (d : Linked) (layers : LayersOf) (cell name : ℕ) (x : Formula) (layer some : List Rect) → IsReached (plain d) cell → HasLocals (plain d) layers name x → layer_of layers.table cell name ≡ Some layer
    → ((r : Rect) → IsListed r some → IsListed r layer) → AreKept d cell x some
chosen_kept d layers cell name x layer some reached locals at h q e =
    let l = locals cell reached in
    let same : l.0 ≡ layer = one_layer (layer_of layers.table cell name) l.0 layer l.1 at in
    kept_here (plain d) cell x q ((l.2.each q).0 (subst (λ y. covers y q ≡ true) (sym same) (chosen layer some h q e)))

pub chosen_pieces : (d : Linked) (layers : LayersOf) (cell name : ℕ) (x : Formula) (layer some : List Rect) (plane : Rect) → IsSound d → IsReached (plain d) cell → HasLocals (plain d) layers name x → layer_of layers.table cell name ≡ Some layer
    → HoldsNear plane → ((r : Rect) → IsListed r some → IsListed r layer) → All (IsPiece plane) some
chosen_pieces d layers cell name x layer some plane sound reached locals at all h =
    let l = locals cell reached in
    let same : l.0 ≡ layer = one_layer (layer_of layers.table cell name) l.0 layer l.1 at in
    local_pieces d x cell layer some plane sound l.3.most (subst (IsLocalLayer (plain d) x cell) same l.2) all h

pub in_one : (w : Rect) (q : Square) → covers (w ∷ []) q ≡ true → has w q ≡ true
in_one w q e = elim (or_cases (has w q) false e) [ inl f ↦ f | inr f ↦ absurd (let g : false ≡ true = f in let z : ⊥ = cc in z) ]

pub one_window : (w : Rect) (q : Square) → has w q ≡ true → covers (w ∷ []) q ≡ true
one_window w q e = or_left (has w q) false e

pub met_window : (n : ℕ) (d : Linked) (layers : LayersOf) (cell name : ℕ) (x : Formula) (w : Rect) (out : List Rect) (vs : List Visit) (none : Visit) → n ≡ get_or layers.reaches name 0 → IsSound d → IsReached (plain d) cell → HasLocals (plain d) layers name x → AreKept d cell x out
    → ((layer : List Rect) (q : Square) → layer_of layers.table cell name ≡ Some layer → covers layer q ≡ true → has w q ≡ true → covers out q ≡ true)
    → ((k : ℕ) → k < length vs → Brings d x w out (slice_index_or vs k none)) → AreVisited n d cell None w vs → AreMet (IsKept (plain d) cell x) (w ∷ []) out
met_window n d layers cell name x w out vs none by sound reached locals right mine brings found =
    let l = locals cell reached in
    record {
      sound = right;
      complete = λ q kept e. all_there n d cell x w l.0 out vs none sound (by ∙ l.3.is) l.2 (λ p c g. mine l.0 p l.1 c g) brings found q kept (in_one w q e);
    }
