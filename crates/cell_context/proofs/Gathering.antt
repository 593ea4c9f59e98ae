-- What is gathered through visits.
use Rattle.std.proofs.Common.{◌≡◌, ◌↔◌, inl, inr, ℕ, zero, suc, pos, ◌<◌, ◌+◌, ◌^◌, List, [], ◌∷◌, ◌++◌, Option, Some, None, true, ◌&&◌, ◌||◌, slice_index_or, length, map, take, refl, sym, ◌∙◌, ap, subst, arith}
use Rattle.std.proofs.lemmas.Bool.{and_parts, and_from, or_cases, or_left, or_right}
use Rattle.std.specs.List.{All}
use Rattle.geo_base.specs.Near.{IsNearMotion, IsNearRect}
use Rattle.geo_base.specs.Motions.{moved_square}
use Rattle.geo_base.specs.Rects.{has, IsRect}
use Rattle.geo_base.specs.declared.layer.LayerKey.{LayerKey}
use Rattle.geo_base.specs.declared.motion.Turn.TheVariants.{R0}
use Rattle.geo_base.specs.declared.motion.Motion.{Motion}
use Rattle.geo_base.specs.declared.shapes.Rect.{Rect}
use Rattle.geo_base.specs.declared.shapes.Square.{Square}
use Rattle.geo_base.proofs.Images.{onto}
use Rattle.rect_sets.specs.Rects.{covers}
use Rattle.flat_layout.specs.Arrays.{place_at}
use Rattle.flat_layout.specs.Layout as flat
use Rattle.flat_layout.specs.Layout.{Some_of, IsOwn, InFlatInput, Takes}
use Rattle.cell_graph.specs.Linked.{Linked, IsSound, IsRectWithin, cell_at, hull_of, places_at, own_of, height_at, plain, reference}
use Rattle.cell_graph.proofs.Bridge.{own, hulls, step_of, placed_of, lower}
use Rattle.cell_graph.proofs.Elements.{number_of}
use Rattle.cell_graph.proofs.Growing.{grown_none}
use Rattle.cell_context.specs.declared.arrays.Visit.{Visit}
use Rattle.cell_context.specs.Visits.{IsVisited}
use Rattle.cell_context.specs.Over.{IsOver, OverLaw, IsVisit, AreVisited, IsPiece}
use Rattle.cell_context.proofs.Visiting.{near_motion, near_rect, wider_rect, within_inside}
use Rattle.cell_context.proofs.Collecting.{near_array, covers_append, covers_more}

to_flat : (d : Linked) (cell : ℕ) (key : LayerKey) (q : Square) → IsSound d → IsOver d cell None key q → InFlatInput (plain d) cell key q
to_flat d cell key q sound (inl e) = record { path = []; end = cell; square = q; takes = (refl, refl); own = (own d sound cell key q).1 e }
to_flat d cell key q sound (inr t) = record {
  path = number_of (map reference (places_at (cell_at d cell))) t.index (reference t.from) t.row t.column ∷ t.flat.path;
  end = t.flat.end;
  square = t.flat.square;
  takes = (place_at (reference t.from) t.row t.column, placed_of d cell t.index t.row t.column t.from t.step, t.square, t.flat.takes, t.image);
  own = t.flat.own;
}

of_path : (d : Linked) (cell : ℕ) (key : LayerKey) (q : Square) (path : List ℕ) (end : ℕ) (s : Square) → IsSound d → Takes (plain d) cell path end s q → IsOwn (plain d) end key s → IsOver d cell None key q
of_path d cell key q [] end s sound takes o =
    inl ((own d sound cell key q).0 (subst (λ c. IsOwn (plain d) c key q) (sym takes.0) (subst (λ x. IsOwn (plain d) end key x) takes.1 o)))
of_path d cell key q (k ∷ ks) end s sound (p, placed, r, rest, e) o =
    let t = step_of d cell k p placed in
    let below : InFlatInput (plain d) p.cell key r = record { path = ks; end = end; square = s; takes = rest; own = o } in
    inr (record {
      index = t.index;
      row = t.row;
      column = t.column;
      from = t.from;
      step = t.step;
      kept = λ f. let g : None ≡ Some t.index = f in cc;
      square = r;
      flat = subst (λ (x : flat.Place). InFlatInput (plain d) x.cell key r) t.is below;
      image = ap (λ (x : flat.Place). moved_square x.motion r) (sym t.is) ∙ e;
    })

pub over_flat : OverLaw
over_flat d sound cell key q = (to_flat d cell key q sound, λ h. of_path d cell key q h.path h.end h.square sound h.takes h.own)

-- what a visit promises
pub visit_lower : (n : ℕ) (d : Linked) (cell : ℕ) (skip : Option ℕ) (w : Rect) (v : Visit) → IsSound d → IsVisit n d cell skip w v → (v.cell < length d.cells) × (height_at d v.cell < height_at d cell)
visit_lower n d cell skip w v sound h = subst (λ c. (c < length d.cells) × (height_at d c < height_at d cell)) (sym h.cell_is) (lower d cell h.index h.from sound h.step.there)

pub visit_motion : (n : ℕ) (d : Linked) (cell : ℕ) (skip : Option ℕ) (w : Rect) (v : Visit) → IsSound d → IsVisit n d cell skip w v → IsNearMotion v.motion
visit_motion n d cell skip w v sound h =
    subst IsNearMotion (sym h.motion_is) (near_motion h.from h.row h.column (near_array d cell h.index h.from sound h.step.there) h.step.row_in h.step.column_in)

pub visit_window : (n : ℕ) (d : Linked) (cell : ℕ) (skip : Option ℕ) (w : Rect) (v : Visit) → IsVisit n d cell skip w v → IsRectWithin (2 ^ 39) v.window
visit_window n d cell skip w v h = wider_rect (2 ^ 37) (2 ^ 39) v.window (omega arith) h.near.near

pub pieces_rects : (w : Rect) (rs : List Rect) → All (IsPiece w) rs → All IsRect rs
pieces_rects w rs h = λ k r lt. (h k r lt).some

pub pieces_near : (w : Rect) (rs : List Rect) → IsRectWithin (2 ^ 39) w → All (IsPiece w) rs → All IsNearRect rs
pieces_near w rs near h = λ k r lt. near_rect (slice_index_or rs k r) (within_inside (2 ^ 39) (slice_index_or rs k r) w (h k r lt).some (h k r lt).inside near)

abbrev pub IsExact : Linked → ℕ → Option ℕ → LayerKey → Rect → List Rect → Type 0
IsExact d cell skip key w rs = (q : Square) → (covers rs q ≡ true) ↔ ((has w q ≡ true) × IsOver d cell skip key q)

-- what is there so far is right
abbrev pub AreRight : Linked → ℕ → Option ℕ → LayerKey → Rect → List Rect → Type 0
AreRight d cell skip key w rs = (q : Square) → covers rs q ≡ true → (has w q ≡ true) × IsOver d cell skip key q

abbrev pub Adds : List Rect → List Rect → List Rect → Motion → Rect → Type 0
Adds old new below m w = (s : Square) → covers new (moved_square m s) ≡ (covers old (moved_square m s) || (covers below s && has w (moved_square m s)))

pub right_more : (d : Linked) (cell : ℕ) (skip : Option ℕ) (key : LayerKey) (w : Rect) (old new below : List Rect) (v : Visit) → IsSound d → IsVisit 0 d cell skip w v
    → AreRight d cell skip key w old → IsExact d v.cell None key v.window below → Adds old new below v.motion w → AreRight d cell skip key w new
right_more d cell skip key w old new below v sound h right exact adds q e =
    let o = onto v.motion q in
    subst (λ x. (has w x ≡ true) × IsOver d cell skip key x) o.1 (at o.0 (subst (λ x. covers new x ≡ true) (sym o.1) e))
  where
    at : (s : Square) → covers new (moved_square v.motion s) ≡ true → (has w (moved_square v.motion s) ≡ true) × IsOver d cell skip key (moved_square v.motion s)
    at s e = elim (or_cases (covers old (moved_square v.motion s)) (covers below s && has w (moved_square v.motion s)) (sym (adds s) ∙ e)) [
      | inl f ↦ right (moved_square v.motion s) f
      | inr f ↦
          let b = (exact s).0 ((and_parts (covers below s) (has w (moved_square v.motion s)) f).0) in
          let there = (over_flat d sound v.cell key s).0 b.1 in (
            (and_parts (covers below s) (has w (moved_square v.motion s)) f).1,
            inr (record {
              index = h.index;
              row = h.row;
              column = h.column;
              from = h.from;
              step = h.step;
              kept = h.kept;
              square = s;
              flat = subst (λ c. InFlatInput (plain d) c key s) h.cell_is there;
              image = ap (λ (m : Motion). moved_square m s) (sym h.motion_is);
            }),
          )
    ]

-- what was there stays
pub stays_there : (old new below : List Rect) (m : Motion) (w : Rect) → Adds old new below m w → (q : Square) → covers old q ≡ true → covers new q ≡ true
stays_there old new below m w adds q e =
    let o = onto m q in
    subst (λ x. covers new x ≡ true) o.1 (adds o.0 ∙ or_left (covers old (moved_square m o.0)) (covers below o.0 && has w (moved_square m o.0)) (subst (λ x. covers old x ≡ true) (sym o.1) e))

-- the visit brings the flat squares of its window
abbrev pub Brings : Linked → LayerKey → Rect → List Rect → Visit → Type 0
Brings d key w rs v = (r : Square) → has v.window r ≡ true → InFlatInput (plain d) v.cell key r → has w (moved_square v.motion r) ≡ true → covers rs (moved_square v.motion r) ≡ true

pub brings_here : (d : Linked) (key : LayerKey) (w : Rect) (old new below : List Rect) (v : Visit) → IsSound d → IsExact d v.cell None key v.window below → Adds old new below v.motion w → Brings d key w new v
brings_here d key w old new below v sound exact adds r h flat g =
    adds r ∙ or_right (covers old (moved_square v.motion r)) (covers below r && has w (moved_square v.motion r)) (and_from (covers below r) (has w (moved_square v.motion r)) ((exact r).1 (h, (over_flat d sound v.cell key r).1 flat)) g)

pub some_at : {A : Type 0} (P : A → Type 0) (xs : List A) (d : A) → Some_of P xs → (k : ℕ) × (k < length xs) × P (slice_index_or xs k d)
some_at P [] d h = absurd h
some_at P (x ∷ xs) d (inl h) = (zero, (omega arith), h)
some_at P (x ∷ xs) d (inr h) = let r = some_at P xs d h in let lt = r.1 in (suc r.0, (omega arith), r.2)

-- all that lies over a square of the window is there
pub all_there : (d : Linked) (cell : ℕ) (skip : Option ℕ) (key : LayerKey) (w : Rect) (out : List Rect) (vs : List Visit) (none : Visit) → IsSound d
    → ((q : Square) → covers (own_of (cell_at d cell) key) q ≡ true → has w q ≡ true → covers out q ≡ true)
    → ((k : ℕ) → k < length vs → Brings d key w out (slice_index_or vs k none)) → AreVisited 0 d cell skip w vs
    → (q : Square) → has w q ≡ true → IsOver d cell skip key q → covers out q ≡ true
all_there d cell skip key w out vs none sound mine brings found q g (inl e) = mine q e g
all_there d cell skip key w out vs none sound mine brings found q g (inr t) =
    let held = (grown_none (hull_of (cell_at d t.from.cell)) t.square).1 (hulls d sound t.from.cell key t.square t.flat) in
    let inside = subst (λ x. has w x ≡ true) (sym t.image) g in
    let s = some_at (IsVisited t.from t.row t.column t.square) vs none (found t.index t.row t.column t.from t.square t.step t.kept held inside) in
    let v = slice_index_or vs s.0 none in
    let m : moved_square v.motion t.square ≡ q = ap (λ (m : Motion). moved_square m t.square) s.2.motion ∙ t.image in
    let b = brings s.0 s.1 t.square s.2.has (subst (λ c. InFlatInput (plain d) c key t.square) (sym s.2.cell) t.flat) (subst (λ x. has w x ≡ true) (sym m) g) in
    subst (λ x. covers out x ≡ true) m b

abbrev pub no_visit : Visit
no_visit = record { cell = 0; motion = record { turn = R0; dx = pos 0; dy = pos 0 }; window = record { x1 = pos 0; y1 = pos 0; x2 = pos 0; y2 = pos 0 } }

abbrev pub Starts : List Rect → List Rect → List Rect → Rect → Type 0
Starts old new rects w = (q : Square) → covers new q ≡ (covers old q || (covers rects q && has w q))

pub start_right : (d : Linked) (cell : ℕ) (skip : Option ℕ) (key : LayerKey) (w : Rect) (old new rects : List Rect) → old ≡ [] → rects ≡ own_of (cell_at d cell) key → Starts old new rects w → AreRight d cell skip key w new
start_right d cell skip key w old new rects none is h q e =
    let f : (covers [] q || (covers rects q && has w q)) ≡ true = ap (λ l. covers l q || (covers rects q && has w q)) (sym none) ∙ sym (h q) ∙ e in
    let g : (covers rects q && has w q) ≡ true = f in
    ((and_parts (covers rects q) (has w q) g).1, inl (subst (λ l. covers l q ≡ true) is ((and_parts (covers rects q) (has w q) g).0)))

pub start_own : (d : Linked) (cell : ℕ) (key : LayerKey) (w : Rect) (old new rects : List Rect) → rects ≡ own_of (cell_at d cell) key → Starts old new rects w
    → (q : Square) → covers (own_of (cell_at d cell) key) q ≡ true → has w q ≡ true → covers new q ≡ true
start_own d cell key w old new rects is h q e g = h q ∙ or_right (covers old q) (covers rects q && has w q) (and_from (covers rects q) (has w q) (subst (λ l. covers l q ≡ true) (sym is) e) g)

-- one more rectangle whose flat squares are gathered
pub grow : (d : Linked) (cell : ℕ) (key : LayerKey) (old more new rects : List Rect) (k : ℕ) (z : Rect) → IsSound d → k < length rects → new ≡ old ++ more
    → ((q : Square) → (covers old q ≡ true) ↔ ((covers (take k rects) q ≡ true) × InFlatInput (plain d) cell key q))
    → ((q : Square) → (covers more q ≡ true) ↔ ((has (slice_index_or rects k z) q ≡ true) × IsOver d cell None key q))
    → (q : Square) → (covers new q ≡ true) ↔ ((covers (take (k + 1) rects) q ≡ true) × InFlatInput (plain d) cell key q)
grow d cell key old more new rects k z sound lt e before here q =
    let joined : covers new q ≡ (covers old q || covers more q) = ap (λ l. covers l q) e ∙ covers_append old more q in
    let next = covers_more rects k z q lt in
    let o = over_flat d sound cell key q in (
      (λ h. elim (or_cases (covers old q) (covers more q) (sym joined ∙ h)) [
        | inl g ↦ let b = (before q).0 g in (next ∙ or_left (covers (take k rects) q) (has (slice_index_or rects k z) q) b.0, b.1)
        | inr g ↦ let b = (here q).0 g in (next ∙ or_right (covers (take k rects) q) (has (slice_index_or rects k z) q) b.0, o.0 b.1)
      ]),
      (λ h. joined ∙ elim (or_cases (covers (take k rects) q) (has (slice_index_or rects k z) q) (sym next ∙ h.0)) [
        | inl g ↦ or_left (covers old q) (covers more q) ((before q).1 (g, h.1))
        | inr g ↦ or_right (covers old q) (covers more q) ((here q).1 (g, o.1 h.1))
      ]),
    )
