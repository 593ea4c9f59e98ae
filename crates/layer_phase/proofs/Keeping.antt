-- What placed cells keep, one visit after another.
use Rattle.std.proofs.Common.{◌≡◌, inl, inr, ℕ, ◌<◌, ◌^◌, true, false, not, ◌&&◌, List, Option, Some, None, slice_index_or, length, sym, ◌∙◌, ap, subst, arith}
use Rattle.std.proofs.lemmas.Bool.{and_parts, and_from, or_cases, or_right, not-true, not_from_false}
use Rattle.std.specs.List.{All}
use Rattle.geo_base.specs.Near.{IsNearRect}
use Rattle.geo_base.specs.Motions.{moved_square}
use Rattle.geo_base.specs.Rects.{has, IsRect}
use Rattle.geo_base.specs.declared.motion.Motion.{Motion}
use Rattle.geo_base.specs.declared.shapes.Rect.{Rect}
use Rattle.geo_base.specs.declared.shapes.Square.{Square}
use Rattle.geo_base.proofs.Images.{onto}
use Rattle.rect_sets.specs.Rects.{covers}
use Rattle.cell_graph.specs.Grown.{IsInGrown}
use Rattle.cell_graph.specs.Linked.{Linked, IsFrame, hull_of, cell_at}
use Rattle.cell_context.specs.declared.arrays.Visit.{Visit}
use Rattle.cell_context.specs.Visits.{IsVisited}
use Rattle.cell_context.specs.Over.{IsVisit, AreVisited}
use Rattle.cell_context.proofs.Visiting.{inside_from, within_inside, near_rect, wider_rect}
use Rattle.cell_context.proofs.Gathering.{Adds, some_at}
use Rattle.deep_tables.specs.declared.zones.CellZones.{CellZones}
use Rattle.layer_phase.specs.Around.{around}
use Rattle.layer_phase.proofs.Held.{listed_has}
use Rattle.layer_phase.specs.Keeps.{HasEntry, HaveEntries, IsKeptBy, IsZoneAt}

-- an entry with nothing near a square keeps the visit's image of it
abbrev pub BringsCalm : ℕ → List (Option CellZones) → ℕ → Rect → List Rect → Visit → Type 0
BringsCalm n z name w rs v = (e : List Rect) (s : Square) → IsZoneAt z v.cell name e → has v.window s ≡ true → covers (around n e) s ≡ false → has w (moved_square v.motion s) ≡ true → covers rs (moved_square v.motion s) ≡ true

abbrev pub IsCalmPart : ℕ → List (Option CellZones) → ℕ → Visit → List Rect → Type 0
IsCalmPart n z name v keep = (e : List Rect) → IsZoneAt z v.cell name e → (s : Square) → covers keep s ≡ (has v.window s && not (covers (around n e) s))

pub entry_of : (n : ℕ) (d : Linked) (z : List (Option CellZones)) (cell name : ℕ) (w : Rect) (v : Visit) → HaveEntries d z cell name → IsVisit n d cell None w v → HasEntry z v.cell name
entry_of n d z cell name w v have h = subst (λ c. HasEntry z c name) (sym h.cell_is) (have h.index h.row h.column h.from h.step)

pub right_more : (n : ℕ) (d : Linked) (z : List (Option CellZones)) (cell name : ℕ) (w : Rect) (old new keep : List Rect) (v : Visit) → HaveEntries d z cell name → IsVisit n d cell None w v
    → ((q : Square) → covers old q ≡ true → (has w q ≡ true) × IsKeptBy n d z cell name q) → IsCalmPart n z name v keep → Adds old new keep v.motion w
    → (q : Square) → covers new q ≡ true → (has w q ≡ true) × IsKeptBy n d z cell name q
right_more n d z cell name w old new keep v have h right calm adds q e =
    let o = onto v.motion q in
    subst (λ x. (has w x ≡ true) × IsKeptBy n d z cell name x) o.1 (at o.0 (subst (λ x. covers new x ≡ true) (sym o.1) e))
  where
    at : (s : Square) → covers new (moved_square v.motion s) ≡ true → (has w (moved_square v.motion s) ≡ true) × IsKeptBy n d z cell name (moved_square v.motion s)
    at s e = elim (or_cases (covers old (moved_square v.motion s)) (covers keep s && has w (moved_square v.motion s)) (sym (adds s) ∙ e)) [
      | inl f ↦ right (moved_square v.motion s) f
      | inr f ↦
          let entry = entry_of n d z cell name w v have h in
          let k = sym (calm entry.0 entry.1 s) ∙ (and_parts (covers keep s) (has w (moved_square v.motion s)) f).0 in
          let zone = covers (around n entry.0) s in (
            (and_parts (covers keep s) (has w (moved_square v.motion s)) f).1,
            record {
              index = h.index;
              row = h.row;
              column = h.column;
              from = h.from;
              step = h.step;
              square = s;
              held = subst (λ c. IsInGrown n (hull_of (cell_at d c)) s) h.cell_is (h.held s ((and_parts (has v.window s) (not zone) k).0));
              entry = entry.0;
              at = subst (λ c. IsZoneAt z c name entry.0) h.cell_is entry.1;
              off = not-true zone ((and_parts (has v.window s) (not zone) k).1);
              image = ap (λ (m : Motion). moved_square m s) (sym h.motion_is);
            },
          )
    ]

pub brings_here : (n : ℕ) (z : List (Option CellZones)) (name : ℕ) (w : Rect) (old new keep : List Rect) (v : Visit) → IsCalmPart n z name v keep → Adds old new keep v.motion w → BringsCalm n z name w new v
brings_here n z name w old new keep v calm adds e s at h off g =
    let zone = covers (around n e) s in
    let k = calm e at s ∙ and_from (has v.window s) (not zone) h (not_from_false zone off) in
    adds s ∙ or_right (covers old (moved_square v.motion s)) (covers keep s && has w (moved_square v.motion s)) (and_from (covers keep s) (has w (moved_square v.motion s)) k g)

pub all_there : (n : ℕ) (d : Linked) (z : List (Option CellZones)) (cell name : ℕ) (w : Rect) (out : List Rect) (vs : List Visit) (none : Visit)
    → ((k : ℕ) → k < length vs → BringsCalm n z name w out (slice_index_or vs k none)) → AreVisited n d cell None w vs
    → (q : Square) → has w q ≡ true → IsKeptBy n d z cell name q → covers out q ≡ true
all_there n d z cell name w out vs none brings found q g t =
    let inside = subst (λ x. has w x ≡ true) (sym t.image) g in
    let s = some_at (IsVisited t.from t.row t.column t.square) vs none (found t.index t.row t.column t.from t.square t.step (λ e. let f : None ≡ Some t.index = e in let z : ⊥ = cc in z) t.held inside) in
    let v = slice_index_or vs s.0 none in
    let m : moved_square v.motion t.square ≡ q = ap (λ (m : Motion). moved_square m t.square) s.2.motion ∙ t.image in
    let b = brings s.0 s.1 t.entry t.square (subst (λ c. IsZoneAt z c name t.entry) (sym s.2.cell) t.at) s.2.has t.off (subst (λ x. has w x ≡ true) (sym m) g) in
    subst (λ x. covers out x ≡ true) m b

-- rectangles of a calm part are near
pub part_near : (n : ℕ) (z : List (Option CellZones)) (name : ℕ) (v : Visit) (keep : List Rect) → IsFrame v.window → HasEntry z v.cell name → IsCalmPart n z name v keep → All IsRect keep → All IsNearRect keep
part_near n z name v keep hull entry calm some = λ k r lt.
    let x = slice_index_or keep k r in
    let inside = inside_from x v.window (some k r lt) (λ q e. (and_parts (has v.window q) (not (covers (around n entry.0) q)) (sym (calm entry.0 entry.1 q) ∙ listed_has keep k r q lt e)).0) in
    near_rect x (within_inside (2 ^ 39) x v.window (some k r lt) inside (wider_rect (2 ^ 37) (2 ^ 39) v.window (omega arith) hull.near))
