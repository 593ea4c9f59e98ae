-- Exposed squares of a cell.
use Rattle.std.proofs.Common.{◌≡◌, ◌∙◌, ◌⊎◌, inl, inr, ℕ, zero, suc, ◌&&◌, true, List, [], ◌∷◌, ◌++◌, Option, Some, ap, refl, sym, subst, length, slice_get}
use Rattle.base_laws.proofs.Items.{get_last}
use Rattle.std.proofs.lemmas.Bool.{and_from}
use Rattle.std.specs.List.{All}
use Rattle.std.proofs.lemmas.Option.{slice_get_within, none-some}
use Rattle.geo_base.specs.Near.{IsNearRect}
use Rattle.geo_base.specs.Rects.{has, grown}
use Rattle.geo_base.specs.declared.shapes.Rect.{Rect}
use Rattle.geo_base.specs.declared.shapes.Square.{Square}
use Rattle.rect_sets.specs.Rects.{covers}
use Rattle.flat_laws.proofs.Moves.{within_back}
use Rattle.cell_graph.specs.Grown.{IsInGrown}
use Rattle.cell_graph.specs.Linked.{Linked, IsSound, HullHas, cell_at, hull_of}
use Rattle.cell_graph.proofs.Bridge.{hulls}
use Rattle.cell_graph.proofs.Growing.{within_grown, within_rect}
use Rattle.rule_text.specs.declared.rules.LayerRule.{LayerRule}
use Rattle.deep_tables.specs.declared.zones.CellZones.{CellZones}
use Rattle.layer_phase.specs.Around.{around}
use Rattle.layer_phase.specs.declared.exposed.Exposed.{Exposed}
use Rattle.layer_phase.specs.Looks.{AreExposed, AreExposedLists, HaveDisturbed, HaveFlat, HoldDisturbed, IsExposed, IsListAt}
use Rattle.layer_phase.proofs.Around.{near_covered}

-- what is exposed lies in the cell's grown hull
pub exposed_held : (n : ℕ) (d : Linked) (z : List (Option CellZones)) (names : List LayerRule) (cell : ℕ) (s : Square) → IsSound d → IsExposed n d z names cell s → IsInGrown n (hull_of (cell_at d cell)) s
exposed_held n d z names cell s sound e = within_grown n (hull_of (cell_at d cell)) s e.shape (hulls d sound cell e.flat_key e.shape e.flat) (within_back n e.shape s e.close)

-- the part in a hull of what is disturbed
pub hold : (z : List (Option CellZones)) (names : List LayerRule) (cell : ℕ) (w : Rect) (out all part : List Rect) → HaveDisturbed z names (length names) cell out → ((s : Square) → covers all s ≡ covers out s)
    → ((s : Square) → covers part s ≡ (covers all s && has w s)) → HoldDisturbed z names cell w part
hold z names cell w out all part have same is name key named zone at s e g =
    is s ∙ and_from (covers all s) (has w s) (same s ∙ have name key (slice_get_within names name named.0 named.1) named zone at s e) g

-- what lies near what is disturbed, and near what is flat
pub found : (n : ℕ) (d : Linked) (z : List (Option CellZones)) (names : List LayerRule) (cell : ℕ) (w wide window : Rect) (places near out all set : List Rect) → IsSound d → hull_of (cell_at d cell) ≡ Some w
    → wide ≡ grown n (grown n w) → window ≡ grown n w → HoldDisturbed z names cell wide places → ((q : Square) → covers near q ≡ covers (around n (around n places)) q)
    → HaveFlat d names (length names) cell near out → ((s : Square) → covers all s ≡ covers out s)
    → ((q : Square) → covers (around n places) q ≡ true → covers (around n all) q ≡ true → has window q ≡ true → covers set q ≡ true) → AreExposed n d z names cell set
found n d z names cell w wide window places near out all set sound hull wide_is window_is held twice flat same both s e =
    let shape_in : has w e.shape ≡ true = subst (λ o. HullHas o e.shape) hull (hulls d sound cell e.flat_key e.shape e.flat) in
    let inner : has (grown n w) s ≡ true = within_rect n w s e.shape shape_in (within_back n e.shape s e.close) in
    let outer : has wide e.near ≡ true = subst (λ r. has r e.near ≡ true) (sym wide_is) (within_rect n (grown n w) e.near s inner e.within) in
    let there = held e.name e.key e.named e.zone e.entry e.near e.disturbed outer in
    let stirred = near_covered n places s e.near there (within_back n e.near s e.within) in
    let seen = twice e.shape ∙ near_covered n (around n places) e.shape s stirred e.close in
    let here = same e.shape ∙ flat e.other e.flat_key (slice_get_within names e.other e.flat_named.0 e.flat_named.1) e.flat_named e.shape seen e.flat in
    both s stirred (near_covered n all s e.shape here (within_back n e.shape s e.close)) (subst (λ r. has r s ≡ true) (sym window_is) inner)

some_same : {A : Type 0} (x y : A) → Some x ≡ Some y → y ≡ x
some_same x y e = cc

-- an element of a list with one behind
at_either : {A : Type 0} (xs : List A) (x y : A) (k : ℕ) → slice_get (xs ++ x ∷ []) k ≡ Some y → (slice_get xs k ≡ Some y) ⊎ (y ≡ x)
at_either [] x y zero e = inr (some_same x y e)
at_either [] x y (suc k) e = absurd (none-some y e)
at_either (z ∷ xs) x y zero e = inl e
at_either (z ∷ xs) x y (suc k) e = at_either xs x y k e

-- one more set
pub kept_lists : (n : ℕ) (d : Linked) (z : List (Option CellZones)) (names : List LayerRule) (old new : List Exposed) (e : Exposed) → new ≡ old ++ e ∷ [] → AreExposedLists n d z names old → AreExposed n d z names e.cell e.set
    → All IsNearRect e.set → AreExposedLists n d z names new
kept_lists n d z names old new e is are exposed near k x at =
    elim (at_either old e x k (subst (λ (l : List Exposed). slice_get l k ≡ Some x) is at)) [
      | inl a ↦ are k x a
      | inr same ↦ subst (λ (y : Exposed). AreExposed n d z names y.cell y.set × All IsNearRect y.set) (sym same) (exposed, near)
    ]

pub kept_at : (old new : List Exposed) (e : Exposed) (position : ℕ) → new ≡ old ++ e ∷ [] → position ≡ length old → IsListAt new e.cell position
kept_at old new e position is p = (e, subst (λ (l : List Exposed). slice_get l position ≡ Some e) (sym is) (subst (λ n. slice_get (old ++ e ∷ []) n ≡ Some e) (sym p) (get_last old e)), refl)

pub no_lists : (n : ℕ) (d : Linked) (z : List (Option CellZones)) (names : List LayerRule) (lists : List Exposed) → lists ≡ [] → AreExposedLists n d z names lists
no_lists n d z names lists e k x at = absurd (none-some x (subst (λ (l : List Exposed). slice_get l k ≡ Some x) e at))

-- what a list has at a position
pub list_at : (n : ℕ) (d : Linked) (z : List (Option CellZones)) (names : List LayerRule) (lists : List Exposed) (cell position : ℕ) (e : Exposed) → AreExposedLists n d z names lists → IsListAt lists cell position
    → slice_get lists position ≡ Some e → AreExposed n d z names cell e.set × All IsNearRect e.set
list_at n d z names lists cell position e are at there =
    let same : e ≡ at.0 = some_same at.0 e (sym at.1 ∙ there) in
    let cell_is : e.cell ≡ cell = ap (λ (x : Exposed). x.cell) same ∙ at.2 in
    let h = are position e there in
    (subst (λ c. AreExposed n d z names c e.set) cell_is h.0, h.1)
