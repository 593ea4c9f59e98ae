-- Layers of cells, list by list and cell by cell.
use Rattle.std.proofs.Common.{◌≡◌, inl, inr, ℕ, ◌+◌, true, List, [], ◌∷◌, ◌++◌, Some, refl, sym, ap, ◌∙◌, subst, length, length-append, slice_get}
use Rattle.std.specs.Global.{Vec}
use Rattle.base_laws.proofs.Items.{push_cases, map_from, one_list}
use Rattle.std.proofs.lemmas.List.{length-map}
use Rattle.std.proofs.lemmas.Option.{same_Some}
use Rattle.cell_graph.specs.Linked.{layer_keys}
use Rattle.cell_graph.specs.declared.cells.OwnLayer.{OwnLayer}
use Rattle.geo_base.specs.declared.layer.LayerKey.{LayerKey}
use Rattle.geo_base.specs.declared.shapes.Rect.{Rect}
use Rattle.rect_sets.specs.Rects.{IsCanonical, covers}
use Rattle.staged_designs.specs.Depths.{stage_keys}
use Rattle.further_layers.specs.Further.{set_at, AreLayersBy, AreCellLayers, FurtherLaw}

pub none_built : (keys : List LayerKey) (lists : List (List (List Rect))) (cell : ℕ) → AreLayersBy keys lists cell 0 []
none_built keys lists cell = record { count = refl; each = λ k layer at. absurd (let w : ⊥ = cc in w) }

pub built_more : (keys : List LayerKey) (lists : List (List (List Rect))) (cell n : ℕ) (layer : OwnLayer) (layers : List OwnLayer) → slice_get keys n ≡ Some layer.key → layer.set ≡ set_at lists n cell → IsCanonical layer.set
    → AreLayersBy keys lists cell n layers → AreLayersBy keys lists cell (n + 1) (layers ++ layer ∷ [])
built_more keys lists cell n layer layers key set canonical h = record {
  count = length-append layers (layer ∷ []) ∙ ap (λ k. k + 1) h.count;
  each = λ k l at. elim (push_cases layers layer l k at) [
    | inl old ↦ h.each k l old
    | inr (last, same) ↦
        let here : n ≡ k = sym h.count ∙ sym last in
        subst (λ (m : OwnLayer). (slice_get keys k ≡ Some m.key) × (m.set ≡ set_at lists k cell) × IsCanonical m.set) same
        (subst (λ i. slice_get keys i ≡ Some layer.key) here key, subst (λ i. layer.set ≡ set_at lists i cell) here set, canonical)
  ];
}

pub no_cells : (keys : List LayerKey) (lists : List (List (List Rect))) → AreCellLayers keys lists 0 []
no_cells keys lists = record { count = refl; each = λ cell layers at. absurd (let w : ⊥ = cc in w) }

pub cell_more : (keys : List LayerKey) (lists : List (List (List Rect))) (n : ℕ) (layers : Vec OwnLayer) (further : List (Vec OwnLayer)) → AreLayersBy keys lists n (length keys) layers.items → AreCellLayers keys lists n further
    → AreCellLayers keys lists (n + 1) (further ++ layers ∷ [])
cell_more keys lists n layers further are h = record {
  count = length-append further (layers ∷ []) ∙ ap (λ k. k + 1) h.count;
  each = λ cell v at. elim (push_cases further layers v cell at) [
    | inl old ↦ h.each cell v old
    | inr (last, same) ↦
        let here : n ≡ cell = sym h.count ∙ sym last in
        subst (λ (w : Vec OwnLayer). AreLayersBy keys lists cell (length keys) w.items) same (subst (λ i. AreLayersBy keys lists i (length keys) layers.items) here are)
  ];
}

-- they have the keys
keys_are : (keys : List LayerKey) (lists : List (List (List Rect))) (cell : ℕ) (layers : List OwnLayer) → AreLayersBy keys lists cell (length keys) layers → layer_keys layers ≡ keys
keys_are keys lists cell layers are = one_list (layer_keys layers) keys (length-map layers (λ (l : OwnLayer). l.key) ∙ are.count) (λ k x y at there.
    let m = map_from (λ (l : OwnLayer). l.key) layers k x at in
    let e = (are.each k m.0 m.1).0 in
    sym m.2 ∙ same_Some m.0.key y (sym e ∙ there))

pub further_law : FurtherLaw
further_law d stages lists further apart selected are = record {
  layers = record {
    apart = apart;
    count = are.count;
    each = λ i layers at. keys_are (stage_keys stages) lists i layers.items (are.each i layers at);
  };
  found = record {
    each = λ cell i layers layer s reached at there stage q.
        let e = ((are.each cell layers at).each i layer there).1 in
        let h = selected.each i s stage cell reached q in
        ((λ c. h.0 (subst (λ (set : List Rect). covers set q ≡ true) e c)), (λ o. subst (λ (set : List Rect). covers set q ≡ true) (sym e) (h.1 o)));
    parted = selected.parted;
  };
}
