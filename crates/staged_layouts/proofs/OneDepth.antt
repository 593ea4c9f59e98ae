-- The layers of selections that don't read one another.
use Rattle.std.proofs.Common.{◌≡◌, inl, inr, ℕ, true, List, [], ◌∷◌, ◌++◌, Some, refl, sym, ◌∙◌, ap, subst}
use Rattle.std.specs.Global.{Vec}
use Rattle.std.proofs.lemmas.Bool.{cases_Bool, false≢true}
use Rattle.geo_base.specs.declared.layer.LayerKey.{LayerKey}
use Rattle.geo_base.specs.declared.shapes.Rect.{Rect}
use Rattle.geo_base.specs.declared.shapes.Square.{Square}
use Rattle.plain_netlist.specs.Lists.{IsListed}
use Rattle.rect_sets.specs.Rects.{covers}
use Rattle.flat_layout.specs.Layout.{IsOwn, IsReached}
use Rattle.cell_graph.specs.Laws.{OwnLaw}
use Rattle.cell_graph.specs.Layering.{AreFurther, IsLayeredDesign, has_key, other_layers}
use Rattle.cell_graph.specs.Linked.{IsSound, Linked, cell_at, layer_keys, own_of, own_rects, plain}
use Rattle.cell_graph.specs.declared.cells.CellPart.{CellPart}
use Rattle.cell_graph.specs.declared.cells.OwnLayer.{OwnLayer}
use Rattle.cell_graph.proofs.Bridge.{key_is, key_same, part_of}
use Rattle.cell_graph.proofs.LayeredNames.{own_here, own_past}
use Rattle.cell_graph.proofs.Resolving.{at_too}
use Rattle.select_laws.specs.Staged.{IsKeyOf, Stage}
use Rattle.staged_designs.specs.Depths.{DepthLaw, stage_keys}
use Rattle.staged_designs.proofs.Depth.{has_listed, key_of}
use Rattle.staged_layouts.specs.Staged.{AreFresh, IsStagedCell, StagedDepthLaw}

-- layers of none of the keys are all kept
all_others : (keys : List LayerKey) (layers : List OwnLayer) → ((key : LayerKey) → IsListed key keys → IsListed key (layer_keys layers) → ⊥) → other_layers keys layers ≡ layers
all_others keys [] free = refl
all_others keys (l ∷ layers) free = elim (cases_Bool (has_key keys l.key)) [
  | inl e ↦ absurd (free l.key (has_listed keys l.key e) (inl refl))
  | inr e ↦ rw e (ap (λ (ls : List OwnLayer). l ∷ ls) (all_others keys layers (λ key h k. free key h (inr k))))
]

-- squares on a key that isn't among the first layers are of one of the others
behind : (xs ys : List OwnLayer) (key : LayerKey) (q : Square) → (IsListed key (layer_keys xs) → ⊥) → covers (own_rects (xs ++ ys) key) q ≡ true → (l : OwnLayer) × IsListed l ys × (covers l.set q ≡ true)
behind [] [] key q apart_from e = absurd (false≢true e)
behind [] (y ∷ ys) key q apart_from e = elim (key_is y.key key) [
  | inl same ↦ (y, inl refl, subst (λ (rs : List Rect). covers rs q ≡ true) (own_here y ys key same) e)
  | inr other ↦ let r = behind [] ys key q apart_from (subst (λ (rs : List Rect). covers rs q ≡ true) (own_past y ys key other) e) in (r.0, inr r.1, r.2)
]
behind (x ∷ xs) ys key q apart_from e = elim (key_is x.key key) [
  | inl same ↦ absurd (apart_from (inl (sym (key_same x.key key same))))
  | inr other ↦ behind xs ys key q (λ h. apart_from (inr h)) (subst (λ (rs : List Rect). covers rs q ≡ true) (own_past x (xs ++ ys) key other) e)
]

module _ (own : OwnLaw) (depth : DepthLaw) (d e : Linked) (s : Stage) (ss : List Stage) (further : List (Vec OwnLayer)) (are : AreFurther d.cells (stage_keys (s ∷ ss)) further) (made : IsLayeredDesign d (stage_keys (s ∷ ss)) further e)
    (fresh : AreFresh d (s ∷ ss) further) (sound : IsSound e) where
  staged_cell : (i : ℕ) (c p : CellPart) → cell_at d i ≡ Some c → cell_at e i ≡ Some p → IsStagedCell (s ∷ ss) c p
  staged_cell i c p at there =
      let l = at_too d.cells further i c (sym are.count) at in
      let is = made.each i l.0 c p l.1 at there in
      record {
        name = is.name;
        texts = is.texts;
        places = is.places;
        further = l.0.items;
        layers = is.layers ∙ ap (λ (ls : List OwnLayer). ls ++ l.0.items) (all_others (stage_keys (s ∷ ss)) c.layers.items (λ key h k. fresh.unused i c key at (key_of (s ∷ ss) key h) k));
        keys = are.each i l.0 l.1;
        canonical = fresh.canonical i l.0 l.1;
      }

  staged_only : (cell : ℕ) (key : LayerKey) (q : Square) → IsKeyOf (s ∷ ss) key → IsOwn (plain e) cell key q → IsReached (plain d) cell
  unfolding staged_cell
  staged_only cell key q is h =
      let part = part_of e cell h.0 h.1 in
      let p = part.0 in
      let c = at_too e.cells d.cells cell p made.count part.1 in
      let l = at_too d.cells further cell c.0 (sym are.count) c.1 in
      let cell_is = staged_cell cell c.0 p c.1 part.1 in
      let covered = (own e sound cell key q).0 h in
      let rects : covers (own_rects p.layers.items key) q ≡ true = subst (λ o. covers (own_of o key) q ≡ true) part.1 covered in
      let found = behind c.0.layers.items cell_is.further key q (λ k. fresh.unused cell c.0 key c.1 is k) (subst (λ (ls : List OwnLayer). covers (own_rects ls key) q ≡ true) cell_is.layers rects) in
      fresh.reached cell l.0 found.0 q l.1 found.1 found.2

pub depth_law : OwnLaw → DepthLaw → StagedDepthLaw
depth_law own depth d e s ss further are made found free fresh sound = record {
  top = made.top;
  way = made.way;
  sound = sound;
  count = made.count;
  cells = staged_cell own depth d e s ss further are made fresh sound;
  staged = depth d e s ss further are made found free;
  only = staged_only own depth d e s ss further are made fresh sound;
}
