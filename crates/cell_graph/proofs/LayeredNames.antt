-- Names and own squares of cells with further layers.
use Rattle.std.proofs.Common.{◌≡◌, ℕ, zero, suc, ◌++◌, Bool, true, false, not, cond, if◌then◌else◌, List, [], ◌∷◌, Option, Some, None, slice_get, inl, inr, refl, sym, ◌∙◌, ap, subst, arith}
use Rattle.std.specs.Global.{Vec}
use Rattle.std.proofs.lemmas.Bool.{cases_Bool, or_parts}
use Rattle.base_laws.proofs.Items.{map_from, map_to, one_list}
use Rattle.base_laws.proofs.Tests.{not_both}
use Rattle.geo_base.specs.Layers.{is_same_key}
use Rattle.geo_base.specs.declared.layer.LayerKey.{LayerKey}
use Rattle.geo_base.specs.declared.shapes.Rect.{Rect}
use Rattle.plain_netlist.specs.Lists.{IsListed, AreApart}
use Rattle.plain_netlist.proofs.Listing.{at_apart}
use Rattle.plain_netlist.proofs.Members.{listed}
use Rattle.cell_graph.specs.declared.cells.OwnLayer.{OwnLayer}
use Rattle.cell_graph.specs.declared.cells.CellPart.{CellPart}
use Rattle.cell_graph.specs.Drafts.{IsNamed}
use Rattle.cell_graph.specs.Layering.{cell_names, has_key, other_layers, AreFurther, IsLayeredDesign, NamesLaw, SameNamesLaw, OwnKeptLaw, OwnFurtherLaw}
use Rattle.cell_graph.specs.Linked.{Linked, cell_at, layer_keys, own_of, own_rects}
use Rattle.cell_graph.proofs.Bridge.{key_own, key_same}
use Rattle.cell_graph.proofs.Relinking.{listed_has, names_count}
use Rattle.cell_graph.proofs.Resolving.{at_too, one_named}

-- of the cells of drafts no two have one name
pub linked_names : NamesLaw
linked_names cells top d link = record {
  few = (let a = link.sound.few in let b = link.count in omega arith);
  apart = at_apart (cell_names d.cells) (λ i j name at_i at_j. one_named cells link.sound.once name i j (named i name at_i) (named j name at_j));
}
  where
    named : (i : ℕ) (name : List ℕ) → slice_get (cell_names d.cells) i ≡ Some name → IsNamed cells name i
    named i name e =
        let p = map_from (λ (c : CellPart). c.name) d.cells i name e in
        let c = at_too d.cells cells i p.0 link.count p.1 in
        record { cell = c.0; there = c.1; named = sym (link.each i c.0 p.0 c.1 p.1).name ∙ p.2 }

-- the names stay
pub same_names : SameNamesLaw
same_names d e keys further are made names = record {
  few = (let a = names.few in let b = made.count in omega arith);
  apart = subst (λ (ns : List (List ℕ)). AreApart ns) (sym same) names.apart;
}
  where
    same : cell_names e.cells ≡ cell_names d.cells
    same = one_list (cell_names e.cells) (cell_names d.cells) (names_count e.cells ∙ made.count ∙ sym (names_count d.cells)) (λ k a b at_a at_b.
        let p = map_from (λ (c : CellPart). c.name) e.cells k a at_a in
        let c = map_from (λ (c : CellPart). c.name) d.cells k b at_b in
        let l = at_too d.cells further k c.0 (sym are.count) c.1 in
        sym p.2 ∙ (made.each k l.0 c.0 p.0 l.1 c.1 p.1).name ∙ c.2)

abbrev first_of : Bool → List Rect → List Rect → List Rect
first_of b set rest = if b then set else rest

-- past a layer of another key
pub own_past : (l : OwnLayer) (layers : List OwnLayer) (key : LayerKey) → is_same_key l.key key ≡ false → own_rects (l ∷ layers) key ≡ own_rects layers key
own_past l layers key e = ap (λ (b : Bool). first_of b l.set (own_rects layers key)) e

pub own_here : (l : OwnLayer) (layers : List OwnLayer) (key : LayerKey) → is_same_key l.key key ≡ true → own_rects (l ∷ layers) key ≡ l.set
own_here l layers key e = ap (λ (b : Bool). first_of b l.set (own_rects layers key)) e

own_none : (layers : List OwnLayer) (key : LayerKey) → has_key (layer_keys layers) key ≡ false → own_rects layers key ≡ []
own_none [] key e = refl
own_none (l ∷ layers) key e =
    let p = or_parts (is_same_key l.key key) (has_key (layer_keys layers) key) e in
    own_past l layers key p.0 ∙ own_none layers key p.1

-- keys that differ
unlike : (keys : List LayerKey) (a b : LayerKey) → has_key keys a ≡ true → has_key keys b ≡ false → is_same_key a b ≡ false
unlike keys a b e f = elim (cases_Bool (is_same_key a b)) [
  | inl g ↦ absurd (not_both (has_key keys b) (subst (λ k. has_key keys k ≡ true) (key_same a b g) e) f)
  | inr g ↦ g
]

module _ (keys : List LayerKey) (key : LayerKey) (more : List OwnLayer) where
  abbrev Layers : Bool → OwnLayer → List OwnLayer → List OwnLayer
  Layers b l layers = cond (not b) (l ∷ other_layers keys layers) (other_layers keys layers)

  -- layers of other keys stay
  own_others : has_key keys key ≡ false → own_rects more key ≡ [] → (layers : List OwnLayer) → own_rects (other_layers keys layers ++ more) key ≡ own_rects layers key
  own_others not_on none [] = none
  own_others not_on none (l ∷ layers) = elim (cases_Bool (has_key keys l.key)) [
    | inl e ↦ subst (λ b. own_rects (Layers b l layers ++ more) key ≡ own_rects (l ∷ layers) key) (sym e) (own_others not_on none layers ∙ sym (own_past l layers key (unlike keys l.key key e not_on)))
    | inr e ↦ subst (λ b. own_rects (Layers b l layers ++ more) key ≡ own_rects (l ∷ layers) key) (sym e) (ap (λ (rs : List Rect). first_of (is_same_key l.key key) l.set rs) (own_others not_on none layers))
  ]

  -- those of the keys are the further ones
  own_more : has_key keys key ≡ true → (layers : List OwnLayer) → own_rects (other_layers keys layers ++ more) key ≡ own_rects more key
  own_more has [] = refl
  own_more has (l ∷ layers) = elim (cases_Bool (has_key keys l.key)) [
    | inl e ↦ subst (λ b. own_rects (Layers b l layers ++ more) key ≡ own_rects more key) (sym e) (own_more has layers)
    | inr e ↦ subst (λ b. own_rects (Layers b l layers ++ more) key ≡ own_rects more key) (sym e) (own_past l (other_layers keys layers ++ more) key (other l.key e) ∙ own_more has layers)
  ]
    where
      other : (k : LayerKey) → has_key keys k ≡ false → is_same_key k key ≡ false
      other k e = elim (cases_Bool (is_same_key k key)) [
        | inl g ↦ absurd (not_both (has_key keys key) has (subst (λ j. has_key keys j ≡ false) (key_same k key g) e))
        | inr g ↦ g
      ]

pub key_listed : (layers : List OwnLayer) (i : ℕ) (l : OwnLayer) → slice_get layers i ≡ Some l → IsListed l.key (layer_keys layers)
key_listed layers i l at = listed (layer_keys layers) i l.key (map_to (λ (v : OwnLayer). v.key) layers i l at)

-- of layers of different keys, each has its set
pub own_at : (layers : List OwnLayer) (i : ℕ) (l : OwnLayer) → AreApart (layer_keys layers) → slice_get layers i ≡ Some l → own_rects layers l.key ≡ l.set
own_at [] i l apart at = let f : None ≡ Some l = at in absurd (let z : ⊥ = cc in z)
own_at (k ∷ layers) zero l apart at = let e : k ≡ l = cc in own_here k layers l.key (ap (λ (v : OwnLayer). is_same_key v.key l.key) e ∙ key_own l.key) ∙ ap (λ (v : OwnLayer). v.set) e
own_at (k ∷ layers) (suc i) l apart at = own_past k layers l.key differ ∙ own_at layers i l apart.1 at
  where
    differ : is_same_key k.key l.key ≡ false
    differ = elim (cases_Bool (is_same_key k.key l.key)) [
      | inl g ↦ absurd (apart.0 (subst (λ (x : LayerKey). IsListed x (layer_keys layers)) (sym (key_same k.key l.key g)) (key_listed layers i l at)))
      | inr g ↦ g
    ]

-- a cell's own squares

module _ (d e : Linked) (keys : List LayerKey) (further : List (Vec OwnLayer)) (are : AreFurther d.cells keys further) (made : IsLayeredDesign d keys further e) (cell : ℕ) where
  kept_at : (key : LayerKey) → has_key keys key ≡ false → (o p : Option CellPart) → cell_at d cell ≡ o → cell_at e cell ≡ p → own_of p key ≡ own_of o key
  kept_at key not_on None None at_d at_e = refl
  kept_at key not_on (Some c) None at_d at_e = let p = at_too d.cells e.cells cell c (sym made.count) at_d in absurd (let f : None ≡ Some p.0 = sym at_e ∙ p.1 in let z : ⊥ = cc in z)
  kept_at key not_on None (Some p) at_d at_e = let c = at_too e.cells d.cells cell p made.count at_e in absurd (let f : None ≡ Some c.0 = sym at_d ∙ c.1 in let z : ⊥ = cc in z)
  kept_at key not_on (Some c) (Some p) at_d at_e =
      let l = at_too d.cells further cell c (sym are.count) at_d in
      let is = made.each cell l.0 c p l.1 at_d at_e in
      let none : own_rects l.0.items key ≡ [] = own_none l.0.items key (subst (λ ks. has_key ks key ≡ false) (sym (are.each cell l.0 l.1)) not_on) in
      ap (λ (ls : List OwnLayer). own_rects ls key) is.layers ∙ own_others keys key l.0.items not_on none c.layers.items

  further_at : (i : ℕ) (layers : Vec OwnLayer) (layer : OwnLayer) → slice_get further cell ≡ Some layers → slice_get layers.items i ≡ Some layer → (p : CellPart) → cell_at e cell ≡ Some p → own_rects p.layers.items layer.key ≡ layer.set
  further_at i layers layer more at p at_e =
      let c = at_too e.cells d.cells cell p made.count at_e in
      let is = made.each cell layers c.0 p more c.1 at_e in
      let same = are.each cell layers more in
      let here : IsListed layer.key keys = subst (λ ks. IsListed layer.key ks) same (key_listed layers.items i layer at) in
      ap (λ (ls : List OwnLayer). own_rects ls layer.key) is.layers ∙ own_more keys layer.key layers.items (listed_has keys layer.key here) c.0.layers.items
      ∙ own_at layers.items i layer (subst (λ ks. AreApart ks) (sym same) are.apart) at

pub own_kept : OwnKeptLaw
own_kept d e keys further are made cell key not_on = kept_at d e keys further are made cell key not_on (cell_at d cell) (cell_at e cell) refl refl

pub own_further : OwnFurtherLaw
own_further d e keys further are made cell i layers layer more at =
    let c = at_too further d.cells cell layers are.count more in
    let p = at_too d.cells e.cells cell c.0 (sym made.count) c.1 in
    subst (λ (o : Option CellPart). own_of o layer.key ≡ layer.set) (sym p.1) (further_at d e keys further are made cell i layers layer more at p.0 p.1)
