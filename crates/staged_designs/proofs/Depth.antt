-- Cells with further layers are designs with the layers of stages.
use Rattle.std.proofs.Common.{◌≡◌, ◌↔◌, inl, inr, ℕ, zero, suc, Bool, true, false, not, List, [], ◌∷◌, Some, None, map, slice_get, refl, sym, ◌∙◌, ap, subst}
use Rattle.std.specs.Global.{Vec}
use Rattle.std.proofs.lemmas.Bool.{cases_Bool, or_cases, false≢true}
use Rattle.base_laws.proofs.Items.{map_from, map_to}
use Rattle.base_laws.proofs.Lists.{map_count}
use Rattle.flat_layout.specs.Arrays.{places_of}
use Rattle.flat_layout.specs.Layout.{Cell, Some_of, IsOwn, IsReached, Takes}
use Rattle.flat_layout.specs.Layout as flat
use Rattle.flat_laws.proofs.Names.{near_input}
use Rattle.geo_base.specs.Layers.{is_same_key}
use Rattle.geo_base.specs.declared.layer.LayerKey.{LayerKey}
use Rattle.geo_base.specs.declared.shapes.Square.{Square}
use Rattle.plain_netlist.specs.Lists.{IsListed}
use Rattle.plain_netlist.proofs.Listing.{apart_at}
use Rattle.plain_netlist.proofs.Members.{listed}
use Rattle.cell_graph.specs.Layering.{has_key, other_layers, AreFurther, IsLayeredCell, IsLayeredDesign}
use Rattle.cell_graph.specs.Linked.{Linked, cell_at, layer_keys, plain, plain_cell, plain_layer, plain_text, reference}
use Rattle.cell_graph.specs.declared.cells.CellPart.{CellPart}
use Rattle.cell_graph.specs.declared.cells.OwnLayer.{OwnLayer}
use Rattle.cell_graph.specs.declared.cells.Place.{Place}
use Rattle.cell_graph.specs.declared.cells.RawText.{RawText}
use Rattle.cell_graph.proofs.Bridge.{covers_some, key_same, part_of, some_covers}
use Rattle.cell_graph.proofs.Relinking.{listed_has}
use Rattle.cell_graph.proofs.Resolving.{at_too}
use Rattle.select_laws.specs.Layered.{IsOwnSelected}
use Rattle.select_laws.specs.Staged.{Stage, IsKeyOf}
use Rattle.staged_designs.specs.Depths.{stage_keys, AreFound, DepthLaw}
use Rattle.staged_designs.proofs.Mixed.{AreAlike, IsOn, none_passed, pass_some, some_either, some_left, some_passed, some_right, staged}

-- some item of a mapped list

some_map : {A B : Type 0} (P : B → Type 0) (f : A → B) (xs : List A) → Some_of P (map f xs) ↔ Some_of (λ x. P (f x)) xs
some_map P f [] = ((λ h. h), (λ h. h))
some_map P f (x ∷ xs) = let r = some_map P f xs in (
  (λ h. elim h [ inl a ↦ inl a | inr b ↦ inr (r.0 b) ]),
  (λ h. elim h [ inl a ↦ inl a | inr b ↦ inr (r.1 b) ]),
)

some_place : {A : Type 0} (P : A → Type 0) (xs : List A) → Some_of P xs → (k : ℕ) × (x : A) × (slice_get xs k ≡ Some x) × P x
some_place P [] h = absurd h
some_place P (x ∷ xs) (inl a) = (0, x, refl, a)
some_place P (x ∷ xs) (inr b) = let r = some_place P xs b in (suc r.0, r.1, r.2, r.3)

place_some : {A : Type 0} (P : A → Type 0) (xs : List A) (k : ℕ) (x : A) → slice_get xs k ≡ Some x → P x → Some_of P xs
place_some P [] k x e p = let f : None ≡ Some x = e in absurd (let z : ⊥ = cc in z)
place_some P (y ∷ xs) zero x e p = let f : y ≡ x = cc in inl (subst P (sym f) p)
place_some P (y ∷ xs) (suc k) x e p = inr (place_some P xs k x e p)

-- keys

pub has_listed : (keys : List LayerKey) (key : LayerKey) → has_key keys key ≡ true → IsListed key keys
has_listed [] key e = absurd (false≢true e)
has_listed (k ∷ keys) key e = elim (or_cases (is_same_key k key) (has_key keys key) e) [ inl a ↦ inl (sym (key_same k key a)) | inr b ↦ inr (has_listed keys key b) ]

pub key_of : (ss : List Stage) (key : LayerKey) → IsListed key (stage_keys ss) → IsKeyOf ss key
key_of [] key h = h
key_of (s ∷ ss) key (inl e) = inl (sym e)
key_of (s ∷ ss) key (inr h) = inr (key_of ss key h)

abbrev On : LayerKey → Square → OwnLayer → Type 0
On key q l = IsOn key q (plain_layer l)

on_listed : (layers : List OwnLayer) (key : LayerKey) (q : Square) → Some_of (On key q) layers → IsListed key (layer_keys layers)
on_listed [] key q h = h
on_listed (l ∷ layers) key q (inl a) = inl (sym a.0)
on_listed (l ∷ layers) key q (inr b) = inr (on_listed layers key q b)

abbrev is_other : List LayerKey → OwnLayer → Bool
is_other keys l = not (has_key keys l.key)

-- a cell with a flat square is there
flat_cell : (d : flat.Design) (cell : ℕ) (key : LayerKey) (q : Square) (path : List ℕ) (end : ℕ) (s : Square) → Takes d cell path end s q → IsOwn d end key s → (c : Cell) × (slice_get d.cells cell ≡ Some c)
flat_cell d cell key q [] end s takes own = (own.0, subst (λ n. slice_get d.cells n ≡ Some own.0) (sym takes.0) own.1)
flat_cell d cell key q (k ∷ ks) end s takes own = (takes.1.0, takes.1.1)

module _ (d e : Linked) (ss : List Stage) (further : List (Vec OwnLayer)) (are : AreFurther d.cells (stage_keys ss) further) (made : IsLayeredDesign d (stage_keys ss) further e) where
  abbrev keys : List LayerKey
  keys = stage_keys ss

  record IsPair (cell : ℕ) (c p : CellPart) : Type 0 where
    layers : Vec OwnLayer
    first : cell_at d cell ≡ Some c
    second : cell_at e cell ≡ Some p
    more : slice_get further cell ≡ Some layers
    is : IsLayeredCell keys layers.items c p

  below : (cell : ℕ) (p : CellPart) → cell_at e cell ≡ Some p → (c : CellPart) × IsPair cell c p
  below cell p at =
      let c = at_too e.cells d.cells cell p made.count at in
      let l = at_too d.cells further cell c.0 (sym are.count) c.1 in
      (c.0, record { layers = l.0; first = c.1; second = at; more = l.1; is = made.each cell l.0 c.0 p l.1 c.1 at })

  above : (cell : ℕ) (c : CellPart) → cell_at d cell ≡ Some c → (p : CellPart) × IsPair cell c p
  above cell c at =
      let p = at_too d.cells e.cells cell c (sym made.count) at in
      let l = at_too d.cells further cell c (sym are.count) at in
      (p.0, record { layers = l.0; first = at; second = p.1; more = l.1; is = made.each cell l.0 c p.0 l.1 at p.1 })

  cell_in : (x : Linked) (cell : ℕ) (c : CellPart) → cell_at x cell ≡ Some c → slice_get (plain x).cells cell ≡ Some (plain_cell c)
  cell_in x cell c at = map_to plain_cell x.cells cell c at

  alike : AreAlike (plain d) (plain e)
  alike = record {
    top = made.top;
    count = map_count plain_cell d.cells ∙ sym made.count ∙ sym (map_count plain_cell e.cells);
    places = λ cell k p. (
      (λ h.
          let m = part_of e cell h.0 h.1 in
          let r = below cell m.0 m.1 in
          let s = subst (λ (c : Cell). slice_get c.places k ≡ Some p) (sym m.2) h.2 in
          (plain_cell r.0, cell_in d cell r.0 r.1.first, subst (λ (ps : List Place). slice_get (places_of (map reference ps)) k ≡ Some p) r.1.is.places s)),
      (λ h.
          let m = part_of d cell h.0 h.1 in
          let r = above cell m.0 m.1 in
          let s = subst (λ (c : Cell). slice_get c.places k ≡ Some p) (sym m.2) h.2 in
          (plain_cell r.0, cell_in e cell r.0 r.1.second, subst (λ (ps : List Place). slice_get (places_of (map reference ps)) k ≡ Some p) (sym r.1.is.places) s)),
    );
    texts = λ cell t. (
      (λ h.
          let m = part_of e cell h.0 h.1 in
          let r = below cell m.0 m.1 in
          let s = subst (λ (c : Cell). Some_of (λ u. u ≡ t) c.texts) (sym m.2) h.2 in
          (plain_cell r.0, cell_in d cell r.0 r.1.first, subst (λ (ts : List RawText). Some_of (λ u. u ≡ t) (map plain_text ts)) r.1.is.texts s)),
      (λ h.
          let m = part_of d cell h.0 h.1 in
          let r = above cell m.0 m.1 in
          let s = subst (λ (c : Cell). Some_of (λ u. u ≡ t) c.texts) (sym m.2) h.2 in
          (plain_cell r.0, cell_in e cell r.0 r.1.second, subst (λ (ts : List RawText). Some_of (λ u. u ≡ t) (map plain_text ts)) (sym r.1.is.texts) s)),
    );
  }

  -- what stands on a key, as layers of the parts
  on_of : (x : Linked) (cell : ℕ) (key : LayerKey) (q : Square) → IsOwn (plain x) cell key q → (c : CellPart) × (cell_at x cell ≡ Some c) × Some_of (On key q) c.layers.items
  on_of x cell key q h =
      let m = part_of x cell h.0 h.1 in
      let s = subst (λ (c : Cell). Some_of (IsOn key q) c.layers) (sym m.2) h.2 in
      (m.0, m.1, (some_map (IsOn key q) plain_layer m.0.layers.items).0 s)

  of_on : (x : Linked) (cell : ℕ) (key : LayerKey) (q : Square) (c : CellPart) → cell_at x cell ≡ Some c → Some_of (On key q) c.layers.items → IsOwn (plain x) cell key q
  of_on x cell key q c at s = (plain_cell c, cell_in x cell c at, (some_map (IsOn key q) plain_layer c.layers.items).1 s)

  others : (cell : ℕ) (key : LayerKey) (q : Square) → (IsKeyOf ss key → ⊥) → IsOwn (plain e) cell key q ↔ IsOwn (plain d) cell key q
  others cell key q free_of = (
    (λ h.
        let m = on_of e cell key q h in
        let r = below cell m.0 m.1 in
        let s = subst (λ (ls : List OwnLayer). Some_of (On key q) ls) r.1.is.layers m.2 in
        of_on d cell key q r.0 r.1.first (elim (some_either (On key q) (other_layers keys r.0.layers.items) r.1.layers.items s) [
          | inl a ↦ some_passed (On key q) (is_other keys) r.0.layers.items a
          | inr b ↦ absurd (free_of (key_of ss key (subst (λ ks. IsListed key ks) (are.each cell r.1.layers r.1.more) (on_listed r.1.layers.items key q b))))
        ])),
    (λ h.
        let m = on_of d cell key q h in
        let r = above cell m.0 m.1 in
        let s = some_left (On key q) (other_layers keys m.0.layers.items) r.1.layers.items (pass_some (On key q) (is_other keys) m.0.layers.items (λ l on. passes l on) m.2) in
        of_on e cell key q r.0 r.1.second (subst (λ (ls : List OwnLayer). Some_of (On key q) ls) (sym r.1.is.layers) s)),
  )
    where
      passes : (l : OwnLayer) → On key q l → is_other keys l ≡ true
      passes l on = elim (cases_Bool (has_key keys l.key)) [
        | inl e ↦ absurd (free_of (key_of ss key (has_listed keys key (subst (λ k. has_key keys k ≡ true) on.0 e))))
        | inr e ↦ ap not e
      ]

  module _ (found : AreFound d ss further) (i : ℕ) (s : Stage) (at : slice_get ss i ≡ Some s) (cell : ℕ) (q : Square) (reached : IsReached (plain d) cell) where
    key_at : slice_get keys i ≡ Some s.key
    key_at = map_to (λ (t : Stage). t.key) ss i s at

    -- the layer of the key
    layer_at : (layers : Vec OwnLayer) → slice_get further cell ≡ Some layers → (l : OwnLayer) × (slice_get layers.items i ≡ Some l) × (l.key ≡ s.key)
    layer_at layers more = map_from (λ (l : OwnLayer). l.key) layers.items i s.key (subst (λ ks. slice_get ks i ≡ Some s.key) (sym (are.each cell layers more)) key_at)

    -- is the only one of the key
    one_layer : (layers : Vec OwnLayer) (k : ℕ) (l : OwnLayer) → slice_get further cell ≡ Some layers → slice_get layers.items k ≡ Some l → l.key ≡ s.key → k ≡ i
    one_layer layers k l more at_l same =
        let here : slice_get keys k ≡ Some s.key = subst (λ ks. slice_get ks k ≡ Some s.key) (are.each cell layers more) (map_to (λ (x : OwnLayer). x.key) layers.items k l at_l ∙ ap (λ (x : LayerKey). Some x) same) in
        apart_at s.key keys k i are.apart here key_at

    none_old : (l : OwnLayer) → On s.key q l → is_other keys l ≡ false
    none_old l on = ap not (subst (λ k. has_key keys k ≡ true) (sym on.0) (listed_has keys s.key (listed keys i s.key key_at)))

    new_layer : IsOwn (plain e) cell s.key q ↔ IsOwnSelected (plain d) s.select cell q
    new_layer = (
      (λ h.
          let m = on_of e cell s.key q h in
          let r = below cell m.0 m.1 in
          let t = subst (λ (ls : List OwnLayer). Some_of (On s.key q) ls) r.1.is.layers m.2 in
          elim (some_either (On s.key q) (other_layers keys r.0.layers.items) r.1.layers.items t) [
            | inl a ↦ absurd (none_passed (On s.key q) (is_other keys) r.0.layers.items none_old a)
            | inr b ↦
                let p = some_place (On s.key q) r.1.layers.items b in
                let same = one_layer r.1.layers p.0 p.1 r.1.more p.2 p.3.0 in
                let there : slice_get r.1.layers.items i ≡ Some p.1 = subst (λ k. slice_get r.1.layers.items k ≡ Some p.1) same p.2 in
                (found.each cell i r.1.layers p.1 s reached r.1.more there at q).0 (some_covers p.1.set q p.3.1)
          ]),
      (λ h.
          let n = near_input (plain d) cell s.select.region q h.own.whole.is in
          let f = flat_cell (plain d) cell n.0 n.2 n.4.path n.4.end n.4.square n.4.takes n.4.own in
          let c = part_of d cell f.0 f.1 in
          let r = above cell c.0 c.1 in
          let l = layer_at r.1.layers r.1.more in
          let has = covers_some l.0.set q ((found.each cell i r.1.layers l.0 s reached r.1.more l.1 at q).1 h) in
          let b = some_right (On s.key q) (other_layers keys c.0.layers.items) r.1.layers.items (place_some (On s.key q) r.1.layers.items i l.0 l.1 (l.2, has)) in
          of_on e cell s.key q r.0 r.1.second (subst (λ (ls : List OwnLayer). Some_of (On s.key q) ls) (sym r.1.is.layers) b)),
    )

pub depth : DepthLaw
depth d e s ss further are made found free =
    staged ss s (plain d) (plain e) free
    (λ i j t u at_t at_u same. apart_at u.key (stage_keys (s ∷ ss)) i j are.apart (map_to (λ (x : Stage). x.key) (s ∷ ss) i t at_t ∙ ap (λ (x : LayerKey). Some x) same) (map_to (λ (x : Stage). x.key) (s ∷ ss) j u at_u))
    (record {
      alike = alike d e (s ∷ ss) further are made;
      others = others d e (s ∷ ss) further are made;
      each = λ i t at cell q reached. new_layer d e (s ∷ ss) further are made found i t at cell q reached;
      parted = found.parted;
    })
