-- Cells with further layers are drafts that link to the same places.
use Rattle.std.proofs.Common.{◌≡◌, ◌⊎◌, inl, inr, ℕ, zero, suc, ◌+◌, ◌<◌, ◌≤◌, true, not, List, [], ◌∷◌, ◌++◌, Option, Some, None, length, slice_get, refl, sym, ◌∙◌, ap, subst, arith, cond}
use Rattle.std.specs.Global.{Vec}
use Rattle.std.proofs.lemmas.Bool.{cases_Bool, or_left, or_right, false≢true}
use Rattle.base_laws.proofs.Items.{one_entry, item_at, map_to, map_from, one_list}
use Rattle.geo_base.specs.Layers.{is_same_key}
use Rattle.geo_base.specs.declared.layer.LayerKey.{LayerKey}
use Rattle.geo_base.specs.declared.motion.Motion.{Motion}
use Rattle.geo_base.specs.declared.shapes.Point.{Point}
use Rattle.plain_netlist.specs.Lists.{IsListed, AreApart}
use Rattle.plain_netlist.proofs.Listing.{apart_at}
use Rattle.cell_graph.specs.declared.cells.OwnLayer.{OwnLayer}
use Rattle.cell_graph.specs.declared.cells.Place.{Place}
use Rattle.cell_graph.specs.declared.cells.CellPart.{CellPart}
use Rattle.cell_graph.specs.declared.drafts.CellDraft.{CellDraft}
use Rattle.cell_graph.specs.declared.drafts.DraftRef.{DraftRef}
use Rattle.cell_graph.specs.declared.drafts.LinkFault.{LinkFault}
use Rattle.cell_graph.specs.declared.drafts.LinkFault.TheVariants.{TooManyCells, DuplicateCell, NoSuchCell, Cycle, TooDeep, NoTop, TopUnclear, CoordinateRange, NoMemory}
use Rattle.cell_graph.specs.Chains.{Leads}
use Rattle.cell_graph.specs.Drafts.{IsNamed, HasRef, Refers, IsFault, IsLink}
use Rattle.cell_graph.specs.Extents.{HaveArrays}
use Rattle.cell_graph.specs.Layering.{cell_names, HaveNames, has_key, other_layers, AreFurther, IsLayeredDesign, IsRefOf, IsDraftOf, AreDraftsOf, AreDraftsTo, IsLayerFault, ArePlacesInside}
use Rattle.cell_graph.specs.Linked.{Linked, IsSound, cell_at, keeping, places_at, height_at, height_of, layer_keys}
use Rattle.cell_graph.proofs.Bridge.{key_own, reference_at, lower}
use Rattle.cell_graph.proofs.Resolving.{at_too}

-- keys

pub listed_has : (keys : List LayerKey) (key : LayerKey) → IsListed key keys → has_key keys key ≡ true
listed_has [] key h = absurd h
listed_has (k ∷ keys) key (inl e) = or_left (is_same_key k key) (has_key keys key) (subst (λ x. is_same_key x key ≡ true) e (key_own key))
listed_has (k ∷ keys) key (inr h) = or_right (is_same_key k key) (has_key keys key) (listed_has keys key h)

abbrev others : List LayerKey → List OwnLayer → List LayerKey
others keys layers = layer_keys (other_layers keys layers)

other_listed : (keys : List LayerKey) (layers : List OwnLayer) (key : LayerKey) → IsListed key (others keys layers) → IsListed key (layer_keys layers)
other_listed keys [] key h = h
other_listed keys (l ∷ layers) key h = elim (cases_Bool (has_key keys l.key)) [
  | inl e ↦ inr (other_listed keys layers key (subst (λ b. IsListed key (layer_keys (cond (not b) (l ∷ other_layers keys layers) (other_layers keys layers)))) e h))
  | inr e ↦ elim (subst (λ b. IsListed key (layer_keys (cond (not b) (l ∷ other_layers keys layers) (other_layers keys layers)))) e h) [ inl f ↦ inl f | inr g ↦ inr (other_listed keys layers key g) ]
]

listed_append : (xs ys : List LayerKey) (key : LayerKey) → IsListed key (xs ++ ys) → IsListed key xs ⊎ IsListed key ys
listed_append [] ys key h = inr h
listed_append (x ∷ xs) ys key (inl e) = inl (inl e)
listed_append (x ∷ xs) ys key (inr h) = elim (listed_append xs ys key h) [ inl g ↦ inl (inr g) | inr g ↦ inr g ]

apart_keys : (keys more : List LayerKey) (layers : List OwnLayer) → AreApart (layer_keys layers) → AreApart more → ((key : LayerKey) → IsListed key more → has_key keys key ≡ true) → AreApart (others keys layers ++ more)
apart_keys keys more [] h g within = g
apart_keys keys more (l ∷ layers) h g within = elim (cases_Bool (has_key keys l.key)) [
  | inl e ↦ subst (λ b. AreApart (layer_keys (cond (not b) (l ∷ other_layers keys layers) (other_layers keys layers)) ++ more)) (sym e) (apart_keys keys more layers h.1 g within)
  | inr e ↦ subst (λ b. AreApart (layer_keys (cond (not b) (l ∷ other_layers keys layers) (other_layers keys layers)) ++ more)) (sym e) (
    (λ i. elim (listed_append (others keys layers) more l.key i) [
      | inl a ↦ h.0 (other_listed keys layers l.key a)
      | inr a ↦ false≢true (sym e ∙ within l.key a)
    ]),
    apart_keys keys more layers h.1 g within,
  )
]

keys_append : (xs ys : List OwnLayer) → layer_keys (xs ++ ys) ≡ layer_keys xs ++ layer_keys ys
keys_append [] ys = refl
keys_append (x ∷ xs) ys = ap (λ l. x.key ∷ l) (keys_append xs ys)

-- places

pub place_same : (a b : Place) → a.cell ≡ b.cell → a.motion ≡ b.motion → a.columns ≡ b.columns → a.rows ≡ b.rows → a.column_step ≡ b.column_step → a.row_step ≡ b.row_step → a ≡ b
place_same a b e f g h i j =
    ap (λ (v : ℕ). let p : Place = record { cell = v; motion = a.motion; columns = a.columns; rows = a.rows; column_step = a.column_step; row_step = a.row_step } in p) e
    ∙ ap (λ (v : Motion). let p : Place = record { cell = b.cell; motion = v; columns = a.columns; rows = a.rows; column_step = a.column_step; row_step = a.row_step } in p) f
    ∙ ap (λ (v : ℕ). let p : Place = record { cell = b.cell; motion = b.motion; columns = v; rows = a.rows; column_step = a.column_step; row_step = a.row_step } in p) g
    ∙ ap (λ (v : ℕ). let p : Place = record { cell = b.cell; motion = b.motion; columns = b.columns; rows = v; column_step = a.column_step; row_step = a.row_step } in p) h
    ∙ ap (λ (v : Point). let p : Place = record { cell = b.cell; motion = b.motion; columns = b.columns; rows = b.rows; column_step = v; row_step = a.row_step } in p) i
    ∙ ap (λ (v : Point). let p : Place = record { cell = b.cell; motion = b.motion; columns = b.columns; rows = b.rows; column_step = b.column_step; row_step = v } in p) j

-- the placements of a sound design name its cells
pub places_inside : (d : Linked) → IsSound d → ArePlacesInside d.cells (length d.cells)
places_inside d sound i c at k p there = (lower d i k p sound (subst (λ o. slice_get (places_at o) k ≡ Some p) (sym at) there)).0

pub names_count : (cells : List CellPart) → length (cell_names cells) ≡ length cells
names_count [] = refl
names_count (c ∷ cells) = ap suc (names_count cells)

-- drafts of a design's cells, by their names
pub made_of : (d : Linked) (cells : List CellPart) (names : List (List ℕ)) (keys : List LayerKey) (further : List (Vec OwnLayer)) (drafts : List CellDraft) → cells ≡ d.cells → names ≡ cell_names cells
    → AreDraftsTo names cells keys further (length cells) drafts → AreDraftsOf d.cells keys further drafts
made_of d cells names keys further drafts e f h =
    subst (λ (cs : List CellPart). AreDraftsTo (cell_names cs) cs keys further (length cs) drafts) e
    (subst (λ (ns : List (List ℕ)). AreDraftsTo ns cells keys further (length cells) drafts) f h)

-- their placements name cells of the list
pub inside_of : (d : Linked) (cells : List CellPart) (names : List (List ℕ)) → IsSound d → cells ≡ d.cells → names ≡ cell_names cells → ArePlacesInside cells (length names)
inside_of d cells names sound e f =
    let long : length d.cells ≡ length names = sym (ap length f ∙ names_count cells ∙ ap length e) in
    subst (λ (cs : List CellPart). ArePlacesInside cs (length names)) (sym e) (subst (λ n. ArePlacesInside d.cells n) long (places_inside d sound))

pub top_at : (d : Linked) (i : ℕ) (cell : CellPart) → i ≡ d.top → cell_at d d.top ≡ Some cell → cell_at d i ≡ Some cell
top_at d i cell e at = subst (λ k. cell_at d k ≡ Some cell) (sym e) at

shallow : (d : Linked) (i : ℕ) → IsSound d → height_at d i ≤ 64
shallow d i sound = at (cell_at d i) refl
  where
    at : (o : Option CellPart) → cell_at d i ≡ o → height_of o ≤ 64
    at None e = omega arith
    at (Some c) e = (sound.each i c e).height

module _ (d : Linked) (sound : IsSound d) (names : HaveNames d.cells) (keys : List LayerKey) (further : List (Vec OwnLayer)) (are : AreFurther d.cells keys further)
    (drafts : List CellDraft) (made : AreDraftsOf d.cells keys further drafts) where
  record IsDrafted (i : ℕ) (draft : CellDraft) : Type 0 where
    cell : CellPart
    layers : Vec OwnLayer
    there : slice_get d.cells i ≡ Some cell
    more : slice_get further i ≡ Some layers
    is : IsDraftOf (cell_names d.cells) keys layers.items cell draft

  drafted : (i : ℕ) (draft : CellDraft) → slice_get drafts i ≡ Some draft → IsDrafted i draft
  drafted i draft at =
      let c = at_too drafts d.cells i draft made.count at in
      let l = at_too d.cells further i c.0 (sym are.count) c.1 in
      record { cell = c.0; layers = l.0; there = c.1; more = l.1; is = made.each i l.0 c.0 draft l.1 c.1 at }

  -- the draft of a cell has its name, and no other has
  named_at : (i : ℕ) (name : List ℕ) → IsNamed drafts name i → slice_get (cell_names d.cells) i ≡ Some name
  named_at i name h =
      let m = drafted i h.cell h.there in
      map_to (λ (c : CellPart). c.name) d.cells i m.cell m.there ∙ ap (λ (n : List ℕ). Some n) (sym m.is.name ∙ h.named)

  pub at_named : (i : ℕ) (name : List ℕ) → slice_get (cell_names d.cells) i ≡ Some name → IsNamed drafts name i
  at_named i name e =
      let c = map_from (λ (c : CellPart). c.name) d.cells i name e in
      let r = at_too d.cells drafts i c.0 (sym made.count) c.1 in
      let m = drafted i r.0 r.1 in
      let same = one_entry (slice_get d.cells i) m.cell c.0 m.there c.1 in
      record { cell = r.0; there = r.1; named = m.is.name ∙ ap (λ (c : CellPart). c.name) same ∙ c.2 }

  one_name : (name : List ℕ) (i j : ℕ) → IsNamed drafts name i → IsNamed drafts name j → i ≡ j
  one_name name i j a b = apart_at name (cell_names d.cells) i j names.apart (named_at i name a) (named_at j name b)

  record IsRefAt (i k : ℕ) (r : DraftRef) : Type 0 where
    cell : CellPart
    place : Place
    there : slice_get d.cells i ≡ Some cell
    from : slice_get cell.places.items k ≡ Some place
    is : IsRefOf (cell_names d.cells) place r

  ref_at : (i k : ℕ) (r : DraftRef) → HasRef drafts i k r → IsRefAt i k r
  ref_at i k r h =
      let m = drafted i h.cell h.there in
      let p = at_too h.cell.refs.items m.cell.places.items k r m.is.refs.count h.ref in
      record { cell = m.cell; place = p.0; there = m.there; from = p.1; is = m.is.refs.each k p.0 r p.1 h.ref }

  place_at : (i k : ℕ) (r : DraftRef) (h : IsRefAt i k r) → slice_get (places_at (cell_at d i)) k ≡ Some h.place
  place_at i k r h = subst (λ o. slice_get (places_at o) k ≡ Some h.place) (sym h.there) h.from

  -- references go down
  falls : (i j : ℕ) → Refers drafts i j → height_at d j < height_at d i
  falls i j h =
      let r = ref_at i h.number h.ref h.has in
      let same = one_name h.ref.cell r.place.cell j (at_named r.place.cell h.ref.cell r.is.named) h.names in
      subst (λ n. height_at d n < height_at d i) same (lower d i h.number r.place sound (place_at i h.number h.ref r)).1

  far_down : (n i j : ℕ) → Leads (Refers drafts) i n j → height_at d j + n ≤ height_at d i
  far_down zero i j e = let f : height_at d i ≡ height_at d j = ap (height_at d) e in omega arith
  far_down (suc n) i j h = let a = falls i h.0 h.1 in let b = far_down n h.0 j h.2 in omega arith

  pub arrays : HaveArrays drafts
  arrays i k r h =
      let a = ref_at i k r h in
      let s = reference_at d i k a.place sound (place_at i k r a) in
      let rows = s.2.rows in let columns = s.2.columns in
      let e = a.is.rows in let f = a.is.columns in
      record { rows = subst (λ n. 0 < n) (sym e) rows; columns = subst (λ n. 0 < n) (sym f) columns }

  pub keys_apart : (i : ℕ) (c : CellDraft) → slice_get drafts i ≡ Some c → AreApart (layer_keys c.layers.items)
  keys_apart i c at =
      let m = drafted i c at in
      let more = are.each i m.layers m.more in
      let old = (sound.each i m.cell m.there).apart in
      let all : AreApart (others keys m.cell.layers.items ++ layer_keys m.layers.items) =
      subst (λ ks. AreApart (others keys m.cell.layers.items ++ ks)) (sym more) (apart_keys keys keys m.cell.layers.items old are.apart (λ key l. listed_has keys key l)) in
      subst (λ ls. AreApart (layer_keys ls)) (sym m.is.layers) (subst (λ ks. AreApart ks) (sym (keys_append (other_layers keys m.cell.layers.items) m.layers.items)) all)

  -- the top's name
  pub top_named : (top : List ℕ) → ((c : CellPart) → cell_at d d.top ≡ Some c → top ≡ c.name) → IsNamed drafts top d.top
  top_named top is =
      let c = item_at d.cells d.top sound.top in
      at_named d.top top (map_to (λ (c : CellPart). c.name) d.cells d.top c.0 c.1 ∙ ap (λ (n : List ℕ). Some n) (sym (is c.0 c.1)))

  module _ (top : List ℕ) (at_top : IsNamed drafts top d.top) where
    pub fault : (f : LinkFault) → IsFault drafts (Some top) f → IsLayerFault d.cells keys further f
    fault TooManyCells h = let few = names.few in let e = made.count in absurd (omega arith)
    fault (DuplicateCell name) h =
        let r = h.1.2.here in
        let e = one_name r.name r.earlier h.1.0 r.there r.here in let lt = r.before in absurd (omega arith)
    fault (NoSuchCell name) h =
        let l = h.2 in
        let r = ref_at l.cell l.number l.ref l.has in
        absurd (l.missing r.place.cell (at_named r.place.cell name (r.is.named ∙ ap (λ (n : List ℕ). Some n) l.names)))
    fault (Cycle name) h =
        let on = h.3.2.here in
        let down = far_down (suc on.0) h.3.0 h.3.0 on.1 in absurd (omega arith)
    fault (TooDeep name) h =
        let deep = h.4.2.here in
        let lt = deep.1 in
        let low = shallow d h.4.0 sound in
        let down = far_down deep.0 h.4.0 deep.2.0 deep.2.1 in absurd (omega arith)
    fault NoTop h = absurd (h.1 d.top at_top)
    fault (TopUnclear a b) h = absurd h.5
    fault (CoordinateRange name) h = (drafts, made, h.2)
    fault NoMemory h = refl

    pub layered : (e : Linked) → IsLink drafts (Some top) e → IsLayeredDesign d keys further (keeping d.way e)
    layered e link = record {
      top = one_name top e.top d.top link.tops at_top;
      way = refl;
      count = link.count ∙ made.count;
      each = λ i layers c p at_l at_c at_p.
          let r = at_too d.cells drafts i c (sym made.count) at_c in
          let is = made.each i layers c r.0 at_l at_c r.1 in
          let part = link.each i r.0 p r.1 at_p in
          record {
            name = part.name ∙ is.name;
            layers = part.layers ∙ is.layers;
            texts = part.texts ∙ is.texts;
            places = one_list p.places.items c.places.items (part.places.count ∙ is.refs.count) (λ k a b at_a at_b.
                let q = at_too p.places.items r.0.refs.items k a part.places.count at_a in
                let one = part.places.each k q.0 a q.1 at_a in
                let two = is.refs.each k b q.0 at_b q.1 in
                place_same a b (one_name q.0.cell a.cell b.cell one.names (at_named b.cell q.0.cell two.named))
                (one.motion ∙ two.motion) (one.columns ∙ two.columns) (one.rows ∙ two.rows) (one.column_step ∙ two.column_step) (one.row_step ∙ two.row_step));
          };
    }
