-- A design beside the plain layout that it stands for.
use Rattle.std.proofs.Common.{◌≡◌, ◌⊎◌, inl, inr, ℕ, zero, suc, ◌<◌, List, [], ◌∷◌, Option, Some, None, Bool, true, false, map, slice_get, length, refl, sym, ◌∙◌, ap, subst, arith, if◌then◌else◌}
use Rattle.base_laws.proofs.Items.{map_from, map_to}
use Rattle.std.proofs.lemmas.Bool.{or_cases, or_left, or_right}
use Rattle.std.specs.List.{All}
use Rattle.std.specs.Option.{option_map}
use Rattle.std.proofs.lemmas.Option.{slice_get_within}
use Rattle.std.proofs.lemmas.List.Elements.{All-head, All-tail}
use Rattle.std.proofs.lemmas.Int.{ints}
use Rattle.geo_base.specs.Motions.{moved_square}
use Rattle.geo_base.specs.Rects.{has, moved_rect, IsInside}
use Rattle.geo_base.proofs.Spans.{moved_rect-has}
use Rattle.geo_base.specs.declared.layer.LayerKey.{LayerKey}
use Rattle.geo_base.specs.declared.motion.Motion.{Motion}
use Rattle.geo_base.specs.declared.shapes.Rect.{Rect}
use Rattle.geo_base.specs.declared.shapes.Square.{Square}
use Rattle.rect_sets.specs.Rects.{covers}
use Rattle.flat_layout.specs.Plane.{IsIn}
use Rattle.flat_layout.specs.Arrays.{place_at, places_of}
use Rattle.flat_layout.specs.Layout as flat
use Rattle.plain_netlist.specs.Lists.{IsListed, AreApart}
use Rattle.flat_layout.specs.Layout.{Some_of, IsOwn, IsPlaced, Takes}
use Rattle.cell_graph.specs.Linked.{Linked, IsSound, IsReference, HoldsImage, HoldsRects, HullHas, HullIsSound, layer_keys, own_rects, own_of, cell_at, hull_of, places_at, height_at, height_of, plain, plain_cell, plain_layer, reference, motion_at, IsStep}
use Rattle.geo_base.specs.Layers.{is_same_key}
use Rattle.cell_graph.specs.Laws.{OwnLaw, HeightLaw, HullLaw}
use Rattle.cell_graph.specs.declared.cells.OwnLayer.{OwnLayer}
use Rattle.cell_graph.specs.declared.cells.Place.{Place}
use Rattle.cell_graph.specs.declared.cells.CellPart.{CellPart}
use Rattle.cell_graph.proofs.Elements.{element_of, element_at, number_of}

mapped_one : {A B : Type 0} (f : A → B) (o : Option A) (y : B) → option_map f o ≡ Some y → (x : A) × (o ≡ Some x) × (f x ≡ y)
mapped_one f None y e = let g : None ≡ Some y = e in absurd (let h : ⊥ = cc in h)
mapped_one f (Some x) y e = let g : Some (f x) ≡ Some y = e in (x, refl, (let h : f x ≡ y = cc in h))

pub all_at : {A : Type 0} (P : A → Type 0) (xs : List A) (k : ℕ) (x : A) → All P xs → slice_get xs k ≡ Some x → P x
all_at P [] k x h e = let f : None ≡ Some x = e in absurd (let z : ⊥ = cc in z)
all_at P (y ∷ xs) zero x h e = let f : y ≡ x = cc in subst P f (All-head P y xs h)
all_at P (y ∷ xs) (suc k) x h e = all_at P xs k x (All-tail P y xs h) e

-- squares of rectangles
pub has_in : (r : Rect) (q : Square) → has r q ≡ true → IsIn q r
has_in r q h = (grind (arith, ints), grind (arith, ints), grind (arith, ints), grind (arith, ints))

pub in_has : (r : Rect) (q : Square) → IsIn q r → has r q ≡ true
in_has r q (a, b, c, d) = grind (arith, ints)

pub inside_has : (a b : Rect) (q : Square) → IsInside a b → has a q ≡ true → has b q ≡ true
inside_has a b q h e = let i = has_in a q e in let x1 = h.x1 in let y1 = h.y1 in let x2 = h.x2 in let y2 = h.y2 in
    let i0 = i.0 in let i1 = i.1 in let i2 = i.2 in let i3 = i.3 in
    in_has b q ((omega (arith, ints)), (omega (arith, ints)), (omega (arith, ints)), (omega (arith, ints)))

pub covers_some : (rects : List Rect) (q : Square) → covers rects q ≡ true → Some_of (IsIn q) rects
covers_some [] q e = let f : false ≡ true = e in absurd (let z : ⊥ = cc in z)
covers_some (r ∷ rects) q e = elim (or_cases (has r q) (covers rects q) e) [ inl h ↦ inl (has_in r q h) | inr h ↦ inr (covers_some rects q h) ]

pub some_covers : (rects : List Rect) (q : Square) → Some_of (IsIn q) rects → covers rects q ≡ true
some_covers [] q h = absurd h
some_covers (r ∷ rects) q (inl h) = or_left (has r q) (covers rects q) (in_has r q h)
some_covers (r ∷ rects) q (inr h) = or_right (has r q) (covers rects q) (some_covers rects q h)

-- same keys
pub key_is : (a b : LayerKey) → (is_same_key a b ≡ true) ⊎ (is_same_key a b ≡ false)
key_is a b = bool_is (is_same_key a b)
  where
    bool_is : (c : Bool) → (c ≡ true) ⊎ (c ≡ false)
    bool_is true = inl refl
    bool_is false = inr refl

pub key_same : (a b : LayerKey) → is_same_key a b ≡ true → a ≡ b
key_same a b h =
    let x : a.layer ≡ b.layer = grind arith in
    let y : a.datatype ≡ b.datatype = grind arith in
    ap (λ (v : ℕ). let k : LayerKey = record { layer = v; datatype = a.datatype } in k) x ∙ ap (λ (v : ℕ). let k : LayerKey = record { layer = b.layer; datatype = v } in k) y

pub key_own : (a : LayerKey) → is_same_key a a ≡ true
key_own a = grind arith

pub key_other : (a b : LayerKey) → is_same_key a b ≡ false → a ≡ b → ⊥
key_other a b h e = let f : is_same_key a b ≡ true = subst (λ k. is_same_key a k ≡ true) e (key_own a) in let z : ⊥ = cc in z

abbrev IsOn : LayerKey → Square → flat.Layer → Type 0
IsOn key q layer = (layer.key ≡ key) × Some_of (IsIn q) layer.rects

none_on : (layers : List OwnLayer) (key : LayerKey) (q : Square) → (IsListed key (layer_keys layers) → ⊥) → Some_of (IsOn key q) (map plain_layer layers) → ⊥
none_on [] key q h s = s
none_on (l ∷ layers) key q h (inl s) = h (inl (sym s.0))
none_on (l ∷ layers) key q h (inr s) = none_on layers key q (λ i. h (inr i)) s

own_to : (layers : List OwnLayer) (key : LayerKey) (q : Square) → AreApart (layer_keys layers) → Some_of (IsOn key q) (map plain_layer layers) → covers (own_rects layers key) q ≡ true
own_to [] key q h s = absurd s
own_to (l ∷ layers) key q h s = elim (key_is l.key key) [
  | inl e ↦ subst (λ c. covers (if c then l.set else own_rects layers key) q ≡ true) (sym e) (elim s [
    | inl t ↦ some_covers l.set q t.1
    | inr t ↦ absurd (none_on layers key q (subst (λ k. IsListed k (layer_keys layers) → ⊥) (key_same l.key key e) h.0) t)
  ])
  | inr e ↦ subst (λ c. covers (if c then l.set else own_rects layers key) q ≡ true) (sym e) (elim s [
    | inl t ↦ absurd (key_other l.key key e t.0)
    | inr t ↦ own_to layers key q h.1 t
  ])
]

own_from : (layers : List OwnLayer) (key : LayerKey) (q : Square) → covers (own_rects layers key) q ≡ true → Some_of (IsOn key q) (map plain_layer layers)
own_from [] key q e = let f : false ≡ true = e in absurd (let z : ⊥ = cc in z)
own_from (l ∷ layers) key q e = elim (key_is l.key key) [
  | inl f ↦ inl (key_same l.key key f, covers_some l.set q (subst (λ c. covers (if c then l.set else own_rects layers key) q ≡ true) f e))
  | inr f ↦ inr (own_from layers key q (subst (λ c. covers (if c then l.set else own_rects layers key) q ≡ true) f e))
]

-- the part of a cell that the plain layout has
pub part_of : (d : Linked) (cell : ℕ) (c : flat.Cell) → slice_get (plain d).cells cell ≡ Some c → (p : CellPart) × (cell_at d cell ≡ Some p) × (plain_cell p ≡ c)
part_of d cell c e = map_from plain_cell d.cells cell c e

pub own : OwnLaw
own d sound cell key q = (
  (λ h.
      let m = part_of d cell h.0 h.1 in
      let s : Some_of (IsOn key q) (map plain_layer m.0.layers.items) = subst (λ (c : flat.Cell). Some_of (IsOn key q) c.layers) (sym m.2) h.2 in
      subst (λ o. covers (own_of o key) q ≡ true) (sym m.1) (own_to m.0.layers.items key q (sound.each cell m.0 m.1).apart s)),
  (λ e. from (cell_at d cell) refl e),
)
  where
    from : (o : Option CellPart) → cell_at d cell ≡ o → covers (own_of o key) q ≡ true → IsOwn (plain d) cell key q
    from None e f = let g : false ≡ true = f in absurd (let z : ⊥ = cc in z)
    from (Some c) e f = (plain_cell c, map_to plain_cell d.cells cell c e, own_from c.layers.items key q f)

-- placements are elements of references
pub record IsStepOf (d : Linked) (cell k : ℕ) (p : flat.Place) : Type 0 where
  pub index : ℕ
  pub row : ℕ
  pub column : ℕ
  pub from : Place
  pub step : IsStep d cell index row column from
  pub is : p ≡ place_at (reference from) row column
  pub number : k ≡ number_of (map reference (places_at (cell_at d cell))) index (reference from) row column

pub step_of : (d : Linked) (cell k : ℕ) (p : flat.Place) → IsPlaced (plain d) cell k p → IsStepOf d cell k p
step_of d cell k p h =
    let m = part_of d cell h.0 h.1 in
    let places : slice_get (places_of (map reference m.0.places.items)) k ≡ Some p = subst (λ (c : flat.Cell). slice_get c.places k ≡ Some p) (sym m.2) h.2 in
    let e = element_of (map reference m.0.places.items) k p places in
    let r = map_from reference m.0.places.items e.index e.reference e.there in
    record {
      index = e.index;
      row = e.row;
      column = e.column;
      from = r.0;
      step = record {
        there = subst (λ o. slice_get (places_at o) e.index ≡ Some r.0) (sym m.1) r.1;
        row_in = subst (λ s. e.row < s.rows) (sym r.2) e.row_in;
        column_in = subst (λ s. e.column < s.columns) (sym r.2) e.column_in;
      };
      is = e.is ∙ ap (λ s. place_at s e.row e.column) (sym r.2);
      number = e.number ∙ ap (λ s. number_of (map reference m.0.places.items) e.index s e.row e.column) (sym r.2) ∙ ap (λ o. number_of (map reference (places_at o)) e.index (reference r.0) e.row e.column) (sym m.1);
    }

pub placed_of : (d : Linked) (cell i row column : ℕ) (p : Place) → IsStep d cell i row column p
    → IsPlaced (plain d) cell (number_of (map reference (places_at (cell_at d cell))) i (reference p) row column) (place_at (reference p) row column)
placed_of d cell i row column p h = at (cell_at d cell) refl h.there
  where
    at : (o : Option CellPart) → cell_at d cell ≡ o → slice_get (places_at o) i ≡ Some p
        → IsPlaced (plain d) cell (number_of (map reference (places_at (cell_at d cell))) i (reference p) row column) (place_at (reference p) row column)
    at None e f = let g : None ≡ Some p = f in absurd (let z : ⊥ = cc in z)
    at (Some c) e f =
        let there = element_at (map reference c.places.items) i (reference p) row column (map_to reference c.places.items i p f) h.row_in h.column_in in
        subst (λ o. IsPlaced (plain d) cell (number_of (map reference (places_at o)) i (reference p) row column) (place_at (reference p) row column)) (sym e) (plain_cell c, map_to plain_cell d.cells cell c e, there)

-- what the design promises of a reference
pub reference_at : (d : Linked) (cell i : ℕ) (p : Place) → IsSound d → slice_get (places_at (cell_at d cell)) i ≡ Some p → (c : CellPart) × (cell_at d cell ≡ Some c) × IsReference d.cells c p
reference_at d cell i p sound = at (cell_at d cell) refl
  where
    at : (o : Option CellPart) → cell_at d cell ≡ o → slice_get (places_at o) i ≡ Some p → (c : CellPart) × (cell_at d cell ≡ Some c) × IsReference d.cells c p
    at None e f = let g : None ≡ Some p = f in absurd (let z : ⊥ = cc in z)
    at (Some c) e f = (c, e, all_at (IsReference d.cells c) c.places.items i p (sound.each cell c e).places f)

pub reference_of : (d : Linked) (cell i row column : ℕ) (p : Place) → IsSound d → IsStep d cell i row column p → (c : CellPart) × (cell_at d cell ≡ Some c) × IsReference d.cells c p
reference_of d cell i row column p sound h = reference_at d cell i p sound h.there

pub lower : (d : Linked) (cell i : ℕ) (p : Place) → IsSound d → slice_get (places_at (cell_at d cell)) i ≡ Some p → (p.cell < length d.cells) × (height_at d p.cell < height_at d cell)
lower d cell i p sound h =
    let r = reference_at d cell i p sound h in
    let below : height_at d p.cell ≡ r.2.placed.height = ap height_of r.2.there in
    let here : height_at d cell ≡ r.0.height = ap height_of r.1 in
    let lower = r.2.lower in
    (slice_get_within d.cells p.cell r.2.placed r.2.there, (omega arith))

pub heights : HeightLaw
heights d sound cell k p placed =
    let s = step_of d cell k p placed in
    let r = reference_of d cell s.index s.row s.column s.from sound s.step in
    let below : height_at d p.cell ≡ r.2.placed.height = ap (λ (x : flat.Place). height_at d x.cell) s.is ∙ ap height_of r.2.there in
    let here : height_at d cell ≡ r.0.height = ap height_of r.1 in
    let lower = r.2.lower in
    omega arith

-- the image of a square of a hull is in the upper hull
pub held : (outer inner : Option Rect) (m : Motion) (q : Square) → HullIsSound inner → HoldsImage outer inner m → HullHas inner q → HullHas outer (moved_square m q)
held outer None m q s h e = absurd e
held None (Some g) m q s h e = absurd h
held (Some o) (Some g) m q s h e = inside_has (moved_rect m g) o (moved_square m q) h (moved_rect-has m g q s.some ∙ e)

pub hull_sound : (d : Linked) (cell : ℕ) → IsSound d → HullIsSound (hull_of (cell_at d cell))
hull_sound d cell sound = at (cell_at d cell) refl
  where
    at : (o : Option CellPart) → cell_at d cell ≡ o → HullIsSound (hull_of o)
    at None e = tt
    at (Some c) e = (sound.each cell c e).hull

own_held : (hull : Option Rect) (layers : List OwnLayer) (key : LayerKey) (q : Square) → All (λ l. HoldsRects hull l.set) layers → covers (own_rects layers key) q ≡ true → HullHas hull q
own_held hull [] key q h e = let f : false ≡ true = e in absurd (let z : ⊥ = cc in z)
own_held hull (l ∷ layers) key q h e = elim (key_is l.key key) [
  | inl f ↦ rects_held hull l.set q (All-head (λ l. HoldsRects hull l.set) l layers h) (subst (λ c. covers (if c then l.set else own_rects layers key) q ≡ true) f e)
  | inr f ↦ own_held hull layers key q (All-tail (λ l. HoldsRects hull l.set) l layers h) (subst (λ c. covers (if c then l.set else own_rects layers key) q ≡ true) f e)
]
  where
    listed_held : (h : Rect) (rects : List Rect) (q : Square) → All (λ r. IsInside r h) rects → covers rects q ≡ true → has h q ≡ true
    listed_held h [] q a e = let f : false ≡ true = e in absurd (let z : ⊥ = cc in z)
    listed_held h (r ∷ rects) q a e = elim (or_cases (has r q) (covers rects q) e) [ inl f ↦ inside_has r h q (All-head (λ r. IsInside r h) r rects a) f | inr f ↦ listed_held h rects q (All-tail (λ r. IsInside r h) r rects a) f ]

    rects_held : (hull : Option Rect) (rects : List Rect) (q : Square) → HoldsRects hull rects → covers rects q ≡ true → HullHas hull q
    rects_held None rects q a e = let f : false ≡ true = subst (λ l. covers l q ≡ true) a e in let z : ⊥ = cc in z
    rects_held (Some h) rects q a e = listed_held h rects q a e

pub own_in_hull : (d : Linked) (cell : ℕ) (key : LayerKey) (q : Square) → IsSound d → covers (own_of (cell_at d cell) key) q ≡ true → HullHas (hull_of (cell_at d cell)) q
own_in_hull d cell key q sound = at (cell_at d cell) refl
  where
    at : (o : Option CellPart) → cell_at d cell ≡ o → covers (own_of o key) q ≡ true → HullHas (hull_of o) q
    at None e f = let g : false ≡ true = f in absurd (let z : ⊥ = cc in z)
    at (Some c) e f = own_held c.hull c.layers.items key q (sound.each cell c e).own f

-- a step takes squares of the lower hull into the upper
pub step_held : (d : Linked) (cell i row column : ℕ) (p : Place) (q : Square) → IsSound d → IsStep d cell i row column p
    → HullHas (hull_of (cell_at d p.cell)) q → HullHas (hull_of (cell_at d cell)) (moved_square (motion_at p row column) q)
step_held d cell i row column p q sound step h =
    let r = reference_of d cell i row column p sound step in
    let image = (r.2.elements row column step.row_in step.column_in).image in
    let inner : HullHas r.2.placed.hull q = subst (λ o. HullHas (hull_of o) q) r.2.there h in
    let good : HullIsSound r.2.placed.hull = subst (λ o. HullIsSound (hull_of o)) r.2.there (hull_sound d p.cell sound) in
    subst (λ o. HullHas (hull_of o) (moved_square (motion_at p row column) q)) (sym r.1) (held r.0.hull r.2.placed.hull (motion_at p row column) q good image inner)

in_hull : (d : Linked) (path : List ℕ) (cell end : ℕ) (key : LayerKey) (s q : Square) → IsSound d → Takes (plain d) cell path end s q → IsOwn (plain d) end key s → HullHas (hull_of (cell_at d cell)) q
in_hull d [] cell end key s q sound takes o =
    let here : IsOwn (plain d) cell key q = subst (λ c. IsOwn (plain d) c key q) (sym takes.0) (subst (λ x. IsOwn (plain d) end key x) takes.1 o) in
    own_in_hull d cell key q sound ((own d sound cell key q).0 here)
in_hull d (k ∷ ks) cell end key s q sound (p, placed, r, rest, e) o =
    let below = in_hull d ks p.cell end key s r sound rest o in
    let t = step_of d cell k p placed in
    let there : HullHas (hull_of (cell_at d t.from.cell)) r = subst (λ (x : flat.Place). HullHas (hull_of (cell_at d x.cell)) r) t.is below in
    let up = step_held d cell t.index t.row t.column t.from r sound t.step there in
    let at : moved_square (motion_at t.from t.row t.column) r ≡ q = ap (λ (x : flat.Place). moved_square x.motion r) (sym t.is) ∙ e in
    subst (λ x. HullHas (hull_of (cell_at d cell)) x) at up

pub hulls : HullLaw
hulls d sound cell key q h = in_hull d h.path cell h.end key h.square q sound h.takes h.own
