-- Shapes over a square and placements of a cell, one placement at a time.
use Rattle.std.proofs.Common.{◌≡◌, ◌⊎◌, ◌↔◌, IsTrue, true, false, not, ◌&&◌, inl, inr, ℕ, zero, suc, ◌+◌, ◌<◌, ◌≤◌, List, [], ◌∷◌, ◌++◌, Option, Some, None, map, slice_get, get_or, length, pos, refl, sym, ◌∙◌, ap, subst, arith}
use Rattle.base_laws.proofs.Items.{map_from, map_to}
use Rattle.std.proofs.lemmas.Option.{slice_get-get_or, slice_get_read, slice_get_within, get_or_from_slice_get}
use Rattle.std.proofs.Math.Decide.{ℕ_discrete}
use Rattle.std.specs.Option.{option_map, option_eq}
use Rattle.std.proofs.Math.Dec.{eqb}
use Rattle.std.proofs.lemmas.Bool.Decides.{eqb_tells}
use Rattle.std.proofs.lemmas.Int.{ints}
use Rattle.geo_base.specs.Motions.{moved_square}
use Rattle.geo_base.specs.Rects.{has}
use Rattle.geo_base.specs.declared.shapes.Rect.{Rect}
use Rattle.flat_layout.specs.Plane.{IsIn}
use Rattle.geo_base.specs.declared.layer.LayerKey.{LayerKey}
use Rattle.geo_base.specs.declared.motion.Turn.TheVariants.{R0}
use Rattle.geo_base.specs.declared.shapes.Square.{Square}
use Rattle.flat_layout.specs.Layout.{Place, Cell, Design, Some_of, IsOwn, IsPlaced, Leads, Takes, IsReached, InFlatInput, IsDisturbed}
use Rattle.flat_laws.proofs.Paths.{moved_square-injective, first_differs, same_place}
use Rattle.flat_laws.proofs.Cover.{reached_below}
use Rattle.flat_laws.proofs.Names.{more_left, more_right}
use Rattle.flat_laws.proofs.Zone.{zones}
use Rattle.flat_slow.specs.declared.design.SlowPlace.{SlowPlace}
use Rattle.flat_slow.specs.declared.design.SlowCell.{SlowCell}
use Rattle.flat_slow.specs.declared.design.SlowDesign.{SlowDesign}
use Rattle.flat_slow.specs.Paths.{plain_layer, plain_place, plain_cell, plain, IsOnLayer, IsOver, IsThrough, IsDisturbedBy}

-- an item of a map_from list
mapped_one : {A B : Type 0} (f : A → B) (o : Option A) (y : B) → option_map f o ≡ Some y → (x : A) × (o ≡ Some x) × (f x ≡ y)
mapped_one f None y e = let g : None ≡ Some y = e in absurd (let h : ⊥ = cc in h)
mapped_one f (Some x) y e = let g : Some (f x) ≡ Some y = e in (x, refl, (let h : f x ≡ y = cc in h))

pub some_at : {A : Type 0} (P : A → Type 0) (xs : List A) → Some_of P xs → (k : ℕ) × (x : A) × (slice_get xs k ≡ Some x) × P x
some_at P [] h = absurd h
some_at P (x ∷ xs) (inl h) = (zero, x, refl, h)
some_at P (x ∷ xs) (inr h) = let r = some_at P xs h in (suc r.0, r.1, r.2, r.3)

pub at_some : {A : Type 0} (P : A → Type 0) (xs : List A) (k : ℕ) (x : A) → slice_get xs k ≡ Some x → P x → Some_of P xs
at_some P [] k x e h = let f : None ≡ Some x = e in absurd (let g : ⊥ = cc in g)
at_some P (y ∷ xs) zero x e h = let f : y ≡ x = cc in inl (subst P (sym f) h)
at_some P (y ∷ xs) (suc k) x e h = inr (at_some P xs k x e h)

pub placed_at : (d : SlowDesign) (i : ℕ) (c : SlowCell) (k : ℕ) (p : SlowPlace) → slice_get d.cells.items i ≡ Some c → slice_get c.places.items k ≡ Some p → IsPlaced (plain d) i k (plain_place p)
placed_at d i c k p e f = (plain_cell c, map_to plain_cell d.cells.items i c e, map_to plain_place c.places.items k p f)

pub placed_from : (d : SlowDesign) (i : ℕ) (c : SlowCell) (k : ℕ) (p : Place) → slice_get d.cells.items i ≡ Some c → IsPlaced (plain d) i k p → slice_get (map plain_place c.places.items) k ≡ Some p
placed_from d i c k p e h =
    let m = map_to plain_cell d.cells.items i c e in
    let f = h.1 in
    let same : h.0 ≡ plain_cell c = cc in
    subst (λ (x : Cell). slice_get x.places k ≡ Some p) same h.2

pub over_own : (d : Design) (cell : ℕ) (skip : Option ℕ) (key : LayerKey) (q : Square) → IsOwn d cell key q → IsOver d cell skip key q
over_own d cell None key q h = record { path = []; end = cell; square = q; takes = (refl, refl); own = h }
over_own d cell (Some k) key q h = record { path = []; end = cell; square = q; key = key; listed = inl refl; takes = (refl, refl); own = h; apart = λ g. let e : k ∷ g.0 ≡ [] = g.1 in cc }

pub over_through : (d : Design) (cell : ℕ) (skip : Option ℕ) (key : LayerKey) (q : Square) (k : ℕ) (p : Place) → IsThrough d cell skip key q k p → IsOver d cell skip key q
over_through d cell None key q k p (placed, not, (r, flat, e)) = record { path = k ∷ flat.path; end = flat.end; square = flat.square; takes = (p, placed, r, flat.takes, e); own = flat.own }
over_through d cell (Some j) key q k p (placed, not, (r, flat, e)) = record {
  path = k ∷ flat.path;
  end = flat.end;
  square = flat.square;
  key = key;
  listed = inl refl;
  takes = (p, placed, r, flat.takes, e);
  own = flat.own;
  apart = first_differs k j flat.path (λ f. not (ap Some (sym f)));
}

split : (d : Design) (cell : ℕ) (skip : Option ℕ) (key : LayerKey) (q : Square) (path : List ℕ) (end : ℕ) (s : Square) → Takes d cell path end s q → IsOwn d end key s → ((k : ℕ) (js : List ℕ) → path ≡ k ∷ js → skip ≡ Some k → ⊥)
    → IsOwn d cell key q ⊎ ((k : ℕ) × (p : Place) × IsThrough d cell skip key q k p)
split d cell skip key q [] end s takes own apart = inl (subst (λ c. IsOwn d c key q) (sym takes.0) (subst (λ x. IsOwn d end key x) takes.1 own))
split d cell skip key q (k ∷ ks) end s (p, placed, r, rest, e) own apart =
    inr (k, p, (placed, apart k ks refl, (r, record { path = ks; end = end; square = s; takes = rest; own = own }, e)))

pub over_split : (d : Design) (cell : ℕ) (skip : Option ℕ) (key : LayerKey) (q : Square) → IsOver d cell skip key q → IsOwn d cell key q ⊎ ((k : ℕ) × (p : Place) × IsThrough d cell skip key q k p)
over_split d cell None key q h = split d cell None key q h.path h.end h.square h.takes h.own (λ k js e f. let g : None ≡ Some k = f in cc)
over_split d cell (Some j) key q h =
    let is : h.key ≡ key = elim h.listed [ inl e ↦ sym e | inr n ↦ absurd n ] in
    split d cell (Some j) key q h.path h.end h.square h.takes (subst (λ k. IsOwn d h.end k h.square) is h.own)
    (λ k js e f. let g : j ≡ k = cc in h.apart (js, ap (λ i. i ∷ js) g ∙ sym e))

-- no more come through one more placement
pub none_more : (d : Design) (cell : ℕ) (skip : Option ℕ) (key : LayerKey) (q : Square) (n : ℕ)
    → ((k : ℕ) (p : Place) → k < n → IsThrough d cell skip key q k p → ⊥) → ((p : Place) → IsThrough d cell skip key q n p → ⊥) → (k : ℕ) (p : Place) → k < n + 1 → IsThrough d cell skip key q k p → ⊥
none_more d cell skip key q n before here k p lt h = elim (ℕ_discrete k n) [
  | yes e ↦ here p (subst (λ i. IsThrough d cell skip key q i p) e h)
  | no not ↦ before k p (omega arith) h
]

-- what the one placement brings is decided by the square that it comes from
pub through_from : (d : Design) (cell : ℕ) (skip : Option ℕ) (key : LayerKey) (q r : Square) (k : ℕ) (p s : Place) → IsPlaced d cell k s → moved_square s.motion r ≡ q → IsThrough d cell skip key q k p → InFlatInput d s.cell key r
through_from d cell skip key q r k p s placed e (there, not, (t, flat, f)) =
    let same : p ≡ s = same_place d cell k p s there placed in
    let g : moved_square s.motion t ≡ q = subst (λ (x : Place). moved_square x.motion t ≡ q) same f in
    let one : t ≡ r = moved_square-injective s.motion t r (g ∙ sym e) in
    subst (λ (x : Place). InFlatInput d x.cell key r) same (subst (λ x. InFlatInput d p.cell key x) one flat)

leads_split : (d : Design) (from to : ℕ) (ks : List ℕ) → Leads d from ks to → (from ≡ to) ⊎ ((mid : ℕ) × (k : ℕ) × (p : Place) × (ys : List ℕ) × Leads d from ys mid × IsPlaced d mid k p × (p.cell ≡ to))
leads_split d from to [] h = inl h
leads_split d from to (k ∷ ks) (p, placed, rest) = elim (leads_split d p.cell to ks rest) [
  | inl e ↦ inr (from, k, p, [], refl, placed, e)
  | inr r ↦ inr (r.0, r.1, r.2, k ∷ r.3, (p, placed, r.4), r.5, r.6)
]

-- the top, or placed by a reached cell
pub reached_split : (d : Design) (cell : ℕ) → IsReached d cell → (d.top ≡ cell) ⊎ ((parent : ℕ) × (k : ℕ) × (p : Place) × IsReached d parent × IsPlaced d parent k p × (p.cell ≡ cell))
reached_split d cell h = elim (leads_split d d.top cell h.path h.leads) [
  | inl e ↦ inl e
  | inr r ↦ inr (r.0, r.1, r.2, record { path = r.3; leads = r.4 }, r.5, r.6)
]

pub reached_top : (d : Design) (cell : ℕ) → d.top ≡ cell → IsReached d cell
reached_top d cell e = record { path = []; leads = e }

pub reached_from : (d : Design) (parent k : ℕ) (p : Place) (cell : ℕ) → IsReached d parent → IsPlaced d parent k p → p.cell ≡ cell → IsReached d cell
reached_from d parent k p cell r placed e = subst (λ c. IsReached d c) e (reached_below d parent k p r placed)

pub disturbed_by : (d : Design) (cell : ℕ) (key : LayerKey) (q : Square) (parent k : ℕ) (p : Place) → IsDisturbedBy d cell key q parent k p → IsDisturbed d (key ∷ []) cell q
disturbed_by d cell key q parent k p (reached, placed, here, why) = (zones d (key ∷ []) cell q).1 (record { parent = parent; number = k; place = p; reached = reached; placed = placed; here = here; why = why })

pub disturbed_split : (d : Design) (cell : ℕ) (key : LayerKey) (q : Square) → IsDisturbed d (key ∷ []) cell q → (parent : ℕ) × (k : ℕ) × (p : Place) × IsDisturbedBy d cell key q parent k p
disturbed_split d cell key q h = let a = (zones d (key ∷ []) cell q).0 h in (a.parent, a.number, a.place, (a.reached, a.placed, a.here, a.why))

abbrev pub no_place : SlowPlace
no_place = record { cell = 0; motion = record { turn = R0; dx = pos 0; dy = pos 0 } }

-- none of the first n + 1 items, where none of the first n, nor the n-th
pub none_more_of : {A B : Type 0} (P : B → Type 0) (f : A → B) (xs : List A) (d : A) (n : ℕ) → n < length xs → ((k : ℕ) (y : B) → k < n → slice_get (map f xs) k ≡ Some y → P y → ⊥) → (P (f (get_or xs n d)) → ⊥)
    → (k : ℕ) (y : B) → k < n + 1 → slice_get (map f xs) k ≡ Some y → P y → ⊥
none_more_of P f xs d n lt before here k y less e h = elim (ℕ_discrete k n) [
  | yes same ↦
      let m = map_from f xs n y (subst (λ i. slice_get (map f xs) i ≡ Some y) same e) in
      let g : get_or xs n d ≡ m.0 = get_or_from_slice_get xs n m.0 d m.1 in
      here (subst P (sym (ap f g ∙ m.2)) h)
  | no not ↦ before k y (omega arith) e h
]

pub none_place : (places : List SlowPlace) (cell n : ℕ) → n < length places → ((k : ℕ) (p : Place) → k < n → slice_get (map plain_place places) k ≡ Some p → p.cell ≡ cell → ⊥) → ((get_or places n no_place).cell ≡ cell → ⊥)
    → (k : ℕ) (p : Place) → k < n + 1 → slice_get (map plain_place places) k ≡ Some p → p.cell ≡ cell → ⊥
none_place places cell n lt before here = none_more_of (λ (p : Place). p.cell ≡ cell) plain_place places no_place n lt before here

pub yes_is : (P : Type 0) → P → IsTrue true ↔ P
yes_is P h = ((λ t. h), (λ g. refl))

pub no_is : (P : Type 0) → (P → ⊥) → IsTrue false ↔ P
no_is P h = ((λ t. let e : false ≡ true = t in absurd (let g : ⊥ = cc in g)), (λ g. absurd (h g)))

pub key_same : (a b : LayerKey) → true ≡ (eqb a.layer b.layer && eqb a.datatype b.datatype) → a ≡ b
key_same a b h = elim (eqb_tells a.layer b.layer) [
  | inl (t, e) ↦ elim (eqb_tells a.datatype b.datatype) [
    | inl (u, f) ↦ ap (λ (v : ℕ). let k : LayerKey = record { layer = v; datatype = a.datatype } in k) e ∙ ap (λ (v : ℕ). let k : LayerKey = record { layer = b.layer; datatype = v } in k) f
    | inr (u, f) ↦ let g : true ≡ (true && false) = h ∙ ap (λ x. x && eqb a.datatype b.datatype) t ∙ ap (λ x. true && x) u in let k : true ≡ false = g in absurd (let z : ⊥ = cc in z)
  ]
  | inr (t, e) ↦ let g : true ≡ (false && eqb a.datatype b.datatype) = h ∙ ap (λ x. x && eqb a.datatype b.datatype) t in let k : true ≡ false = g in absurd (let z : ⊥ = cc in z)
]

pub key_other : (a b : LayerKey) → false ≡ (eqb a.layer b.layer && eqb a.datatype b.datatype) → a ≡ b → ⊥
key_other a b h e =
    elim (eqb_tells a.layer b.layer) [
      | inl (t, f) ↦ elim (eqb_tells a.datatype b.datatype) [
        | inl (u, g) ↦ let k : false ≡ true = h ∙ ap (λ x. x && eqb a.datatype b.datatype) t ∙ u in let z : ⊥ = cc in z
        | inr (u, g) ↦ g (ap (λ (x : LayerKey). x.datatype) e)
      ]
      | inr (t, f) ↦ f (ap (λ (x : LayerKey). x.layer) e)
    ]

pub has_in : (r : Rect) (q : Square) → true ≡ has r q → IsIn q r
has_in r q h = (grind (arith, ints), grind (arith, ints), grind (arith, ints), grind (arith, ints))

pub has_out : (r : Rect) (q : Square) → false ≡ has r q → IsIn q r → ⊥
has_out r q h (a, b, c, d) = grind (arith, ints)

-- the cell that the code reads at an index
pub cell_at : (d : SlowDesign) (i : ℕ) (c : SlowCell) → i < length d.cells.items → c ≡ get_or d.cells.items i c → slice_get d.cells.items i ≡ Some c
cell_at d i c lt e = slice_get_read d.cells.items (length d.cells.items) i c refl lt e

pub own_to : (d : SlowDesign) (i : ℕ) (c : SlowCell) (key : LayerKey) (q : Square) → slice_get d.cells.items i ≡ Some c → Some_of (IsOnLayer key q) (map plain_layer c.shapes.items) → IsOwn (plain d) i key q
own_to d i c key q e h = (plain_cell c, map_to plain_cell d.cells.items i c e, h)

pub own_of : (d : SlowDesign) (i : ℕ) (c : SlowCell) (key : LayerKey) (q : Square) → slice_get d.cells.items i ≡ Some c → IsOwn (plain d) i key q → Some_of (IsOnLayer key q) (map plain_layer c.shapes.items)
own_of d i c key q e h =
    let m = map_to plain_cell d.cells.items i c e in
    let f = h.1 in
    let same : h.0 ≡ plain_cell c = cc in
    subst (λ (x : Cell). Some_of (IsOnLayer key q) x.layers) same h.2

-- a number past the last cell has no cell
pub no_cell_at : (d : SlowDesign) (i : ℕ) (c : Cell) → length d.cells.items ≤ i → slice_get (plain d).cells i ≡ Some c → ⊥
no_cell_at d i c past e =
    let m = map_from plain_cell d.cells.items i c e in
    let lt = slice_get_within d.cells.items i m.0 m.1 in
    absurd (omega arith)

pub no_own : (d : SlowDesign) (cell : ℕ) (skip : Option ℕ) (key : LayerKey) (q : Square) → length d.cells.items ≤ cell → IsOver (plain d) cell skip key q → ⊥
no_own d cell skip key q past h = elim (over_split (plain d) cell skip key q h) [
  | inl own ↦ no_cell_at d cell own.0 past own.1
  | inr t ↦ no_cell_at d cell t.2.0.0 past t.2.0.1
]

-- a placement of the cell lies within its list
pub within : (d : SlowDesign) (i : ℕ) (c : SlowCell) (k : ℕ) (p : Place) → slice_get d.cells.items i ≡ Some c → IsPlaced (plain d) i k p → k < length c.places.items
within d i c k p e h =
    let f = placed_from d i c k p e h in
    let m = map_from plain_place c.places.items k p f in
    slice_get_within c.places.items k m.0 m.1

-- what the code reads of a list within it
pub item_at : {A : Type 0} (xs ys : List A) (k : ℕ) (d : A) → xs ≡ ys → k < length xs → slice_get ys k ≡ Some (get_or xs k d)
item_at xs ys k d e lt = subst (λ zs. slice_get zs k ≡ Some (get_or xs k d)) e (slice_get-get_or xs k d lt)

-- past the last placement nothing comes
pub none_within : (d : SlowDesign) (i : ℕ) (c : SlowCell) (skip : Option ℕ) (key : LayerKey) (q : Square) (n : ℕ) → slice_get d.cells.items i ≡ Some c → length c.places.items ≤ n
    → (Some_of (IsOnLayer key q) (map plain_layer c.shapes.items) → ⊥) → ((k : ℕ) (p : Place) → k < n → IsThrough (plain d) i skip key q k p → ⊥) → IsOver (plain d) i skip key q → ⊥
none_within d i c skip key q n e past own none h = elim (over_split (plain d) i skip key q h) [
  | inl o ↦ own (own_of d i c key q e o)
  | inr t ↦ let lt = within d i c t.0 t.1 e t.2.0 in none t.0 t.1 (omega arith) t.2
]

pub not_skipped : (skip : Option ℕ) (k : ℕ) → true ≡ not (option_eq eqb skip (Some k)) → skip ≡ Some k → ⊥
not_skipped None k h e = let f : None ≡ Some k = e in let z : ⊥ = cc in z
not_skipped (Some s) k h e = elim (eqb_tells s k) [
  | inl (t, f) ↦ let g : true ≡ false = h ∙ ap not t in let z : ⊥ = cc in z
  | inr (t, n) ↦ let f : s ≡ k = cc in n f
]

pub skipped : (skip : Option ℕ) (k : ℕ) → false ≡ not (option_eq eqb skip (Some k)) → skip ≡ Some k
skipped None k h = let f : false ≡ true = h in absurd (let z : ⊥ = cc in z)
skipped (Some s) k h = elim (eqb_tells s k) [
  | inl (t, f) ↦ ap Some f
  | inr (t, n) ↦ let g : false ≡ true = h ∙ ap not t in absurd (let z : ⊥ = cc in z)
]

-- the cell that a loop over the cells stands at
pub loop_cell : (d : SlowDesign) (cells : List SlowCell) (i : ℕ) (c : SlowCell) → cells ≡ d.cells.items → i < length cells → c ≡ get_or cells i c → slice_get d.cells.items i ≡ Some c
loop_cell d cells i c e lt is = subst (λ (l : List SlowCell). slice_get l i ≡ Some c) e (slice_get_read cells (length cells) i c refl lt is)

pub placed_some : (d : SlowDesign) (i : ℕ) (c : SlowCell) (places : List SlowPlace) (cell : ℕ) → slice_get d.cells.items i ≡ Some c → places ≡ c.places.items → Some_of (λ (p : Place). p.cell ≡ cell) (map plain_place places)
    → (k : ℕ) × (p : Place) × IsPlaced (plain d) i k p × (p.cell ≡ cell)
placed_some d i c places cell here e h =
    let s = some_at (λ (p : Place). p.cell ≡ cell) (map plain_place places) h in
    let there : slice_get (map plain_place c.places.items) s.0 ≡ Some s.1 = subst (λ (l : List SlowPlace). slice_get (map plain_place l) s.0 ≡ Some s.1) e s.2 in
    (s.0, s.1, (plain_cell c, map_to plain_cell d.cells.items i c here, there), s.3)

pub some_placed : (d : SlowDesign) (i : ℕ) (c : SlowCell) (places : List SlowPlace) (cell k : ℕ) (p : Place) → slice_get d.cells.items i ≡ Some c → places ≡ c.places.items → IsPlaced (plain d) i k p → p.cell ≡ cell → Some_of (λ (p : Place). p.cell ≡ cell) (map plain_place places)
some_placed d i c places cell k p here e h is =
    at_some (λ (p : Place). p.cell ≡ cell) (map plain_place places) k p (subst (λ (l : List SlowPlace). slice_get (map plain_place l) k ≡ Some p) (sym e) (placed_from d i c k p here h)) is

-- each cell that places one is listed
pub placing_within : (d : SlowDesign) (i k : ℕ) (p : Place) → IsPlaced (plain d) i k p → i < length d.cells.items
placing_within d i k p h =
    let m = map_from plain_cell d.cells.items i h.0 h.1 in
    slice_get_within d.cells.items i m.0 m.1

-- none of the parents before n + 1, where none before n, nor n
pub none_next : (P : ℕ → ℕ → Place → Type 0) (n : ℕ) → ((i k : ℕ) (p : Place) → i < n → P i k p → ⊥) → ((k : ℕ) (p : Place) → P n k p → ⊥) → (i k : ℕ) (p : Place) → i < n + 1 → P i k p → ⊥
none_next P n before here i k p lt h = elim (ℕ_discrete i n) [
  | yes e ↦ here k p (subst (λ j. P j k p) e h)
  | no not ↦ before i k p (omega arith) h
]

-- nor of the placements
pub none_place_next : (P : ℕ → Place → Type 0) (n : ℕ) → ((k : ℕ) (p : Place) → k < n → P k p → ⊥) → ((p : Place) → P n p → ⊥) → (k : ℕ) (p : Place) → k < n + 1 → P k p → ⊥
none_place_next P n before here k p lt h = elim (ℕ_discrete k n) [
  | yes e ↦ here p (subst (λ j. P j p) e h)
  | no not ↦ before k p (omega arith) h
]

some_either : (P : LayerKey → Type 0) (xs ys : List LayerKey) → Some_of P (xs ++ ys) → Some_of P xs ⊎ Some_of P ys
some_either P [] ys h = inr h
some_either P (x ∷ xs) ys (inl h) = inl (inl h)
some_either P (x ∷ xs) ys (inr h) = elim (some_either P xs ys h) [ inl a ↦ inl (inr a) | inr b ↦ inr b ]

listed_in : (d : Design) (keys more : List LayerKey) (cell : ℕ) (q : Square) (h : IsDisturbed d more cell q) → Some_of (λ k. k ≡ h.key) keys → IsDisturbed d keys cell q
listed_in d keys more cell q h l = record { path = h.path; other = h.other; end = h.end; square = h.square; place = h.place; key = h.key; listed = l; takes = h.takes; others = h.others; own = h.own; apart = h.apart }

-- disturbed for one of two lists of layers
pub disturbed_either : (d : Design) (xs ys : List LayerKey) (cell : ℕ) (q : Square) → IsDisturbed d (xs ++ ys) cell q ↔ (IsDisturbed d xs cell q ⊎ IsDisturbed d ys cell q)
disturbed_either d xs ys cell q = (
  (λ h. elim (some_either (λ k. k ≡ h.key) xs ys h.listed) [ inl a ↦ inl (listed_in d xs (xs ++ ys) cell q h a) | inr b ↦ inr (listed_in d ys (xs ++ ys) cell q h b) ]),
  (λ h. elim h [
    | inl a ↦ listed_in d (xs ++ ys) xs cell q a (more_left (λ k. k ≡ a.key) xs ys a.listed)
    | inr b ↦ listed_in d (xs ++ ys) ys cell q b (more_right (λ k. k ≡ b.key) xs ys b.listed)
  ]),
)
