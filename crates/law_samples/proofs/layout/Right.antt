-- The tables of the small design are right.
use Rattle.std.proofs.Common.{◌≡◌, ◌⊎◌, inl, inr, ℕ, zero, suc, ◌<◌, List, [], ◌∷◌, Some, None, slice_get, pos, refl, sym, ◌∙◌, ap, subst, arith}
use Rattle.std.proofs.lemmas.Int.{ints}
use Rattle.geo_base.specs.declared.layer.LayerKey.{LayerKey}
use Rattle.geo_base.specs.declared.shapes.Rect.{Rect}
use Rattle.geo_base.specs.declared.shapes.Square.{Square}
use Rattle.plain_netlist.specs.Chains.{Reaches}
use Rattle.plain_netlist.proofs.Links.{stays, single}
use Rattle.flat_layout.specs.Layers.{Input, IsKept, IsLocal, IsKeptBelow}
use Rattle.flat_layout.specs.Layout.{Place, Layer, Cell, Design, Some_of, IsOwn, IsPlaced, Takes}
use Rattle.flat_layout.specs.Nets.{Item, Own, Child, IsOf, HoldsAt, ItemHolds, IsItem, IsItemLink, AreNets, AreOwn, AreTables}
use Rattle.flat_layout.specs.Order.{AreLevels}
use Rattle.flat_layout.specs.Plane.{IsIn}
use Rattle.flat_layout.specs.Regions.{At, formula}
use Rattle.law_samples.specs.Sample.{metal, child_rect, parent_rect, child, place, parent, sample_design, sample_wiring, nets_of, sample_tables, sample_level}

pub none_some : {A : Type 0} {B : Type 0} (x : A) → None ≡ Some x → B
none_some x e = absurd (let z : ⊥ = cc in z)

-- a flat square of an input layer is the cell's own or comes from below
pub input_parted : (d : Design) (cell : ℕ) (key : LayerKey) (q s : Square) (path : List ℕ) (end : ℕ) → Takes d cell path end s q → IsOwn d end key s → IsOwn d cell key q ⊎ IsKeptBelow d cell (Input key) q
input_parted d cell key q s [] end takes own = inl (subst (λ c. IsOwn d c key q) (sym takes.0) (subst (λ x. IsOwn d end key x) takes.1 own))
input_parted d cell key q s (k ∷ ks) end (p, placed, r, rest, e) own =
    inr (record { number = k; place = p; square = r; placed = placed; kept = record { path = ks; end = end; square = s; takes = rest; own = own }; image = e })

-- the one placement
pub one_place : (cell k : ℕ) (p : Place) → IsPlaced sample_design cell k p → (cell ≡ 1) × (k ≡ 0) × (p ≡ place)
one_place zero k p (c, e, f) =
    let g : child ≡ c = cc in
    let h : slice_get child.places k ≡ Some p = subst (λ (x : Cell). slice_get x.places k ≡ Some p) (sym g) f in none_some p h
one_place (suc zero) k p (c, e, f) =
    let g : parent ≡ c = cc in
    let h : slice_get parent.places k ≡ Some p = subst (λ (x : Cell). slice_get x.places k ≡ Some p) (sym g) f in
    let r = at_zero k place p h in (refl, r.0, r.1)
  where
    at_zero : (k : ℕ) (x p : Place) → slice_get (x ∷ []) k ≡ Some p → (k ≡ 0) × (p ≡ x)
    at_zero zero x p e = (refl, (let f : p ≡ x = cc in f))
    at_zero (suc k) x p e = none_some p e
one_place (suc (suc n)) k p (c, e, f) = none_some c e

pub levels : AreLevels sample_design sample_level
levels = record {
  lower = λ cell k p placed.
      let h = one_place cell k p placed in
      let down : sample_level 0 < sample_level 1 = omega arith in
      subst (λ n. sample_level p.cell < sample_level n) (sym h.0) (subst (λ (x : Place). sample_level x.cell < sample_level 1) (sym h.2) down);
  some = some;
}
  where
    some : (cell : ℕ) → (sample_level cell ≡ 0) ⊎ ((k : ℕ) × (p : Place) × IsPlaced sample_design cell k p × (sample_level cell ≡ suc (sample_level p.cell)))
    some zero = inl refl
    some (suc zero) = inr (0, place, (parent, refl, refl), refl)
    some (suc (suc n)) = inl refl

parted : (cell c : ℕ) (q : Square) → IsKept sample_design cell (formula sample_wiring c) q → IsLocal sample_design cell (formula sample_wiring c) q ⊎ IsKeptBelow sample_design cell (formula sample_wiring c) q
parted cell zero q h = input_parted sample_design cell metal q h.square h.path h.end h.takes h.own
parted cell (suc c) q h = absurd h

one_rect : (r : ℕ) (x rect : Rect) → slice_get (x ∷ []) r ≡ Some rect → x ≡ rect
one_rect zero x rect e = cc
one_rect (suc r) x rect e = none_some rect e

own_in : (q : Square) (x : Rect) → Some_of (λ (l : Layer). (l.key ≡ metal) × Some_of (IsIn q) l.rects) ((record { key = metal; rects = x ∷ [] }) ∷ []) → IsIn q x
own_in q x (inl (e, inl i)) = i
own_in q x (inl (e, inr n)) = absurd n
own_in q x (inr n) = absurd n

own_tables : (cell c : ℕ) → AreOwn sample_design sample_wiring sample_tables cell c
own_tables zero zero = record {
  local = λ r rect q e i. (child, refl, inl (refl, inl (subst (λ x. IsIn q x) (sym (one_rect r child_rect rect e)) i)));
  found = λ q (c, e, o). let g : c ≡ child = cc in (0, child_rect, refl, own_in q child_rect (subst (λ (x : Cell). Some_of (λ (l : Layer). (l.key ≡ metal) × Some_of (IsIn q) l.rects) x.layers) g o));
  filled = λ r rect e. let q : Square = record { x = pos 1; y = pos 0 } in (q, subst (λ x. IsIn q x) (one_rect r child_rect rect e) (omega (arith, ints), omega (arith, ints), omega (arith, ints), omega (arith, ints)));
}
own_tables zero (suc c) = record { local = λ r rect q e i. none_some rect e; found = λ q h. absurd h; filled = λ r rect e. none_some rect e }
own_tables (suc zero) zero = record {
  local = λ r rect q e i. (parent, refl, inl (refl, inl (subst (λ x. IsIn q x) (sym (one_rect r parent_rect rect e)) i)));
  found = λ q (c, e, o). let g : c ≡ parent = cc in (0, parent_rect, refl, own_in q parent_rect (subst (λ (x : Cell). Some_of (λ (l : Layer). (l.key ≡ metal) × Some_of (IsIn q) l.rects) x.layers) g o));
  filled = λ r rect e. let q : Square = record { x = pos 1; y = pos 0 } in (q, subst (λ x. IsIn q x) (one_rect r parent_rect rect e) (omega (arith, ints), omega (arith, ints), omega (arith, ints), omega (arith, ints)));
}
own_tables (suc zero) (suc c) = record { local = λ r rect q e i. none_some rect e; found = λ q h. absurd h; filled = λ r rect e. none_some rect e }
own_tables (suc (suc n)) zero = record { local = λ r rect q e i. none_some rect e; found = λ q (c, e, o). none_some c e; filled = λ r rect e. none_some rect e }
own_tables (suc (suc n)) (suc c) = record { local = λ r rect q e i. none_some rect e; found = λ q h. absurd h; filled = λ r rect e. none_some rect e }

abbrev middle : Square
middle = record { x = pos 1; y = pos 0 }

child_holds : HoldsAt sample_design sample_tables 0 0 (Own 0 0) (At 0 middle)
child_holds = (middle, child_rect, refl, (omega (arith, ints), omega (arith, ints), omega (arith, ints), omega (arith, ints)), refl)

own_holds : ItemHolds sample_design sample_tables 1 (Own 0 0) (At 0 middle)
own_holds = record { depth = 0; holds = (middle, parent_rect, refl, (omega (arith, ints), omega (arith, ints), omega (arith, ints), omega (arith, ints)), refl) }

below_holds : ItemHolds sample_design sample_tables 1 (Child 0 0) (At 0 middle)
below_holds = record { depth = 1; holds = (place, (parent, refl, refl), 0, Own 0 0, record { listed = refl; numbered = refl }, At 0 middle, child_holds, refl) }

own_item : IsItem sample_design sample_wiring sample_tables 1 (Own 0 0)
own_item = (omega arith, omega arith)

below_item : IsItem sample_design sample_wiring sample_tables 1 (Child 0 0)
below_item = (place, (parent, refl, refl), omega arith)

abbrev L : Item → Item → Type 0
L = IsItemLink sample_design sample_wiring sample_tables 1

is_net : (net i : ℕ) (item : Item) → IsOf (nets_of 1) net i item → (net ≡ 0) × ((Own 0 0 ≡ item) ⊎ (Child 0 0 ≡ item))
is_net net zero item h = let e = h.listed in let f = h.numbered in ((let g : net ≡ 0 = cc in g), inl (let g : Own 0 0 ≡ item = cc in g))
is_net net (suc zero) item h = let e = h.listed in let f = h.numbered in ((let g : net ≡ 0 = cc in g), inr (let g : Child 0 0 ≡ item = cc in g))
is_net net (suc (suc i)) item h = none_some item h.listed

linked : (a b : Item) → (Own 0 0 ≡ a) ⊎ (Child 0 0 ≡ a) → (Own 0 0 ≡ b) ⊎ (Child 0 0 ≡ b) → Reaches L a b
linked a b (inl e) (inl f) = stays L a b (sym e ∙ f)
linked a b (inr e) (inr f) = stays L a b (sym e ∙ f)
linked a b (inl e) (inr f) = subst (λ x. Reaches L x b) e (subst (λ x. Reaches L (Own 0 0) x) f (single L (Own 0 0) (Child 0 0) (record { from = own_item; to = below_item; one = At 0 middle; other = At 0 middle; held = own_holds; others = below_holds; touch = (inl refl, inl refl) })))
linked a b (inr e) (inl f) = subst (λ x. Reaches L x b) e (subst (λ x. Reaches L (Child 0 0) x) f (single L (Child 0 0) (Own 0 0) (record { from = below_item; to = own_item; one = At 0 middle; other = At 0 middle; held = below_holds; others = own_holds; touch = (inl refl, inl refl) })))

one_net : (net i : ℕ) (item : Item) → IsOf (nets_of 0) net i item → (net ≡ 0) × (Own 0 0 ≡ item)
one_net net zero item h = let e = h.listed in let f = h.numbered in ((let g : net ≡ 0 = cc in g), (let g : Own 0 0 ≡ item = cc in g))
one_net net (suc i) item h = none_some item h.listed

one_of : (i x : ℕ) → slice_get (0 ∷ []) i ≡ Some x → x ≡ 0
one_of zero x e = cc
one_of (suc i) x e = none_some x e

two_of : (i x : ℕ) → slice_get (0 ∷ (0 ∷ [])) i ≡ Some x → x ≡ 0
two_of zero x e = cc
two_of (suc i) x e = one_of i x e

nets : (cell : ℕ) → AreNets sample_design sample_wiring sample_tables cell (nets_of cell)
nets zero = record {
  items = refl;
  numbers = refl;
  joined = λ i j a b x y h g. let s = one_net x i a h in let t = one_net y j b g in ((λ e. stays (IsItemLink sample_design sample_wiring sample_tables 0) a b (sym s.1 ∙ t.1)), (λ way. s.0 ∙ sym t.0));
  below = λ i x e. let z = one_of i x e in omega arith;
  used = λ x lt. let z : x ≡ 0 = omega arith in (0, ap Some (sym z));
  earlier = λ i x y e lt. let z = one_of i x e in absurd (omega arith);
}
nets (suc zero) = record {
  items = refl;
  numbers = refl;
  joined = λ i j a b x y h g. let s = is_net x i a h in let t = is_net y j b g in ((λ e. linked a b s.1 t.1), (λ way. s.0 ∙ sym t.0));
  below = λ i x e. let z = two_of i x e in omega arith;
  used = λ x lt. let z : x ≡ 0 = omega arith in (0, ap Some (sym z));
  earlier = λ i x y e lt. let z = two_of i x e in absurd (omega arith);
}
nets (suc (suc n)) = record {
  items = refl;
  numbers = refl;
  joined = λ i j a b x y h g. none_some a h.listed;
  below = λ i x e. none_some x e;
  used = λ x lt. absurd (omega arith);
  earlier = λ i x y e lt. none_some x e;
}

pub right : AreTables sample_design sample_wiring sample_tables sample_level
right = record { lower = levels.lower; parted = λ cell c q reached h. parted cell c q h; own = λ cell c reached. own_tables cell c; nets = λ cell reached. nets cell }
