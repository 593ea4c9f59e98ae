-- The classes of links between the places of items are the nets of a cell.
use Rattle.std.proofs.Common.{◌≡◌, ◌↔◌, inl, inr, ℕ, zero, suc, ◌+◌, ◌<◌, ◌≤◌, List, [], ◌∷◌, ◌++◌, Some, slice_get, get_or, length, refl, sym, ◌∙◌, ap, subst, arith}
use Rattle.std.proofs.lemmas.Option.{slice_get_within, slice_get-get_or, get_or_from_slice_get}
use Rattle.flat_laws.proofs.Items.{in_run, in_child, has_item}
use Rattle.plain_netlist.proofs.Members.{listed, position, either_side}
use Rattle.plain_netlist.specs.Lists.{IsListed}
use Rattle.flat_layout.specs.Layers.{Formula}
use Rattle.flat_layout.specs.Layout.{Place, Design}
use Rattle.flat_layout.specs.Nets.{Item, Own, Child, Global, Tables, IsItem, IsItemLink, AreRightBelow, run, own_items, child_items, items_of, no_cell}
use Rattle.flat_layout.specs.Regions.{Wiring}
use Rattle.link_classes.specs.Classes.{IsLinked}
use Rattle.link_classes.specs.declared.classes.Link.{Link}
use Rattle.net_link_laws.proofs.Grounds.{found_links}
use Rattle.net_link_laws.specs.Found.{IsFoundLink, AreItemLinks}
use Rattle.net_link_laws.specs.Laws.{ClassLaw}
use Rattle.plain_netlist.proofs.Links.{stays, both}
use Rattle.plain_netlist.specs.Chains.{IsChain, Reaches}

-- no item stands twice among the items

abbrev AreApart : List Item → Type 0
AreApart [] = Unit {0}
AreApart (x ∷ xs) = (IsListed x xs → ⊥) × AreApart xs

apart_append : (xs ys : List Item) → AreApart xs → AreApart ys → ((a : Item) → IsListed a xs → IsListed a ys → ⊥) → AreApart (xs ++ ys)
apart_append [] ys h g not = g
apart_append (x ∷ xs) ys h g not = (
  (λ l. elim (either_side xs ys x l) [ inl a ↦ h.0 a | inr b ↦ not x (inl refl) b ]),
  apart_append xs ys h.1 g (λ a l m. not a (inr l) m),
)

apart_run : (f : ℕ → Item) → ((i j : ℕ) → f i ≡ f j → i ≡ j) → (k n : ℕ) → AreApart (run f k n)
apart_run f one k zero = tt
apart_run f one k (suc n) = ((λ l. let r = in_run f (suc k) n (f k) l in let e = one k r.0 r.3 in let le = r.1 in omega arith), apart_run f one (suc k) n)

own_one : (c i j : ℕ) → Own c i ≡ Own c j → i ≡ j
own_one c i j e = cc

child_one : (k i j : ℕ) → Child k i ≡ Child k j → i ≡ j
child_one k i j e = cc

global_one : (i j : ℕ) → Global i ≡ Global j → i ≡ j
global_one i j e = cc

own_from : (t : Tables) (cell c : ℕ) (names : List Formula) (item : Item) → IsListed item (own_items t cell c names) → (e r : ℕ) × (c ≤ e) × (item ≡ Own e r)
own_from t cell c [] item h = absurd h
own_from t cell c (x ∷ xs) item h =
    elim (either_side (run (Own c) 0 (length (t.own cell c))) (own_items t cell (suc c) xs) item h) [
      | inl l ↦ let r = in_run (Own c) 0 (length (t.own cell c)) item l in (c, r.0, omega arith, r.3)
      | inr l ↦ let r = own_from t cell (suc c) xs item l in let le = r.2 in (r.0, r.1, omega arith, r.3)
    ]

own_not : (c e i r : ℕ) → suc c ≤ e → Own c i ≡ Own e r → ⊥
own_not c e i r le same = let f : c ≡ e = cc in omega arith

child_not : (k j i b : ℕ) → Child k i ≡ Child (suc k + j) b → ⊥
child_not k j i b same = let f : k ≡ suc k + j = cc in omega arith

apart_own : (t : Tables) (cell c : ℕ) (names : List Formula) → AreApart (own_items t cell c names)
apart_own t cell c [] = tt
apart_own t cell c (x ∷ xs) =
    apart_append (run (Own c) 0 (length (t.own cell c))) (own_items t cell (suc c) xs) (apart_run (Own c) (own_one c) 0 (length (t.own cell c))) (apart_own t cell (suc c) xs)
    (λ a l m.
    let r = in_run (Own c) 0 (length (t.own cell c)) a l in
    let s = own_from t cell (suc c) xs a m in
    own_not c s.0 r.0 s.1 s.2 (sym r.3 ∙ s.3))

apart_child : (t : Tables) (k : ℕ) (places : List Place) → AreApart (child_items t k places)
apart_child t k [] = tt
apart_child t k (p ∷ ps) =
    apart_append (run (Child k) 0 (t.nets p.cell).count) (child_items t (suc k) ps) (apart_run (Child k) (child_one k) 0 (t.nets p.cell).count) (apart_child t (suc k) ps)
    (λ a l m.
    let r = in_run (Child k) 0 (t.nets p.cell).count a l in
    let s = in_child t (suc k) ps a m in
    child_not k s.0 r.0 s.2 (sym r.3 ∙ s.5))

own_child : (e r k b : ℕ) → Own e r ≡ Child k b → ⊥
own_child e r k b same = cc

own_global : (e r g : ℕ) → Own e r ≡ Global g → ⊥
own_global e r g same = cc

child_global : (k b g : ℕ) → Child k b ≡ Global g → ⊥
child_global k b g same = cc

pub apart_items : (d : Design) (w : Wiring) (t : Tables) (cell : ℕ) → AreApart (items_of d w t cell)
apart_items d w t cell =
    let places = (get_or d.cells cell no_cell).places in
    let owned = own_items t cell 0 w.conductors in
    let children = child_items t 0 places in
    let grounds = run Global 0 (length w.globals) in
    let later : AreApart (children ++ grounds) = apart_append children grounds (apart_child t 0 places) (apart_run Global global_one 0 (length w.globals))
    (λ a l m.
    let r = in_child t 0 places a l in
    let s = in_run Global 0 (length w.globals) a m in
    child_global (0 + r.0) r.2 s.0 (sym r.5 ∙ s.3)) in
    apart_append owned (children ++ grounds) (apart_own t cell 0 w.conductors) later
    (λ a l m.
    let o = own_from t cell 0 w.conductors a l in
    elim (either_side children grounds a m) [
      | inl n ↦ let r = in_child t 0 places a n in own_child o.0 o.1 (0 + r.0) r.2 (sym o.3 ∙ r.5)
      | inr n ↦ let s = in_run Global 0 (length w.globals) a n in own_global o.0 o.1 s.0 (sym o.3 ∙ s.3)
    ])

pub one_place : (xs : List Item) (i j : ℕ) (a : Item) → AreApart xs → slice_get xs i ≡ Some a → slice_get xs j ≡ Some a → i ≡ j
one_place [] i j a apart h g = cc
one_place (x ∷ xs) zero zero a apart h g = refl
one_place (x ∷ xs) zero (suc j) a apart h g = let e : x ≡ a = let f : Some x ≡ Some a = h in cc in absurd (apart.0 (subst (λ b. IsListed b xs) (sym e) (listed xs j a g)))
one_place (x ∷ xs) (suc i) zero a apart h g = let e : x ≡ a = let f : Some x ≡ Some a = g in cc in absurd (apart.0 (subst (λ b. IsListed b xs) (sym e) (listed xs i a h)))
one_place (x ∷ xs) (suc i) (suc j) a apart h g = ap suc (one_place xs i j a apart.1 h g)

same_item : (xs : List Item) (i : ℕ) (a b : Item) → slice_get xs i ≡ Some a → slice_get xs i ≡ Some b → a ≡ b
same_item xs i a b h g = cc

found_to : (d : Design) (w : Wiring) (t : Tables) (cell : ℕ) (a b : Item) → IsFoundLink d w t cell a b → IsItem d w t cell b
found_to d w t cell a b (inl s) = s.to
found_to d w t cell a b (inr (inl g)) = subst (λ i. IsItem d w t cell i) (sym g.is) g.known
found_to d w t cell a b (inr (inr g)) = g.from

module _ (d : Design) (w : Wiring) (t : Tables) (cell : ℕ) (links : List Link) (right : AreRightBelow d w t cell) (are : AreItemLinks d w t cell links) where
  abbrev items : List Item
  items = items_of d w t cell

  chain_items : (i j : ℕ) (a b : Item) (via : List ℕ) → IsChain (IsLinked links) i via j → slice_get items i ≡ Some a → slice_get items j ≡ Some b → Reaches (IsItemLink d w t cell) a b
  chain_items i j a b [] e h g = stays (IsItemLink d w t cell) a b (same_item items j a b (subst (λ k. slice_get items k ≡ Some a) e h) g)
  chain_items i j a b (x ∷ xs) (l, rest) h g =
      let f = are.each i x l in
      let same : f.0 ≡ a = same_item items i f.0 a f.2 h in
      both (IsItemLink d w t cell) a f.1 b (subst (λ k. Reaches (IsItemLink d w t cell) k f.1) same f.4) (chain_items x j f.1 b xs rest f.3 g)

  chain_links : (i j : ℕ) (a b : Item) (via : List Item) → IsChain (IsFoundLink d w t cell) a via b → slice_get items i ≡ Some a → slice_get items j ≡ Some b → Reaches (IsLinked links) i j
  chain_links i j a b [] e h g = stays (IsLinked links) i j (one_place items i j b (apart_items d w t cell) (subst (λ k. slice_get items i ≡ Some k) e h) g)
  chain_links i j a b (x ∷ xs) (l, rest) h g =
      let k = position items x (has_item d w t cell x (found_to d w t cell a x l)) in
      both (IsLinked links) i k.0 j (are.found i k.0 a x h k.1 l) (chain_links k.0 j x b xs rest k.1 g)

  pub item_chains : (i j : ℕ) (a b : Item) → slice_get items i ≡ Some a → slice_get items j ≡ Some b → Reaches (IsLinked links) i j ↔ Reaches (IsItemLink d w t cell) a b
  item_chains i j a b h g = (
    (λ r. chain_items i j a b r.via r.chain h g),
    (λ r. let s = (found_links d w t cell right a b).1 r in chain_links i j a b s.via s.chain h g),
  )

pub classes : ClassLaw
classes d w t cell links class_of count right are h =
    let items = items_of d w t cell in
    let at : (i x : ℕ) → slice_get class_of i ≡ Some x → get_or class_of i 0 ≡ x = λ i x e. get_or_from_slice_get class_of i x 0 e in
    let from : (i x : ℕ) → i < length items → get_or class_of i 0 ≡ x → slice_get class_of i ≡ Some x = λ i x lt e.
    let long = h.long in let inside : i < length class_of = omega arith in slice_get-get_or class_of i 0 inside ∙ ap Some e in
    record {
      items = refl;
      numbers = h.long;
      joined = λ i j a b x y k l.
          let i_in = slice_get_within items i a k.listed in
          let j_in = slice_get_within items j b l.listed in
          let one = at i x k.numbered in
          let two = at j y l.numbered in
          let same = h.joined i j i_in j_in in
          let chains = item_chains d w t cell links right are i j a b k.listed l.listed in (
            (λ e. chains.0 (same.0 (one ∙ e ∙ sym two))),
            (λ r. sym one ∙ same.1 (chains.1 r) ∙ two),
          );
      below = λ i x e.
          let inside = slice_get_within class_of i x e in
          let long = h.long in
          let lt : i < length items = omega arith in
          subst (λ k. k < count) (at i x e) (h.below i lt);
      used = λ x lt. let u = h.used x lt in (u.0, from u.0 x u.1 u.2);
      earlier = λ i x y e less.
          let inside = slice_get_within class_of i x e in
          let long = h.long in
          let lt : i < length items = omega arith in
          let smaller : y < get_or class_of i 0 = subst (λ k. y < k) (sym (at i x e)) less in
          let u = h.earlier i y lt smaller in
          let before = u.1 in
          (u.0, u.1, from u.0 y (omega arith) u.2);
    }
