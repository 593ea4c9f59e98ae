-- All links together, and where items stand.
use Rattle.std.proofs.Common.{◌≡◌, inl, inr, ℕ, ◌+◌, ◌<◌, List, [], ◌∷◌, ◌++◌, Some, slice_get, length, refl, sym, ◌∙◌, ap, subst, arith}
use Rattle.base_laws.proofs.Items.{get_left}
use Rattle.std.proofs.Math.Decide.{ℕ_discrete}
use Rattle.std.proofs.lemmas.Option.{get_or_from_slice_get}
use Rattle.flat_laws.proofs.Items.{at_placed}
use Rattle.flat_layout.specs.Layout.{Design}
use Rattle.flat_layout.specs.Nets.{Item, Own, Child, Global, Tables, IsItem, items_of}
use Rattle.flat_layout.specs.Regions.{Wiring}
use Rattle.link_classes.specs.Classes.{IsLinked}
use Rattle.link_classes.specs.declared.classes.Link.{Link}
use Rattle.net_link_laws.proofs.Numbering.{one_place, apart_items}
use Rattle.net_link_laws.proofs.Standing.{own_place, child_place, global_place}
use Rattle.net_link_laws.specs.Found.{AreAllFound, IsFoundLink, Stands}
use Rattle.touching_pieces.proofs.Chains.{one_of, one_on}
use Rattle.touching_pieces.specs.Pairs.{AreOne}
use Rattle.net_link_laws.specs.Places.{owned_before, nets_before, places_of}
use Rattle.net_walk.proofs.Placing.{get_right}
use Rattle.net_walk.specs.Beside.{AddsBeside, IsSquarePair}
use Rattle.net_walk.specs.Globals.{AddsToGlobals, IsAny, IsGlobalPair, globals_at}
use Rattle.net_walk.specs.Owned.{AreOwnLinks}
use Rattle.net_walk.specs.Pairs.{AddsChildren, first_of}
use Rattle.net_walk.specs.Together.{AreFirsts}

module _ (d : Design) (w : Wiring) (t : Tables) (cell : ℕ) where
  once : (i j : ℕ) (a : Item) → Stands d w t cell i a → Stands d w t cell j a → i ≡ j
  once i j a h g = one_place (items_of d w t cell) i j a (apart_items d w t cell) h g

  own_stands : (c r : ℕ) → IsItem d w t cell (Own c r) → Stands d w t cell (owned_before t cell c + r) (Own c r)
  own_stands c r is = own_place d w t cell c r is.0 is.1

  child_stands : (k x : ℕ) → IsItem d w t cell (Child k x) → Stands d w t cell (first_of d w t cell k + x) (Child k x)
  child_stands k x is =
      let z : owned_before t cell (length w.conductors) + (nets_before t (places_of d cell) k + x) ≡ first_of d w t cell k + x = omega arith in
      subst (λ i. Stands d w t cell i (Child k x)) z (child_place d w t cell k x is.0 (at_placed d cell k is.0 is.1) is.2)

  global_stands : (g : ℕ) → g < length w.globals → Stands d w t cell (globals_at d w t cell + g) (Global g)
  global_stands g lt =
      let owned = owned_before t cell (length w.conductors) in
      let placed = nets_before t (places_of d cell) (length (places_of d cell)) in
      let z : owned + (placed + g) ≡ globals_at d w t cell + g = omega arith in
      subst (λ i. Stands d w t cell i (Global g)) z (global_place d w t cell g lt)

  -- links at the places of two items
  at_places : (links : List Link) (i j m n : ℕ) (a b : Item) → Stands d w t cell i a → Stands d w t cell j b → Stands d w t cell m a → Stands d w t cell n b → AreOne links m n → AreOne links i j
  at_places links i j m n a b h g h2 g2 one = subst (λ k. AreOne links k j) (once m i a h2 h) (subst (λ k. AreOne links m k) (once n j b g2 g) one)

  square_found : (i j : ℕ) → IsSquarePair d w t cell i j → (a : Item) × (b : Item) × Stands d w t cell i a × Stands d w t cell j b × IsFoundLink d w t cell a b
  square_found i j h = (h.0, h.1, h.2, h.3, inl h.4)

  global_found : (i j : ℕ) → IsGlobalPair d w t cell i j → (a : Item) × (b : Item) × Stands d w t cell i a × Stands d w t cell j b × IsFoundLink d w t cell a b
  global_found i j h = (h.0, h.1, h.2, h.3, inr h.4)

  pub united : (l0 l1 l2 l3 : List Link) → AreOwnLinks d w t cell l0 → AddsChildren d w t cell l0 l1 → AddsBeside d w t cell l1 l2 → AddsToGlobals d w t cell IsAny l2 l3 → AreAllFound d w t cell l3
  united l0 l1 l2 l3 own children beside globals = record {
    each = λ i j h. elim (globals.each i j h) [
      | inr p ↦ global_found i j p
      | inl h2 ↦ elim (beside.each i j h2) [
        | inr p ↦ square_found i j p
        | inl h1 ↦ elim (children.each i j h1) [ inr p ↦ square_found i j p | inl h0 ↦ square_found i j (own.each i j h0) ]
      ]
    ];
    own = λ i j c r e s h g l.
        let one = one_on l0 l3 (λ x y m. globals.kept x y (beside.kept x y (children.kept x y m))) (owned_before t cell c + r) (owned_before t cell e + s) (own.found c r e s l) in
        at_places l3 i j (owned_before t cell c + r) (owned_before t cell e + s) (Own c r) (Own e s) h g (own_stands c r l.from) (own_stands e s l.to) one;
    beside = λ i j c r k x h g l.
        let one = one_on l2 l3 globals.kept (owned_before t cell c + r) (first_of d w t cell k + x) (beside.found c r k x l) in
        at_places l3 i j (owned_before t cell c + r) (first_of d w t cell k + x) (Own c r) (Child k x) h g (own_stands c r l.from) (child_stands k x l.to) one;
    children = λ i j k x m y not h g l.
        let one = one_on l1 l3 (λ u v n. globals.kept u v (beside.kept u v n)) (first_of d w t cell k + x) (first_of d w t cell m + y) (children.found k m x y not l) in
        at_places l3 i j (first_of d w t cell k + x) (first_of d w t cell m + y) (Child k x) (Child m y) h g (child_stands k x l.from) (child_stands m y l.to) one;
    globals = λ i j a b h g l.
        let stands : Stands d w t cell j (Global l.global) = subst (λ v. Stands d w t cell j v) l.is g in
        let e : globals_at d w t cell + l.global ≡ j = once (globals_at d w t cell + l.global) j (Global l.global) (global_stands l.global l.known) stands in
        one_of l3 i j (inr (subst (λ n. IsLinked l3 i n) e (globals.found i l.global a tt l.known h l.on)));
  }

-- places of first nets, one more

pub record AreFirstsTo (d : Design) (w : Wiring) (t : Tables) (cell n : ℕ) (firsts : List ℕ) : Type 0 where
  pub long : length firsts ≡ n
  pub each : (k : ℕ) → k < n → slice_get firsts k ≡ Some (first_of d w t cell k)

pub no_firsts : (d : Design) (w : Wiring) (t : Tables) (cell : ℕ) → AreFirstsTo d w t cell 0 []
no_firsts d w t cell = record { long = refl; each = λ k lt. absurd (omega arith) }

pub firsts_more : (d : Design) (w : Wiring) (t : Tables) (cell n at : ℕ) (firsts : List ℕ) → at ≡ first_of d w t cell n → AreFirstsTo d w t cell n firsts → AreFirstsTo d w t cell (n + 1) (firsts ++ at ∷ [])
firsts_more d w t cell n at firsts e h = record {
  long = (let l = long_one firsts at in let m = h.long in omega (arith, l, m));
  each = λ k lt. elim (ℕ_discrete k n) [
    | yes s ↦
        let z : length firsts + 0 ≡ k = (let m = h.long in omega (arith, m, s)) in
        subst (λ i. slice_get (firsts ++ at ∷ []) i ≡ Some (first_of d w t cell k)) z
        (get_right firsts (at ∷ []) 0 (first_of d w t cell k) (ap Some (e ∙ ap (first_of d w t cell) (sym s))))
    | no m ↦ get_left firsts (at ∷ []) k (first_of d w t cell k) (h.each k (omega arith))
  ];
}
  where
    long_one : (xs : List ℕ) (x : ℕ) → length (xs ++ x ∷ []) ≡ length xs + 1
    long_one [] x = refl
    long_one (y ∷ xs) x = let h = long_one xs x in omega (arith, h)

pub firsts_all : (d : Design) (w : Wiring) (t : Tables) (cell n : ℕ) (firsts : List ℕ) → n ≡ length (places_of d cell) → AreFirstsTo d w t cell n firsts → AreFirsts d w t cell firsts
firsts_all d w t cell n firsts e h = record {
  long = h.long ∙ e;
  each = λ k lt. get_or_from_slice_get firsts k (first_of d w t cell k) 0 (h.each k (let m = h.long in omega (arith, m, lt)));
}
