-- The list of a cell's items, and that over the same tables a cell has one table of nets.
use Rattle.std.proofs.Common.{◌≡◌, inl, inr, ℕ, zero, suc, ◌+◌, ◌<◌, ◌≤◌, List, [], ◌∷◌, ◌++◌, Some, slice_get, get_or, length, refl, sym, ◌∙◌, ap, subst, arith}
use Rattle.std.proofs.lemmas.Option.{slice_get_within, slice_get-get_or, get_or_from_slice_get}
use Rattle.std.proofs.lemmas.List.{ext_get_or, get_or_past}
use Rattle.std.proofs.Math.Decide.{ℕ_discrete, dec_lt}
use Rattle.flat_laws.specs.NetLaws.{OneTableLaw, ReadLaw, TogetherLaw}
use Rattle.flat_layout.specs.Layers.{Formula}
use Rattle.flat_layout.specs.Layout.{Place, Cell, Design, IsPlaced, IsHeight}
use Rattle.flat_layout.specs.Nets.{Item, Own, Child, Global, CellNets, Tables, IsItem, run, own_items, child_items, items_of, no_cell, AreNets, AreListed, IsUnder, AreRightBelow, IsNetsOf}
use Rattle.flat_layout.specs.Regions.{Wiring}
use Rattle.plain_netlist.specs.Lists.{IsListed}
use Rattle.plain_netlist.proofs.Members.{listed, position, in_left, in_right, either_side}

pub in_run : (f : ℕ → Item) (k n : ℕ) (item : Item) → IsListed item (run f k n) → (j : ℕ) × (k ≤ j) × (j < k + n) × (item ≡ f j)
in_run f k zero item h = absurd h
in_run f k (suc n) item (inl e) = (k, omega arith, omega arith, e)
in_run f k (suc n) item (inr h) = let r = in_run f (suc k) n item h in let a = r.1 in let b = r.2 in (r.0, omega arith, omega arith, r.3)

run_has : (f : ℕ → Item) (k n j : ℕ) → k ≤ j → j < k + n → IsListed (f j) (run f k n)
run_has f k zero j a b = absurd (omega arith)
run_has f k (suc n) j a b = elim (ℕ_discrete j k) [ yes e ↦ inl (ap f e) | no not ↦ inr (run_has f (suc k) n j (omega arith) (omega arith)) ]

in_own : (t : Tables) (cell c : ℕ) (names : List Formula) (item : Item) → IsListed item (own_items t cell c names) → (e r : ℕ) × (e < c + length names) × (r < length (t.own cell e)) × (item ≡ Own e r)
in_own t cell c [] item h = absurd h
in_own t cell c (x ∷ xs) item h =
    elim (either_side (run (Own c) 0 (length (t.own cell c))) (own_items t cell (suc c) xs) item h) [
      | inl l ↦ let r = in_run (Own c) 0 (length (t.own cell c)) item l in let b = r.2 in (c, r.0, omega arith, omega arith, r.3)
      | inr l ↦ let r = in_own t cell (suc c) xs item l in let b = r.2 in (r.0, r.1, omega arith, r.3, r.4)
    ]

own_has : (t : Tables) (cell c : ℕ) (names : List Formula) (e r : ℕ) → c ≤ e → e < c + length names → r < length (t.own cell e) → IsListed (Own e r) (own_items t cell c names)
own_has t cell c [] e r a b h = absurd (omega arith)
own_has t cell c (x ∷ xs) e r a b h =
    elim (ℕ_discrete c e) [
      | yes same ↦
          let there : r < length (t.own cell c) = subst (λ i. r < length (t.own cell i)) (sym same) h in
          let item : IsListed (Own c r) (run (Own c) 0 (length (t.own cell c))) = run_has (Own c) 0 (length (t.own cell c)) r (omega arith) (omega arith) in
          in_left (run (Own c) 0 (length (t.own cell c))) (own_items t cell (suc c) xs) (Own e r) (subst (λ i. IsListed (Own i r) (run (Own c) 0 (length (t.own cell c)))) same item)
      | no not ↦ in_right (run (Own c) 0 (length (t.own cell c))) (own_items t cell (suc c) xs) (Own e r) (own_has t cell (suc c) xs e r (omega arith) (omega arith) h)
    ]

pub in_child : (t : Tables) (k : ℕ) (places : List Place) (item : Item) → IsListed item (child_items t k places) → (j : ℕ) × (p : Place) × (b : ℕ) × (slice_get places j ≡ Some p) × (b < (t.nets p.cell).count) × (item ≡ Child (k + j) b)
in_child t k [] item h = absurd h
in_child t k (p ∷ ps) item h =
    elim (either_side (run (Child k) 0 (t.nets p.cell).count) (child_items t (suc k) ps) item h) [
      | inl l ↦
          let r = in_run (Child k) 0 (t.nets p.cell).count item l in
          let b = r.2 in
          let z : k ≡ k + 0 = omega arith in
          (0, p, r.0, refl, omega arith, r.3 ∙ ap (λ i. Child i r.0) z)
      | inr l ↦
          let r = in_child t (suc k) ps item l in
          let z : suc k + r.0 ≡ k + suc r.0 = omega arith in
          (suc r.0, r.1, r.2, r.3, r.4, r.5 ∙ ap (λ i. Child i r.2) z)
    ]

child_has : (t : Tables) (k : ℕ) (places : List Place) (j : ℕ) (p : Place) (b : ℕ) → slice_get places j ≡ Some p → b < (t.nets p.cell).count → IsListed (Child (k + j) b) (child_items t k places)
child_has t k [] j p b e h = cc
child_has t k (q ∷ ps) zero p b e h =
    let same : q ≡ p = let f : Some q ≡ Some p = e in cc in
    let there : b < (t.nets q.cell).count = subst (λ (r : Place). b < (t.nets r.cell).count) (sym same) h in
    let z : k ≡ k + 0 = omega arith in
    in_left (run (Child k) 0 (t.nets q.cell).count) (child_items t (suc k) ps) (Child (k + 0) b)
    (subst (λ i. IsListed (Child i b) (run (Child k) 0 (t.nets q.cell).count)) z (run_has (Child k) 0 (t.nets q.cell).count b (omega arith) (omega arith)))
child_has t k (q ∷ ps) (suc j) p b e h =
    let z : suc k + j ≡ k + suc j = omega arith in
    in_right (run (Child k) 0 (t.nets q.cell).count) (child_items t (suc k) ps) (Child (k + suc j) b)
    (subst (λ i. IsListed (Child i b) (child_items t (suc k) ps)) z (child_has t (suc k) ps j p b e h))

pub placed_at : (d : Design) (cell k : ℕ) (p : Place) → slice_get (get_or d.cells cell no_cell).places k ≡ Some p → IsPlaced d cell k p
placed_at d cell k p h =
    elim (dec_lt cell (length d.cells)) [
      | yes lt ↦ (get_or d.cells cell no_cell, slice_get-get_or d.cells cell no_cell lt, h)
      | no not ↦
          let past : length d.cells ≤ cell = omega arith in
          let none : slice_get [] k ≡ Some p = subst (λ (c : Cell). slice_get c.places k ≡ Some p) (get_or_past d.cells cell no_cell past) h in
          cc
    ]

pub at_placed : (d : Design) (cell k : ℕ) (p : Place) → IsPlaced d cell k p → slice_get (get_or d.cells cell no_cell).places k ≡ Some p
at_placed d cell k p h = subst (λ (c : Cell). slice_get c.places k ≡ Some p) (sym (get_or_from_slice_get d.cells cell h.0 no_cell h.1)) h.2

module _ (d : Design) (w : Wiring) (t : Tables) (cell : ℕ) where
  abbrev owned : List Item
  owned = own_items t cell 0 w.conductors

  abbrev children : List Item
  children = child_items t 0 (get_or d.cells cell no_cell).places

  abbrev grounds : List Item
  grounds = run Global 0 (length w.globals)

  pub is_item : (item : Item) → IsListed item (items_of d w t cell) → IsItem d w t cell item
  is_item item h =
      elim (either_side owned (children ++ grounds) item h) [
        | inl l ↦
            let r = in_own t cell 0 w.conductors item l in
            let lt = r.2 in
            let one : IsItem d w t cell (Own r.0 r.1) = (omega arith, r.3) in
            subst (λ i. IsItem d w t cell i) (sym r.4) one
        | inr m ↦ elim (either_side children grounds item m) [
          | inl l ↦
              let r = in_child t 0 (get_or d.cells cell no_cell).places item l in
              let z : 0 + r.0 ≡ r.0 = omega arith in
              let one : IsItem d w t cell (Child (0 + r.0) r.2) = (r.1, placed_at d cell (0 + r.0) r.1 (subst (λ i. slice_get (get_or d.cells cell no_cell).places i ≡ Some r.1) (sym z) r.3), r.4) in
              subst (λ i. IsItem d w t cell i) (sym r.5) one
          | inr l ↦
              let r = in_run Global 0 (length w.globals) item l in
              let lt = r.2 in
              let one : IsItem d w t cell (Global r.0) = omega arith in
              subst (λ i. IsItem d w t cell i) (sym r.3) one
        ]
      ]

  pub has_item : (item : Item) → IsItem d w t cell item → IsListed item (items_of d w t cell)
  has_item (Own c r) h = let a = h.0 in in_left owned (children ++ grounds) (Own c r) (own_has t cell 0 w.conductors c r (omega arith) (omega arith) h.1)
  has_item (Child k b) h =
      let z : 0 + k ≡ k = omega arith in
      in_right owned (children ++ grounds) (Child k b) (in_left children grounds (Child k b)
      (subst (λ i. IsListed (Child i b) children) z (child_has t 0 (get_or d.cells cell no_cell).places k h.0 b (at_placed d cell k h.0 h.1) h.2)))
  has_item (Global x) h = in_right owned (children ++ grounds) (Global x) (in_right children grounds (Global x) (run_has Global 0 (length w.globals) x (omega arith) (omega arith)))

pub items_sound : (d : Design) (w : Wiring) (t : Tables) (cell : ℕ) (v : CellNets) → AreNets d w t cell v → (i : ℕ) (item : Item) → slice_get v.items i ≡ Some item → IsItem d w t cell item
items_sound d w t cell v are i item h = is_item d w t cell item (listed (items_of d w t cell) i item (subst (λ (l : List Item). slice_get l i ≡ Some item) are.items h))

pub items_complete : (d : Design) (w : Wiring) (t : Tables) (cell : ℕ) (v : CellNets) → AreNets d w t cell v → (item : Item) → IsItem d w t cell item → (i : ℕ) × (slice_get v.items i ≡ Some item)
items_complete d w t cell v are item h =
    let r = position (items_of d w t cell) item (has_item d w t cell item h) in
    (r.0, subst (λ (l : List Item). slice_get l r.0 ≡ Some item) (sym are.items) r.1)

module _ (d : Design) (w : Wiring) (t : Tables) (cell : ℕ) (v z : CellNets) (av : AreNets d w t cell v) (az : AreNets d w t cell z) where
  same_items : v.items ≡ z.items
  same_items = av.items ∙ sym az.items

  -- of two items in one net of the one, the other has them in one too
  agree : (i j x y : ℕ) → slice_get v.net_of i ≡ Some x → slice_get v.net_of j ≡ Some x → slice_get z.net_of j ≡ Some y → slice_get z.net_of i ≡ Some y
  agree i j x y hi hj kj =
      let li = slice_get_within v.net_of i x hi in
      let lj = slice_get_within v.net_of j x hj in
      let ni : i < length v.items = rw (← av.numbers) li in
      let nj : j < length v.items = rw (← av.numbers) lj in
      let a = get_or v.items i (Global 0) in
      let b = get_or v.items j (Global 0) in
      let ia : slice_get v.items i ≡ Some a = slice_get-get_or v.items i (Global 0) ni in
      let jb : slice_get v.items j ≡ Some b = slice_get-get_or v.items j (Global 0) nj in
      let za : slice_get z.items i ≡ Some a = subst (λ (l : List Item). slice_get l i ≡ Some a) same_items ia in
      let zb : slice_get z.items j ≡ Some b = subst (λ (l : List Item). slice_get l j ≡ Some b) same_items jb in
      let zi : i < length z.items = slice_get_within z.items i a za in
      let mi : i < length z.net_of = rw az.numbers zi in
      let g = get_or z.net_of i 0 in
      let ki : slice_get z.net_of i ≡ Some g = slice_get-get_or z.net_of i 0 mi in
      let way = (av.joined i j a b x x (record { listed = ia; numbered = hi }) (record { listed = jb; numbered = hj })).0 refl in
      let same : g ≡ y = (az.joined i j a b g y (record { listed = za; numbered = ki }) (record { listed = zb; numbered = kj })).1 way in
      ki ∙ ap (λ (n : ℕ). Some n) same

same_number : (d : Design) (w : Wiring) (t : Tables) (cell : ℕ) (v z : CellNets) → AreNets d w t cell v → AreNets d w t cell z → (n i x y : ℕ) → i < n → slice_get v.net_of i ≡ Some x → slice_get z.net_of i ≡ Some y → x ≡ y
same_number d w t cell v z av az zero i x y lt h k = absurd (omega arith)
same_number d w t cell v z av az (suc n) i x y lt h k =
    elim (dec_lt x y) [
      | yes less ↦
          let r = az.earlier i y x k less in
          let back = r.1 in
          let lj = slice_get_within z.net_of r.0 x r.2 in
          let lengths : length v.net_of ≡ length z.net_of = av.numbers ∙ ap (λ (l : List Item). length l) (av.items ∙ sym az.items) ∙ sym az.numbers in
          let vj : r.0 < length v.net_of = rw lengths lj in
          let g = get_or v.net_of r.0 0 in
          let hj : slice_get v.net_of r.0 ≡ Some g = slice_get-get_or v.net_of r.0 0 vj in
          let same : g ≡ x = same_number d w t cell v z av az n r.0 g x (omega arith) hj r.2 in
          let there = agree d w t cell v z av az i r.0 x x h (hj ∙ ap (λ (m : ℕ). Some m) same) r.2 in
          let e : x ≡ y = cc in e
      | no not ↦ elim (dec_lt y x) [
        | yes less ↦
            let r = av.earlier i x y h less in
            let back = r.1 in
            let lj = slice_get_within v.net_of r.0 y r.2 in
            let lengths : length v.net_of ≡ length z.net_of = av.numbers ∙ ap (λ (l : List Item). length l) (av.items ∙ sym az.items) ∙ sym az.numbers in
            let zj : r.0 < length z.net_of = rw (← lengths) lj in
            let g = get_or z.net_of r.0 0 in
            let kj : slice_get z.net_of r.0 ≡ Some g = slice_get-get_or z.net_of r.0 0 zj in
            let same : y ≡ g = same_number d w t cell v z av az n r.0 y g (omega arith) r.2 kj in
            let there = agree d w t cell z v az av i r.0 y y k (kj ∙ ap (λ (m : ℕ). Some m) (sym same)) r.2 in
            let e : x ≡ y = cc in e
        | no more ↦ omega arith
      ]
    ]

pub one_table : OneTableLaw
one_table d w t cell v z av az =
    let items : v.items ≡ z.items = av.items ∙ sym az.items in
    let lengths : length v.net_of ≡ length z.net_of = av.numbers ∙ ap (λ (l : List Item). length l) items ∙ sym az.numbers in
    let net_of : v.net_of ≡ z.net_of = ext_get_or 0 v.net_of z.net_of lengths (λ i lt.
    let lz : i < length z.net_of = rw (← lengths) lt in
    same_number d w t cell v z av az (suc i) i (get_or v.net_of i 0) (get_or z.net_of i 0) (omega arith) (slice_get-get_or v.net_of i 0 lt) (slice_get-get_or z.net_of i 0 lz)) in
    let count : v.count ≡ z.count = elim (dec_lt v.count z.count) [
      | yes less ↦
          let u = az.used v.count less in
          let b = av.below u.0 v.count (subst (λ (l : List ℕ). slice_get l u.0 ≡ Some v.count) (sym net_of) u.1) in
          absurd (omega arith)
      | no not ↦ elim (dec_lt z.count v.count) [
        | yes less ↦
            let u = av.used z.count less in
            let b = az.below u.0 z.count (subst (λ (l : List ℕ). slice_get l u.0 ≡ Some z.count) net_of u.1) in
            absurd (omega arith)
        | no more ↦ omega arith
      ]
    ] in
    ap (λ (l : List Item). let r : CellNets = record { items = l; net_of = v.net_of; count = v.count } in r) items
    ∙ ap (λ (l : List ℕ). let r : CellNets = record { items = z.items; net_of = l; count = v.count } in r) net_of
    ∙ ap (λ (n : ℕ). let r : CellNets = record { items = z.items; net_of = z.net_of; count = n } in r) count

right_below : (d : Design) (w : Wiring) (t : Tables) (cell k : ℕ) (p : Place) → AreRightBelow d w t cell → IsPlaced d cell k p → AreRightBelow d w t p.cell
right_below d w t cell k p right placed = record {
  own = λ e c under. right.own e c (k ∷ under.0, (p, placed, under.1));
  nets = λ j e q is under. right.nets k e p placed (j ∷ under.0, (q, is, under.1));
}

pub read : ReadLaw
read d w t cell k p v right placed is =
    one_table d w t p.cell v (t.nets p.cell) (is t (right_below d w t cell k p right placed)) (right.nets k p.cell p placed ([], refl))

together_to : (d : Design) (w : Wiring) (t : Tables) (height : ℕ → ℕ) → IsHeight d height → (n cell : ℕ) → height cell < n → ((e c : ℕ) → IsUnder d cell e → AreListed d w t e c) → ((e : ℕ) → IsUnder d cell e → IsNetsOf d w e (t.nets e))
    → (e : ℕ) → IsUnder d cell e → AreNets d w t e (t.nets e)
together_to d w t height linked zero cell lt own is e under = absurd (omega arith)
together_to d w t height linked (suc n) cell lt own is e (k ∷ ks, (p, placed, rest)) =
    let less = linked cell k p placed in
    together_to d w t height linked n p.cell (omega arith) (λ f c u. own f c (k ∷ u.0, (p, placed, u.1))) (λ f u. is f (k ∷ u.0, (p, placed, u.1))) e (ks, rest)
together_to d w t height linked (suc n) cell lt own is e ([], here) =
    subst (λ c. AreNets d w t c (t.nets c)) here
    (is cell ([], refl) t (record {
      own = own;
      nets = λ j f q placed under.
          let less = linked cell j q placed in
          together_to d w t height linked n q.cell (omega arith) (λ h c u. own h c (j ∷ u.0, (q, placed, u.1))) (λ h u. is h (j ∷ u.0, (q, placed, u.1))) f under;
    }))

pub together : TogetherLaw
together d w t height linked cell own is = let lt : height cell < suc (height cell) = omega arith in together_to d w t height linked (suc (height cell)) cell lt own is cell ([], refl)
