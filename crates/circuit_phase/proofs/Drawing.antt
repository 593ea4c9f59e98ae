-- The marks of a cell are its drawn nets.
use Rattle.std.proofs.Common.{◌≡◌, ◌⊎◌, inl, inr, ℕ, zero, suc, ◌<◌, ◌==◌, ◌&&◌, ◌||◌, Bool, true, false, List, [], ◌∷◌, Some, map, slice_get, get_or, take, drop, ◌++◌, length, refl, sym, ◌∙◌, ap, subst, arith}
use Rattle.std.specs.Prelude.{replicate}
use Rattle.std.proofs.Math.Seq.{take-append_seam}
use Rattle.std.proofs.lemmas.Bool.{eq-eqb, eqb-true, or_cases, and_parts, or_right, or_left, false≢true}
use Rattle.std.proofs.lemmas.Option.{same_Some, slice_get_within, get_or_from_slice_get}
use Rattle.flat_layout.specs.Circuits.{AreDrawn, IsDrawnBelow}
use Rattle.flat_layout.specs.GateTables.{GateEntry}
use Rattle.flat_layout.specs.Layout.{Cell, Design, IsPlaced, Place}
use Rattle.flat_layout.specs.Nets.{AreNets, CellNets, Child, Global, IsItem, Item, Own, Tables, no_cell}
use Rattle.flat_layout.specs.Pins.{CellPins, HasGate}
use Rattle.flat_layout.specs.Regions.{Wiring}
use Rattle.flat_laws.proofs.Items.{items_sound}
use Rattle.net_marks.specs.Marks.{has_terminal}
use Rattle.circuit_phase.specs.Placed.{AreReadable, is_child_marked, is_drawn_pin, is_marked_by, placed_cells}
use Rattle.net_marks.proofs.Listed.{gate_of, of_gate}

-- drawn pins

pub record IsMarkAt (test : Item → Bool) (items : List Item) (nets : List ℕ) (x : ℕ) : Type 0 where
  pub index : ℕ
  pub item : Item
  pub listed : slice_get items index ≡ Some item
  pub numbered : slice_get nets index ≡ Some x
  pub is : test item ≡ true

mark_at : (test : Item → Bool) (items : List Item) (nets : List ℕ) (x : ℕ) → is_marked_by test items nets x ≡ true → IsMarkAt test items nets x
mark_at test [] nets x h = absurd (false≢true h)
mark_at test (i ∷ items) [] x h = absurd (false≢true h)
mark_at test (i ∷ items) (n ∷ nets) x h = elim (or_cases (test i && (x == n)) (is_marked_by test items nets x) h) [
  | inl e ↦ let b = and_parts (test i) (x == n) e in record { index = 0; item = i; listed = refl; numbered = ap (λ (m : ℕ). Some m) (sym (eqb-true x n b.1)); is = b.0 }
  | inr e ↦ let r = mark_at test items nets x e in record { index = suc r.index; item = r.item; listed = r.listed; numbered = r.numbered; is = r.is }
]

at_mark : (test : Item → Bool) (items : List Item) (nets : List ℕ) (x i : ℕ) (item : Item) → slice_get items i ≡ Some item → slice_get nets i ≡ Some x → test item ≡ true → is_marked_by test items nets x ≡ true
at_mark test [] nets x i item h g is = let z : ⊥ = cc in absurd z
at_mark test (j ∷ items) [] x i item h g is = let z : ⊥ = cc in absurd z
at_mark test (j ∷ items) (n ∷ nets) x zero item h g is =
    let e : j ≡ item = cc in
    let f : x ≡ n = cc in
    or_left (test j && (x == n)) (is_marked_by test items nets x) (ap (λ (b : Bool). b && (x == n)) (ap test e ∙ is) ∙ eq-eqb x n f)
at_mark test (j ∷ items) (n ∷ nets) x (suc i) item h g is = or_right (test j && (x == n)) (is_marked_by test items nets x) (at_mark test items nets x i item h g is)

truth : (l : List Bool) (i : ℕ) → get_or l i false ≡ true → slice_get l i ≡ Some true
truth [] i h = absurd (false≢true h)
truth (b ∷ l) zero h = ap (λ (c : Bool). Some c) h
truth (b ∷ l) (suc i) h = truth l i h

pub record IsChildMark (pins : ℕ → CellPins) (drawn : ℕ → List Bool) (cells : List ℕ) (item : Item) : Type 0 where
  pub number : ℕ
  pub net : ℕ
  pub is : item ≡ Child number net
  pub pin : get_or (pins (get_or cells number 0)).pins net false ≡ true
  pub drawn_there : get_or (drawn (get_or cells number 0)) net false ≡ true

child_mark : (pins : ℕ → CellPins) (drawn : ℕ → List Bool) (cells : List ℕ) (item : Item) → is_child_marked pins drawn cells item ≡ true → IsChildMark pins drawn cells item
child_mark pins drawn cells (Own c r) h = absurd (false≢true h)
child_mark pins drawn cells (Global g) h = absurd (false≢true h)
child_mark pins drawn cells (Child k b) h =
    let e = and_parts (get_or (pins (get_or cells k 0)).pins b false) (get_or (drawn (get_or cells k 0)) b false) h in
    record { number = k; net = b; is = refl; pin = e.0; drawn_there = e.1 }

cell_at : (ps : List Place) (k : ℕ) (p : Place) → slice_get ps k ≡ Some p → get_or (map (λ (q : Place). q.cell) ps) k 0 ≡ p.cell
cell_at [] k p h = let z : ⊥ = cc in absurd z
cell_at (q ∷ ps) zero p h = ap (λ (r : Place). r.cell) (same_Some q p h)
cell_at (q ∷ ps) (suc k) p h = cell_at ps k p h

pub placed_cell : (d : Design) (cell k : ℕ) (p : Place) → IsPlaced d cell k p → get_or (placed_cells d cell) k 0 ≡ p.cell
placed_cell d cell k p (c, there, at) =
    let is : get_or d.cells cell no_cell ≡ c = get_or_from_slice_get d.cells cell c no_cell there in
    cell_at (get_or d.cells cell no_cell).places k p (subst (λ (e : Cell). slice_get e.places k ≡ Some p) (sym is) at)

pub drawn_of : (d : Design) (w : Wiring) (s t : Tables) (l : List GateEntry) (pins : ℕ → CellPins) (drawn : ℕ → List Bool) (cell : ℕ) (v : CellNets) (cells : List ℕ) (marks : List Bool) → t.nets cell ≡ v → AreNets d w s cell v → cells ≡ placed_cells d cell → length marks ≡ v.count
    → ((x : ℕ) → get_or marks x false ≡ (is_marked_by (is_child_marked pins drawn cells) v.items v.net_of x || (has_terminal x l || false))) → AreDrawn d t (λ c. l) pins drawn cell marks
drawn_of d w s t l pins drawn cell v cells marks same nets are long marked = record {
  count = long ∙ sym (ap (λ (n : CellNets). n.count) same);
  each = λ x lt. ((λ h. there x (sym (marked x) ∙ get_or_from_slice_get marks x true false h)), (λ h. truth marks x (marked x ∙ back x h)));
}
  where
    test : Item → Bool
    test = is_child_marked pins drawn cells

    below : (x : ℕ) → IsMarkAt test v.items v.net_of x → IsDrawnBelow d t pins drawn cell x
    below x m =
        let c = child_mark pins drawn cells m.item m.is in
        let listed : slice_get v.items m.index ≡ Some (Child c.number c.net) = m.listed ∙ ap (λ (i : Item). Some i) c.is in
        let item : IsItem d w s cell (Child c.number c.net) = items_sound d w s cell v nets m.index (Child c.number c.net) listed in
        let at : get_or cells c.number 0 ≡ item.0.cell = ap (λ (s : List ℕ). get_or s c.number 0) are ∙ placed_cell d cell c.number item.0 item.1 in
        record {
          number = c.number;
          place = item.0;
          net = c.net;
          placed = item.1;
          is_of = (m.index, record { listed = subst (λ (n : CellNets). slice_get n.items m.index ≡ Some (Child c.number c.net)) (sym same) listed; numbered = subst (λ (n : CellNets). slice_get n.net_of m.index ≡ Some x) (sym same) m.numbered });
          is_pin = truth (pins item.0.cell).pins c.net (subst (λ (e : ℕ). get_or (pins e).pins c.net false ≡ true) at c.pin);
          is_drawn = truth (drawn item.0.cell) c.net (subst (λ (e : ℕ). get_or (drawn e) c.net false ≡ true) at c.drawn_there);
        }

    there : (x : ℕ) → (is_marked_by test v.items v.net_of x || (has_terminal x l || false)) ≡ true → HasGate (λ c. l) cell x ⊎ IsDrawnBelow d t pins drawn cell x
    there x h = elim (or_cases (is_marked_by test v.items v.net_of x) (has_terminal x l || false) h) [
      | inl e ↦ inr (below x (mark_at test v.items v.net_of x e))
      | inr e ↦ elim (or_cases (has_terminal x l) false e) [
        | inl f ↦ inl (gate_of x l f)
        | inr f ↦ absurd (false≢true f)
      ]
    ]

    back : (x : ℕ) → HasGate (λ c. l) cell x ⊎ IsDrawnBelow d t pins drawn cell x → (is_marked_by test v.items v.net_of x || (has_terminal x l || false)) ≡ true
    back x (inl g) = or_right (is_marked_by test v.items v.net_of x) (has_terminal x l || false) (or_left (has_terminal x l) false (of_gate x l g))
    back x (inr b) =
        let i = b.is_of.0 in
        let listed = subst (λ (n : CellNets). slice_get n.items i ≡ Some (Child b.number b.net)) same b.is_of.1.listed in
        let numbered = subst (λ (n : CellNets). slice_get n.net_of i ≡ Some x) same b.is_of.1.numbered in
        let at : get_or cells b.number 0 ≡ b.place.cell = ap (λ (s : List ℕ). get_or s b.number 0) are ∙ placed_cell d cell b.number b.place b.placed in
        let pin = get_or_from_slice_get (pins b.place.cell).pins b.net true false b.is_pin in
        let dr = get_or_from_slice_get (drawn b.place.cell) b.net true false b.is_drawn in
        let is : test (Child b.number b.net) ≡ true = ap (λ (e : ℕ). is_drawn_pin pins drawn e b.net) at ∙ ap (λ (c : Bool). c && get_or (drawn b.place.cell) b.net false) pin ∙ dr in
        or_left (is_marked_by test v.items v.net_of x) (has_terminal x l || false) (at_mark test v.items v.net_of x i (Child b.number b.net) listed numbered is)

-- what is written through a slice of all marks is all of them
pub written : (n : ℕ) (xs ys : List Bool) → length xs ≡ n → take n (xs ++ drop (length xs) ys) ≡ xs
written n xs ys e = subst (λ (k : ℕ). take k (xs ++ drop (length xs) ys) ≡ xs) e (take-append_seam xs (drop (length xs) ys))

pub false_long : (n : ℕ) → length (replicate n false) ≡ n
false_long zero = refl
false_long (suc n) = let e = false_long n in omega (arith, e)

cells_long : (ps : List Place) → length (map (λ (q : Place). q.cell) ps) ≡ length ps
cells_long [] = refl
cells_long (q ∷ ps) = let e = cells_long ps in omega (arith, e)

pub placed_within : (d : Design) (cell k : ℕ) (p : Place) → IsPlaced d cell k p → k < length (placed_cells d cell)
placed_within d cell k p (c, there, at) =
    let is : get_or d.cells cell no_cell ≡ c = get_or_from_slice_get d.cells cell c no_cell there in
    let ps = (get_or d.cells cell no_cell).places in
    let lt = slice_get_within ps k p (subst (λ (e : Cell). slice_get e.places k ≡ Some p) (sym is) at) in
    let e = cells_long ps in
    omega (arith, lt, e)

pub readable : (d : Design) (w : Wiring) (t : Tables) (cell : ℕ) (v : CellNets) (cells : List ℕ) (may : ℕ → Type 0) → AreNets d w t cell v → cells ≡ placed_cells d cell → ((k : ℕ) (p : Place) → IsPlaced d cell k p → may p.cell) → (i : ℕ) (item : Item) → slice_get v.items i ≡ Some item → AreReadable may cells item
readable d w t cell v cells may nets are can i (Own c r) h = tt
readable d w t cell v cells may nets are can i (Global g) h = tt
readable d w t cell v cells may nets are can i (Child k b) h =
    let item : IsItem d w t cell (Child k b) = items_sound d w t cell v nets i (Child k b) h in
    let at : get_or cells k 0 ≡ item.0.cell = ap (λ (s : List ℕ). get_or s k 0) are ∙ placed_cell d cell k item.0 item.1 in
    let lt = placed_within d cell k item.0 item.1 in
    let long = ap (λ (s : List ℕ). length s) are in
    (omega (arith, lt, long), subst may (sym at) (can k item.0 item.1))
