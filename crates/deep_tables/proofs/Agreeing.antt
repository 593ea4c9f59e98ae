-- Tables that agree below a cell hold the same there.
use Rattle.std.proofs.Common.{◌≡◌, ℕ, zero, suc, ◌<◌, ◌++◌, List, [], ◌∷◌, Some, get_or, slice_get, length, refl, sym, ◌∙◌, ap, subst, arith}
use Rattle.geo_base.specs.declared.shapes.Rect.{Rect}
use Rattle.flat_layout.specs.Layers.{Formula}
use Rattle.flat_layout.specs.Layout.{Design, Place, IsHeight, IsPlaced, IsReached}
use Rattle.flat_layout.specs.Nets.{AreNets, AreRightBelow, CellNets, Child, Global, HoldsAt, IsItem, IsItemLink, IsOf, IsUnder, Item, ItemHolds, NetHolds, Own, Tables, child_items, items_of, no_cell, own_items, run}
use Rattle.flat_layout.specs.Regions.{Node, Wiring}
use Rattle.plain_netlist.specs.Chains.{Reaches}
use Rattle.plain_netlist.proofs.Links.{along, single}
use Rattle.flat_laws.proofs.Cover.{reached_below}
use Rattle.flat_laws.proofs.Items.{one_table, placed_at}
use Rattle.cell_graph.specs.Linked.{plain, height_at}
use Rattle.cell_graph.proofs.Bridge.{heights}
use Rattle.table_laws.proofs.Tabled.{one_own, reached_under}
use Rattle.table_laws.proofs.Tabled as tabled
use Rattle.deep_tables.specs.Nets.{AreRightNets}
use Rattle.deep_tables.specs.OverAny.{NetsOverAnyLaw, OneTablesLaw}

-- the same rectangles in and below the cell, the same nets below it
pub record AgreeBelow (d : Design) (s t : Tables) (cell : ℕ) : Type 0 where
  pub own : (e c : ℕ) → IsUnder d cell e → s.own e c ≡ t.own e c
  pub nets : (k e : ℕ) (p : Place) → IsPlaced d cell k p → IsUnder d p.cell e → s.nets e ≡ t.nets e

agree_back : (d : Design) (s t : Tables) (cell : ℕ) → AgreeBelow d s t cell → AgreeBelow d t s cell
agree_back d s t cell a = record { own = λ e c under. sym (a.own e c under); nets = λ k e p placed under. sym (a.nets k e p placed under) }

agree_down : (d : Design) (s t : Tables) (cell k : ℕ) (p : Place) → AgreeBelow d s t cell → IsPlaced d cell k p → AgreeBelow d s t p.cell
agree_down d s t cell k p a placed = record {
  own = λ e c under. a.own e c (k ∷ under.0, (p, placed, under.1));
  nets = λ j e q there under. a.nets k e p placed (j ∷ under.0, (q, there, under.1));
}

right_down : (d : Design) (w : Wiring) (t : Tables) (cell k : ℕ) (p : Place) → AreRightBelow d w t cell → IsPlaced d cell k p → AreRightBelow d w t p.cell
right_down d w t cell k p right placed = record {
  own = λ e c under. right.own e c (k ∷ under.0, (p, placed, under.1));
  nets = λ j e q there under. right.nets k e p placed (j ∷ under.0, (q, there, under.1));
}

holds_at : (d : Design) (s t : Tables) (h cell : ℕ) (item : Item) (n : Node) → AgreeBelow d s t cell → HoldsAt d s h cell item n → HoldsAt d t h cell item n
holds_at d s t zero cell (Own c r) n a (q, rect, at, inside, e) = (q, rect, subst (λ (l : List Rect). slice_get l r ≡ Some rect) (a.own cell c ([], refl)) at, inside, e)
holds_at d s t zero cell (Child k b) n a h = h
holds_at d s t zero cell (Global g) n a h = h
holds_at d s t (suc h) cell (Own c r) n a g = g
holds_at d s t (suc h) cell (Child k b) n a (p, placed, i, item, is, m, holds, e) =
    (p, placed, i, item, subst (λ (v : CellNets). IsOf v b i item) (a.nets k p.cell p placed ([], refl)) is, m, holds_at d s t h p.cell item m (agree_down d s t cell k p a placed) holds, e)
holds_at d s t (suc h) cell (Global g) n a k = k

item_holds : (d : Design) (s t : Tables) (cell : ℕ) (item : Item) (n : Node) → AgreeBelow d s t cell → ItemHolds d s cell item n → ItemHolds d t cell item n
item_holds d s t cell item n a h = record { depth = h.depth; holds = holds_at d s t h.depth cell item n a h.holds }

pub net_holds : (d : Design) (s t : Tables) (cell x : ℕ) (n : Node) → AgreeBelow d s t cell → s.nets cell ≡ t.nets cell → NetHolds d s cell x n → NetHolds d t cell x n
net_holds d s t cell x n a same h = record { index = h.index; item = h.item; is_of = subst (λ (v : CellNets). IsOf v x h.index h.item) same h.is_of; holds = item_holds d s t cell h.item n a h.holds }

is_item : (d : Design) (w : Wiring) (s t : Tables) (cell : ℕ) (item : Item) → AgreeBelow d s t cell → IsItem d w s cell item → IsItem d w t cell item
is_item d w s t cell (Own c r) a (known, lt) = (known, subst (λ (l : List Rect). r < length l) (a.own cell c ([], refl)) lt)
is_item d w s t cell (Child k b) a (p, placed, lt) = (p, placed, subst (λ (v : CellNets). b < v.count) (a.nets k p.cell p placed ([], refl)) lt)
is_item d w s t cell (Global g) a h = h

item_link : (d : Design) (w : Wiring) (s t : Tables) (cell : ℕ) → AgreeBelow d s t cell → (x y : Item) → IsItemLink d w s cell x y → IsItemLink d w t cell x y
item_link d w s t cell a x y h = record {
  from = is_item d w s t cell x a h.from;
  to = is_item d w s t cell y a h.to;
  one = h.one;
  other = h.other;
  held = item_holds d s t cell x h.one a h.held;
  others = item_holds d s t cell y h.other a h.others;
  touch = h.touch;
}

linked : (d : Design) (w : Wiring) (s t : Tables) (cell : ℕ) → AgreeBelow d s t cell → (x y : Item) → Reaches (IsItemLink d w s cell) x y → Reaches (IsItemLink d w t cell) x y
linked d w s t cell a x y h = along (IsItemLink d w s cell) (IsItemLink d w t cell) (λ i. i) (λ i j l. single (IsItemLink d w t cell) i j (item_link d w s t cell a i j l)) x y h

same_own : (d : Design) (s t : Tables) (cell c : ℕ) (xs : List Formula) → AgreeBelow d s t cell → own_items s cell c xs ≡ own_items t cell c xs
same_own d s t cell c [] a = refl
same_own d s t cell c (x ∷ xs) a =
    ap (λ (l : List Rect). run (Own c) 0 (length l) ++ own_items s cell (suc c) xs) (a.own cell c ([], refl)) ∙ ap (λ (l : List Item). run (Own c) 0 (length (t.own cell c)) ++ l) (same_own d s t cell (suc c) xs a)

same_children : (s t : Tables) (k : ℕ) (ps : List Place) → ((j : ℕ) (p : Place) → slice_get ps j ≡ Some p → s.nets p.cell ≡ t.nets p.cell) → child_items s k ps ≡ child_items t k ps
same_children s t k [] all = refl
same_children s t k (p ∷ ps) all =
    ap (λ (v : CellNets). run (Child k) 0 v.count ++ child_items s (suc k) ps) (all 0 p refl) ∙ ap (λ (l : List Item). run (Child k) 0 (t.nets p.cell).count ++ l) (same_children s t (suc k) ps (λ j q e. all (suc j) q e))

same_items : (d : Design) (w : Wiring) (s t : Tables) (cell : ℕ) → AgreeBelow d s t cell → items_of d w s cell ≡ items_of d w t cell
same_items d w s t cell a =
    let places = (get_or d.cells cell no_cell).places in
    let children = same_children s t 0 places (λ j p e. a.nets j p.cell p (placed_at d cell j p e) ([], refl)) in
    ap (λ (l : List Item). l ++ (child_items s 0 places ++ run Global 0 (length w.globals))) (same_own d s t cell 0 w.conductors a)
    ∙ ap (λ (l : List Item). own_items t cell 0 w.conductors ++ (l ++ run Global 0 (length w.globals))) children

-- so nets that are right over the one are right over the other
pub nets_along : (d : Design) (w : Wiring) (s t : Tables) (cell : ℕ) (v : CellNets) → AgreeBelow d s t cell → AreNets d w s cell v → AreNets d w t cell v
nets_along d w s t cell v a h = record {
  items = h.items ∙ same_items d w s t cell a;
  numbers = h.numbers;
  joined = λ i j x y m n one other.
      let both = h.joined i j x y m n one other in
      ((λ e. linked d w s t cell a x y (both.0 e)), (λ r. both.1 (linked d w t s cell (agree_back d s t cell a) x y r)));
  below = h.below;
  used = h.used;
  earlier = h.earlier;
}

-- tables that are right below a cell agree there
pub agree : (d : Design) (w : Wiring) (s t : Tables) (height : ℕ → ℕ) → IsHeight d height → (n cell : ℕ) → height cell < n → AreRightBelow d w s cell → AreRightBelow d w t cell → AgreeBelow d s t cell
agree d w s t height lower zero cell lt rs rt = absurd (omega arith)
agree d w s t height lower (suc n) cell lt rs rt = record {
  own = λ e c under. one_own d w s t e c (rs.own e c under) (rt.own e c under);
  nets = λ k e p placed under.
      let down = lower cell k p placed in
      nets_under k p placed e under (agree d w s t height lower n p.cell (omega arith) (right_down d w s cell k p rs placed) (right_down d w t cell k p rt placed));
}
  where
    nets_under : (k : ℕ) (p : Place) → IsPlaced d cell k p → (e : ℕ) → IsUnder d p.cell e → AgreeBelow d s t p.cell → s.nets e ≡ t.nets e
    nets_under k p placed e ([], same) a =
        let here = one_table d w t p.cell (s.nets p.cell) (t.nets p.cell) (nets_along d w s t p.cell (s.nets p.cell) a (rs.nets k p.cell p placed ([], refl))) (rt.nets k p.cell p placed ([], refl)) in
        subst (λ c. s.nets c ≡ t.nets c) same here
    nets_under k p placed e (j ∷ path, leads) a = a.nets j e leads.0 leads.1 (path, leads.2)

pub nets_over_any : NetsOverAnyLaw
nets_over_any d w s cell v sound right nets t other =
    let lt : height_at d cell < suc (height_at d cell) = omega arith in
    nets_along (plain d) w s t cell v (agree (plain d) w s t (height_at d) (heights d sound) (suc (height_at d cell)) cell lt right other) nets

-- right tables are right below each reached cell
below_reached : (d : Design) (w : Wiring) (t : Tables) (height : ℕ → ℕ) (cell : ℕ) → IsHeight d height → AreRightNets d w t → IsReached d cell → AreRightBelow d w t cell
below_reached d w t height cell lower right reached =
    let all = tabled.tables d w t height lower right.own right.nets in
    record {
      own = λ e c under. all.1 e c (reached_under d cell e reached under);
      nets = λ k e p placed under. all.0.nets e (reached_under d p.cell e (reached_below d cell k p reached placed) under);
    }

pub agree_reached : (d : Design) (w : Wiring) (s t : Tables) (height : ℕ → ℕ) (cell : ℕ) → IsHeight d height → AreRightNets d w s → AreRightNets d w t → IsReached d cell → AgreeBelow d s t cell
agree_reached d w s t height cell lower rs rt reached =
    let lt : height cell < suc (height cell) = omega arith in
    agree d w s t height lower (suc (height cell)) cell lt (below_reached d w s height cell lower rs reached) (below_reached d w t height cell lower rt reached)

pub one_tables : OneTablesLaw
one_tables d w s t sound rs rt cell reached =
    let a = agree_reached (plain d) w s t (height_at d) cell (heights d sound) rs rt reached in
    let mine = tabled.tables (plain d) w s (height_at d) (heights d sound) rs.own rs.nets in
    let others = tabled.tables (plain d) w t (height_at d) (heights d sound) rt.own rt.nets in
    record {
      own = λ c. a.own cell c ([], refl);
      nets = one_table (plain d) w t cell (s.nets cell) (t.nets cell) (nets_along (plain d) w s t cell (s.nets cell) a (mine.0.nets cell reached)) (others.0.nets cell reached);
    }

-- so a net holds the same nodes over both
pub held_alike : (d : Design) (w : Wiring) (s t : Tables) (height : ℕ → ℕ) (cell x : ℕ) (n : Node) → IsHeight d height → AreRightNets d w s → AreRightNets d w t → IsReached d cell → s.nets cell ≡ t.nets cell
    → NetHolds d s cell x n → NetHolds d t cell x n
held_alike d w s t height cell x n lower rs rt reached same h = net_holds d s t cell x n (agree_reached d w s t height cell lower rs rt reached) same h
