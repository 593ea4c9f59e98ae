-- Pins are the same over all right nets and gates.
use Rattle.std.proofs.Common.{◌≡◌, ◌⊎◌, inl, inr, ℕ, zero, suc, ◌<◌, ◌+◌, true, List, [], Some, slice_get, refl, sym, ◌∙◌, ap, subst, arith}
use Rattle.flat_layout.specs.GateTables.{GateEntry, good_gates}
use Rattle.flat_layout.specs.Layout.{Design, IsHeight, IsReached}
use Rattle.flat_layout.specs.Nets.{CellNets, Child, Item, NetHolds, Tables}
use Rattle.flat_layout.specs.Pins.{ArePins, CellPins, HasGate, IsAbove, IsMarkedNet, IsNetOf, IsTag, IsUsed, IsUsedAbove}
use Rattle.flat_layout.specs.Regions.{Node, Wiring}
use Rattle.flat_laws.proofs.Planned.{lower}
use Rattle.cell_graph.specs.Linked.{Linked, IsSound, plain, height_at}
use Rattle.cell_graph.proofs.Bridge.{heights}
use Rattle.rule_text.specs.Rules.{Rules}
use Rattle.rule_layers.specs.Meaning.{device_rules, wiring_of}
use Rattle.table_laws.proofs.Pinned.{one_pins}
use Rattle.deep_tables.specs.Gates.{AreRightGates}
use Rattle.deep_tables.specs.Nets.{AreRightNets}
use Rattle.deep_tables.specs.OverAny.{PinsOverAnyLaw}
use Rattle.deep_tables.proofs.Agreeing.{held_alike, one_tables}
use Rattle.deep_tables.proofs.Gating.{gates_over_any, one_gates}

-- tables, and gates, that say the same of each reached cell
pub record AreAlike (d : Design) (s t : Tables) (g h : ℕ → List GateEntry) : Type 0 where
  pub nets : (cell : ℕ) → IsReached d cell → s.nets cell ≡ t.nets cell
  pub holds : (cell x : ℕ) (n : Node) → IsReached d cell → NetHolds d s cell x n → NetHolds d t cell x n
  pub gates : (cell : ℕ) → IsReached d cell → g cell ≡ h cell

-- right ones do
pub alike : (d : Linked) (r : Rules) (s t : Tables) (g h : ℕ → List GateEntry) → IsSound d → AreRightNets (plain d) (wiring_of r) s → AreRightNets (plain d) (wiring_of r) t
    → AreRightGates (plain d) (wiring_of r) s (device_rules r) g → AreRightGates (plain d) (wiring_of r) t (device_rules r) h → AreAlike (plain d) s t g h
alike d r s t g h sound rs rt gs ht = record {
  nets = λ cell reached. (one_tables d (wiring_of r) s t sound rs rt cell reached).nets;
  holds = λ cell x n reached. held_alike (plain d) (wiring_of r) s t (height_at d) cell x n (heights d sound) rs rt reached (one_tables d (wiring_of r) s t sound rs rt cell reached).nets;
  gates = λ cell reached. one_gates d r t cell (g cell) (h cell) sound rt reached (gates_over_any d r s cell (g cell) sound rs reached (gs cell reached) t rt) (ht cell reached);
}

pub has_gate : (g h : ℕ → List GateEntry) (cell x : ℕ) → g cell ≡ h cell → HasGate g cell x → HasGate h cell x
has_gate g h cell x same (i, gate, at, on) = (i, gate, subst (λ (l : List GateEntry). slice_get (good_gates l) i ≡ Some gate) same at, on)

-- pins of cells above that are the same
module _ (d : Design) (w : Wiring) (s t : Tables) (g h : ℕ → List GateEntry) (a : AreAlike d s t g h) (p q : ℕ → CellPins) (cell : ℕ) (reached : IsReached d cell) (above : (e : ℕ) → IsAbove d e cell → p e ≡ q e) where
  marked : (b : ℕ) → IsMarkedNet d w s cell b → IsMarkedNet d w t cell b
  marked b m = record { node = m.node; holds = a.holds cell b m.node reached m.holds; marked = m.marked }

  used_by : (parent : ℕ) (item : Item) (x : ℕ) → IsAbove d parent cell → IsUsed s g p parent item x → IsUsed t h q parent item x
  used_by parent item x up (inl (other, differs, is)) = inl (other, differs, subst (λ (v : CellNets). IsNetOf v other x) (a.nets parent up.0) is)
  used_by parent item x up (inr (inl gate)) = inr (inl (has_gate g h parent x (a.gates parent up.0) gate))
  used_by parent item x up (inr (inr pin)) = inr (inr (subst (λ (v : CellPins). slice_get v.pins x ≡ Some true) (above parent up) pin))

  used : (b : ℕ) → IsUsedAbove d s g p cell b → IsUsedAbove d t h q cell b
  used b u =
      let up : IsAbove d u.parent cell = (u.reached, (u.number, [], (u.place, u.placed, u.here))) in
      record {
        parent = u.parent;
        number = u.number;
        place = u.place;
        net = u.net;
        reached = u.reached;
        placed = u.placed;
        here = u.here;
        is_of = subst (λ (v : CellNets). IsNetOf v (Child u.number b) u.net) (a.nets u.parent u.reached) u.is_of;
        used = used_by u.parent (Child u.number b) u.net up u.used;
      }

  pub pin_along : (b : ℕ) → IsMarkedNet d w s cell b ⊎ IsUsedAbove d s g p cell b → IsMarkedNet d w t cell b ⊎ IsUsedAbove d t h q cell b
  pin_along b (inl m) = inl (marked b m)
  pin_along b (inr u) = inr (used b u)

  pub tag_along : (x : ℕ) (text : List ℕ) → IsTag d w s cell x text → IsTag d w t cell x text
  tag_along x text (n, held, tag) = (n, a.holds cell x n reached held, tag)

pub alike_back : (d : Linked) (r : Rules) (s t : Tables) (g h : ℕ → List GateEntry) → IsSound d → AreRightNets (plain d) (wiring_of r) s → AreRightNets (plain d) (wiring_of r) t
    → AreRightGates (plain d) (wiring_of r) s (device_rules r) g → AreRightGates (plain d) (wiring_of r) t (device_rules r) h → AreAlike (plain d) s t g h × AreAlike (plain d) t s h g
alike_back d r s t g h sound rs rt gs ht = (alike d r s t g h sound rs rt gs ht, alike d r t s h g sound rt rs ht gs)

pub pins_along : (d : Design) (w : Wiring) (s t : Tables) (g h : ℕ → List GateEntry) → AreAlike d s t g h → AreAlike d t s h g → (p q : ℕ → CellPins) (cell : ℕ) (v : CellPins) → IsReached d cell
    → ((e : ℕ) → IsAbove d e cell → p e ≡ q e) → ArePins d w s g p cell v → ArePins d w t h q cell v
pins_along d w s t g h a b p q cell v reached above right = record {
  count = right.count ∙ count;
  each = λ x lt.
      let both = right.each x (subst (λ n. x < n) (sym count) lt) in (
        (λ e. pin_along d w s t g h a p q cell reached above x (both.0 e)),
        (λ k. both.1 (pin_along d w t s h g b q p cell reached (λ e up. sym (above e up)) x k)),
      );
  named = right.named ∙ count;
  names = λ x base at.
      let base_is = right.names x base at in
      record {
        tags = base_is.tags;
        each = λ text. (
          (λ i. tag_along d w s t g h a p q cell reached above x text ((base_is.each text).0 i)),
          (λ k. (base_is.each text).1 (tag_along d w t s h g b q p cell reached (λ e up. sym (above e up)) x text k)),
        );
        rising = base_is.rising;
        joined = base_is.joined;
      };
}
  where
    count : (s.nets cell).count ≡ (t.nets cell).count
    count = ap (λ (n : CellNets). n.count) (a.nets cell reached)

pub pins_over_any : PinsOverAnyLaw
pins_over_any d r s of cell v sound rs gs reached is t others rt ht pins right =
    let both = alike_back d r s t of others sound rs rt gs ht in
    let below : ArePins (plain d) (wiring_of r) s of pins cell v = is pins (λ e up. pins_along (plain d) (wiring_of r) t s others of both.1 both.0 pins pins e (pins e) up.0 (λ f more. refl) (right e up)) in
    pins_along (plain d) (wiring_of r) s t of others both.0 both.1 pins pins cell v reached (λ e up. refl) below

-- right pins over both are the same, from the top down
pub pins_alike : (d : Design) (w : Wiring) (s t : Tables) (g h : ℕ → List GateEntry) (height : ℕ → ℕ) → IsHeight d height → AreAlike d s t g h → AreAlike d t s h g → (p q : ℕ → CellPins)
    → ((e : ℕ) → IsReached d e → ArePins d w s g p e (p e)) → ((e : ℕ) → IsReached d e → ArePins d w t h q e (q e)) → (n cell : ℕ) → height d.top < n + height cell → IsReached d cell → p cell ≡ q cell
pins_alike d w s t g h height linked a b p q mine others zero cell lt reached = let k = lower d height linked reached.path d.top cell reached.leads in absurd (omega arith)
pins_alike d w s t g h height linked a b p q mine others (suc n) cell lt reached =
    one_pins d w t h q cell (p cell) (q cell)
    (pins_along d w s t g h a b p q cell (p cell) reached
    (λ e up.
    let k = up.1.2 in
    let one = linked e up.1.0 k.0 k.1 in
    let rest = lower d height linked up.1.1 k.0.cell cell k.2 in
    pins_alike d w s t g h height linked a b p q mine others n e (omega arith) up.0)
    (mine cell reached))
    (others cell reached)
