-- The marks of nets that calls have pins on.
use Rattle.std.proofs.Common.{◌≡◌, ◌∙◌, ℕ, zero, suc, ◌<◌, ◌+◌, ◌&&◌, Bool, true, false, List, [], ◌∷◌, Option, Some, None, get_or, length, length-set, refl, slice_index, sym, ap, subst, arith}
use Rattle.std.proofs.Math.Decide.{ℕ_discrete}
use Rattle.std.proofs.lemmas.List.{get_or-set_other, get_or-set_same}
use Rattle.std.proofs.lemmas.Option.{none-some, same_Some}
use Rattle.std.specs.Prelude.{set}
use Rattle.cell_graph.specs.Linked.{IsOrder, Linked, plain}
use Rattle.deep_tables.specs.Circuits.{drawn_at, drawn_of, value_in, value_of}
use Rattle.deep_tables.specs.Entries.{entry}
use Rattle.deep_tables.specs.Pins.{pins_in, pins_of}
use Rattle.deep_tables.specs.declared.circuits.CellCircuit.{CellCircuit}
use Rattle.deep_tables.specs.declared.pins.CellPins.{CellPins}
use Rattle.flat_layout.specs.Circuits.{both}
use Rattle.flat_layout.specs.Layout.{IsReached}
use Rattle.view_drawing.specs.Calls.{called_in, has_circuit}

no_and : (x : Bool) → false ≡ (x && false)
no_and true = refl
no_and false = refl

both_at : (xs ys : List Bool) (b : ℕ) → get_or (both xs ys) b false ≡ (get_or xs b false && get_or ys b false)
both_at [] ys b = refl
both_at (x ∷ xs) [] b = no_and (get_or (x ∷ xs) b false)
both_at (x ∷ xs) (y ∷ ys) zero = refl
both_at (x ∷ xs) (y ∷ ys) (suc b) = both_at xs ys b

pub drawn_is : (o : Option CellCircuit) (ds : List Bool) → drawn_of o ≡ Some ds → (value_in o).drawn ≡ ds
drawn_is None ds e = absurd (none-some ds e)
drawn_is (Some v) ds e = same_Some _ _ e

-- the marks of a cell with a circuit
pub marked : (table : List (Option CellCircuit)) (pins : List (Option CellPins)) (cell b : ℕ) (v : CellPins) (ps ds ms : List Bool) → ms ≡ both ps ds → ps ≡ v.pin.items → entry pins cell ≡ Some v → drawn_at table cell ≡ Some ds
    → has_circuit table cell ≡ true → get_or ms b false ≡ called_in table (pins_of pins) cell b
marked table pins cell b v ps ds ms e f g h t =
    let p : (pins_of pins cell).pins ≡ v.pin.items = ap (λ (o : Option CellPins). (pins_in o).pins) g in
    let d : (value_of table cell).drawn ≡ ds = drawn_is (entry table cell) ds h in
    ap (λ (l : List Bool). get_or l b false) (e ∙ ap (λ (l : List Bool). both l ds) f) ∙ both_at v.pin.items ds b
    ∙ ap (λ (l : List Bool). get_or l b false && get_or ds b false) (sym p)
    ∙ ap (λ (l : List Bool). get_or (pins_of pins cell).pins b false && get_or l b false) (sym d)
    ∙ ap (λ (x : Bool). x && (get_or (pins_of pins cell).pins b false && get_or (value_of table cell).drawn b false)) (sym t)

-- those of the first n cells of the order
pub record AreMarksTo (d : Linked) (table : List (Option CellCircuit)) (pins : List (Option CellPins)) (n : ℕ) (all : List (List Bool)) : Type 0 where
  pub long : length all ≡ length d.cells
  pub done : (j b : ℕ) → j < n → get_or (get_or all (slice_index d.order j) []) b false ≡ called_in table (pins_of pins) (slice_index d.order j) b

pub none_marked : (d : Linked) (table : List (Option CellCircuit)) (pins : List (Option CellPins)) (all : List (List Bool)) → length all ≡ length d.cells → AreMarksTo d table pins 0 all
none_marked d table pins all long = record { long = long; done = λ j b lt. absurd (omega arith) }

pub one_marked : (d : Linked) (table : List (Option CellCircuit)) (pins : List (Option CellPins)) (n : ℕ) (all : List (List Bool)) (ms : List Bool) → IsOrder d → n < length d.order → AreMarksTo d table pins n all
    → ((b : ℕ) → get_or ms b false ≡ called_in table (pins_of pins) (slice_index d.order n) b) → AreMarksTo d table pins (n + 1) (set all (slice_index d.order n) ms)
one_marked d table pins n all ms order lt h is =
    let cell = slice_index d.order n in
    let new = set all cell ms in
    let long = h.long in
    let inside = order.inside n lt in
    let at : get_or new cell [] ≡ ms = get_or-set_same all cell ms [] (omega (arith, long, inside)) in
    record {
      long = length-set all cell ms ∙ long;
      done = λ j b less. elim (ℕ_discrete (slice_index d.order j) cell) [
        | yes e ↦ subst (λ k. get_or (get_or new k []) b false ≡ called_in table (pins_of pins) k b) (sym e) (ap (λ (l : List Bool). get_or l b false) at ∙ is b)
        | no m ↦ ap (λ (l : List Bool). get_or l b false) (get_or-set_other all cell (slice_index d.order j) ms [] m) ∙ h.done j b (not_last j less m)
      ];
    }
  where
    not_last : (j : ℕ) → j < n + 1 → (slice_index d.order j ≡ slice_index d.order n → ⊥) → j < n
    not_last j less m = elim (ℕ_discrete j n) [ yes e ↦ absurd (m (ap (slice_index d.order) e)) | no k ↦ omega arith ]

pub all_marked : (d : Linked) (table : List (Option CellCircuit)) (pins : List (Option CellPins)) (n : ℕ) (all : List (List Bool)) → IsOrder d → n ≡ length d.order → AreMarksTo d table pins n all → (cell b : ℕ) → IsReached (plain d) cell
    → get_or (get_or all cell []) b false ≡ called_in table (pins_of pins) cell b
all_marked d table pins n all order e h cell b reached =
    let at = order.all cell reached in
    let lt = at.1 in
    subst (λ k. get_or (get_or all k []) b false ≡ called_in table (pins_of pins) k b) at.2 (h.done at.0 b (omega (arith, e, lt)))
