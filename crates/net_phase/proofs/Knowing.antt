-- The nets of reached cells, one after the other.
use Rattle.std.proofs.Common.{◌≡◌, ℕ, ◌<◌, ◌+◌, List, Option, Some, None, get_or, length, length-set, slice_index, sym, ◌∙◌, ap, subst, arith}
use Rattle.std.proofs.Math.Decide.{ℕ_discrete}
use Rattle.std.proofs.lemmas.List.{get_or-set_other, get_or-set_same}
use Rattle.std.specs.Prelude.{set}
use Rattle.cell_graph.specs.Linked.{IsOrder, Linked, plain}
use Rattle.deep_tables.proofs.Reading.{some_and}
use Rattle.deep_tables.specs.Entries.{entry}
use Rattle.deep_tables.specs.Nets.{AreCellNets, AreNets, AreRightNets, nets_in}
use Rattle.deep_tables.specs.declared.nets.CellNets.{CellNets}
use Rattle.flat_layout.specs.Layout.{IsReached}
use Rattle.flat_layout.specs.Nets.{IsNetsOf}
use Rattle.geo_base.specs.declared.shapes.Rect.{Rect}
use Rattle.net_phase.proofs.Righting.{tables_by}
use Rattle.net_phase.specs.Own.{AreOwnLists}
use Rattle.rule_layers.specs.Meaning.{wiring_of}
use Rattle.rule_text.specs.Rules.{Rules}

-- those of the first n cells of the order
pub record AreKnownTo (d : Linked) (table : List (Option CellNets)) (n : ℕ) (known : List (Option CellNets)) : Type 0 where
  pub long : length known ≡ length d.cells
  pub done : (j : ℕ) → j < n → get_or known (slice_index d.order j) None ≡ entry table (slice_index d.order j)

pub none_known : (d : Linked) (table known : List (Option CellNets)) → length known ≡ length d.cells → AreKnownTo d table 0 known
none_known d table known long = record { long = long; done = λ j lt. absurd (omega arith) }

pub one_known : (d : Linked) (table known : List (Option CellNets)) (n : ℕ) (v : CellNets) → IsOrder d → n < length d.order → AreKnownTo d table n known → entry table (slice_index d.order n) ≡ Some v → AreKnownTo d table (n + 1) (set known (slice_index d.order n) (Some v))
one_known d table known n v order lt h is =
    let cell = slice_index d.order n in
    let new = set known cell (Some v) in
    let long = h.long in
    let inside = order.inside n lt in
    let at : get_or new cell None ≡ Some v = get_or-set_same known cell (Some v) None (omega (arith, long, inside)) in
    record {
      long = length-set known cell (Some v) ∙ long;
      done = λ j less. elim (ℕ_discrete (slice_index d.order j) cell) [
        | yes e ↦ subst (λ k. get_or new k None ≡ entry table k) (sym e) (at ∙ sym is)
        | no m ↦ get_or-set_other known cell (slice_index d.order j) (Some v) None m ∙ h.done j (not_last j less m)
      ];
    }
  where
    not_last : (j : ℕ) → j < n + 1 → (slice_index d.order j ≡ slice_index d.order n → ⊥) → j < n
    not_last j less m = elim (ℕ_discrete j n) [ yes e ↦ absurd (m (ap (slice_index d.order) e)) | no k ↦ omega arith ]

pub all_known : (d : Linked) (table known : List (Option CellNets)) (n : ℕ) → IsOrder d → n ≡ length d.order → AreKnownTo d table n known → (cell : ℕ) → IsReached (plain d) cell → get_or known cell None ≡ entry table cell
all_known d table known n order e h cell reached =
    let at = order.all cell reached in
    let lt = at.1 in
    subst (λ k. get_or known k None ≡ entry table k) at.2 (h.done at.0 (omega (arith, e, lt)))

-- right rectangles and the nets of a right table are right nets
pub right_known : (d : Linked) (r : Rules) (all : List (List (List Rect))) (table known : List (Option CellNets)) → AreOwnLists d r all → AreNets (plain d) r table
    → ((cell : ℕ) → IsReached (plain d) cell → get_or known cell None ≡ entry table cell) → AreRightNets (plain d) (wiring_of r) (tables_by all known)
right_known d r all table known own nets same = record {
  own = own.reached;
  nets = λ cell reached.
      let v = some_and (AreCellNets (plain d) r cell) (entry table cell) (nets cell reached) in
      subst (λ o. IsNetsOf (plain d) (wiring_of r) cell (nets_in o)) (sym (same cell reached ∙ v.1)) v.2;
}
