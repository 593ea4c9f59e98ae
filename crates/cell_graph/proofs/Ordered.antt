-- A sound design's heights are levels, and its order is that of the plain layout.
use Rattle.std.proofs.Common.{◌≡◌, ◌⊎◌, inl, inr, ℕ, suc, ◌<◌, Option, Some, None, length, slice_get, slice_index, refl, sym, ◌∙◌, ap, subst, arith}
use Rattle.std.proofs.Math.Decide.{ℕ_discrete}
use Rattle.std.proofs.lemmas.Option.{slice_get_within, slice_get-get_or}
use Rattle.flat_layout.specs.Layout.{IsPlaced, IsReached}
use Rattle.flat_layout.specs.Layout as flat
use Rattle.flat_layout.specs.Order.{IsCellBefore}
use Rattle.plain_netlist.specs.Lists.{IsListed}
use Rattle.plain_netlist.proofs.Members.{listed, position}
use Rattle.plain_netlist.proofs.Listing.{at_rising}
use Rattle.cell_graph.specs.Laws.{LevelLaw, OrderLaw}
use Rattle.cell_graph.specs.Linked.{cell_at, height_at, height_of, places_at, plain}
use Rattle.cell_graph.specs.declared.cells.CellPart.{CellPart}
use Rattle.cell_graph.proofs.Bridge.{heights, placed_of, reference_at}

pub levels : LevelLaw
levels d sound = record { lower = heights d sound; some = λ cell. by cell (cell_at d cell) refl }
  where
    by : (cell : ℕ) (o : Option CellPart) → cell_at d cell ≡ o → (height_at d cell ≡ 0) ⊎ ((k : ℕ) × (p : flat.Place) × IsPlaced (plain d) cell k p × (height_at d cell ≡ suc (height_at d p.cell)))
    by cell None e = inl (ap height_of e)
    by cell (Some c) e = elim (sound.levels.just cell c e) [
      | inl z ↦ inl (ap height_of e ∙ z)
      | inr h ↦
          let from = subst (λ o. slice_get (places_at o) h.number ≡ Some h.place) (sym e) h.from in
          let r = (reference_at d cell h.number h.place sound from).2 in
          inr (
            _,
            _,
            placed_of d cell h.number 0 0 h.place (record { there = from; row_in = r.rows; column_in = r.columns }),
            ap height_of e ∙ h.just ∙ ap suc (sym (ap height_of h.there)),
          )
    ]

pub order : OrderLaw
order d sound = record {
  each = λ cell. (
    (λ l. let at = position d.order cell l in (on at.0 cell at.1, tt)),
    (λ r. let at = sound.order.all cell r.0 in
        subst (λ x. IsListed x d.order) at.2 (listed d.order at.0 (slice_index d.order at.0) (slice_get-get_or d.order at.0 0 at.1))),
  );
  rising = at_rising (IsCellBefore (height_at d)) d.order (λ i j a b lt at_i at_j.
      let in_j = slice_get_within d.order j b at_j in
      let in_i : i < length d.order = omega arith in
      let same_a : slice_index d.order i ≡ a = (let f : Some (slice_index d.order i) ≡ Some a = sym (slice_get-get_or d.order i 0 in_i) ∙ at_i in cc) in
      let same_b : slice_index d.order j ≡ b = (let f : Some (slice_index d.order j) ≡ Some b = sym (slice_get-get_or d.order j 0 in_j) ∙ at_j in cc) in
      subst (λ x. IsCellBefore (height_at d) x b) same_a (subst (λ y. IsCellBefore (height_at d) (slice_index d.order i) y) same_b
      (before i j lt in_j)));
}
  where
    on : (k cell : ℕ) → slice_get d.order k ≡ Some cell → IsReached (plain d) cell
    on k cell at =
        let lt = slice_get_within d.order k cell at in
        let same : slice_index d.order k ≡ cell = (let f : Some (slice_index d.order k) ≡ Some cell = sym (slice_get-get_or d.order k 0 lt) ∙ at in cc) in
        subst (λ x. IsReached (plain d) x) same (sound.order.reached k lt)

    before : (i j : ℕ) → i < j → j < length d.order → IsCellBefore (height_at d) (slice_index d.order i) (slice_index d.order j)
    before i j lt in_j =
        let up = sound.order.rising i j lt in_j in
        elim (ℕ_discrete (height_at d (slice_index d.order i)) (height_at d (slice_index d.order j))) [
          | yes e ↦ inr (e, sound.levels.filed i j lt in_j e)
          | no n ↦ inl (omega arith)
        ]
