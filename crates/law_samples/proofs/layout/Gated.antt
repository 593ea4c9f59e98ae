-- The gates of the design with transistors: the child's is settled in the child, the one across both only in the parent.
use Rattle.std.proofs.Common.{◌≡◌, ◌⊎◌, inl, inr, ℕ, zero, suc, ◌<◌, refl, sym, ◌∙◌, ap, subst, arith}
use Rattle.std.proofs.lemmas.Int.{ints}
use Rattle.geo_base.specs.Motions.{moved_square}
use Rattle.geo_base.specs.declared.shapes.Square.{Square}
use Rattle.flat_laws.proofs.Formed.{read_layers}
use Rattle.flat_laws.proofs.Names.{still}
use Rattle.flat_laws.proofs.Once.{top_settled}
use Rattle.flat_laws.proofs.Leaving.{calm_unstirred, settled_calm}
use Rattle.flat_layout.specs.Gates.{IsSettled, IsGateBelow, IsListedGate}
use Rattle.flat_layout.specs.Plane.{IsAround}
use Rattle.law_samples.proofs.layout.Columns.{one_place, lower_cell, placed_here, no_place, levels, moved_column, one_column}
use Rattle.law_samples.proofs.layout.Lone.{InG, geo, gate_is, gate_self}
use Rattle.law_samples.proofs.layout.Sides.{gates_odd, child_gate, across_gate, disturbed_near}
use Rattle.law_samples.specs.Sample.{sample_level}
use Rattle.law_samples.specs.Transistors.{at, mirror_place, gate_design, gate_wiring, rule}

pub child_settled : IsSettled gate_design geo 0 (at 1)
child_settled = settled_calm gate_design refl geo 0 (at 1) (read_layers gate_wiring rule).gate child_gate (λ q close. calm_unstirred gate_design geo.keys geo.reach 0 q (λ h.
    let e = gate_is 0 (at 1) close.square close.in_part in
    let near : IsAround (at 1) q = subst (λ k. IsAround k q) (sym e) close.around in
    let far = disturbed_near geo.keys q ((still gate_design geo.keys 0 q).0 h) in
    let right = near.left in
    let x = ap (λ (k : Square). k.x) far.2 in
    let lt = far.1 in
    absurd (omega (arith, ints))))

across_settled : IsSettled gate_design geo 1 (at 1)
across_settled = top_settled gate_design geo sample_level levels.lower (at 1) across_gate

none_below : (s : Square) → IsGateBelow gate_design geo 0 s → ⊥
none_below s h = no_place 0 h.number h.place refl h.placed

settled_one : (s : Square) → IsSettled gate_design geo 0 s → s ≡ at 1
settled_one s h = elim (gates_odd 0 s h.is) [ inl e ↦ e | inr f ↦ (let g = f.0 in absurd (omega arith)) ]

below_three : (s : Square) → IsGateBelow gate_design geo 1 s → s ≡ at 3
below_three s h =
    let low = lower_cell 1 h.number h.place h.placed in
    let e = settled_one h.square (subst (λ k. IsSettled gate_design geo k h.square) low h.settled) in
    gate_is 1 s (moved_square h.place.motion h.square) h.image ∙ ap (moved_square h.place.motion) e ∙ moved_column h.place 1 3 (one_place 1 h.number h.place h.placed).2 refl

-- the child's gate, seen in the parent
below : InG 1 (at 3) → IsGateBelow gate_design geo 1 (at 3)
below g = record { number = 0; place = mirror_place; square = at 1; placed = placed_here; settled = child_settled; image = gate_self 1 (at 3) (moved_square mirror_place.motion (at 1)) g (sym (moved_column mirror_place 1 3 refl refl)) }

pub child_gate_of : IsListedGate gate_design geo 0 (at 1)
child_gate_of = record { settled = child_settled; new = none_below (at 1) }

pub across_gate_of : IsListedGate gate_design geo 1 (at 1)
across_gate_of = record { settled = across_settled; new = λ h. let e = one_column 1 3 (below_three (at 1) h) in absurd (omega arith) }

-- and these are all
pub child_only : (s : Square) → IsListedGate gate_design geo 0 s → s ≡ at 1
child_only s h = settled_one s h.settled

pub across_only : (s : Square) → IsListedGate gate_design geo 1 s → s ≡ at 1
across_only s h =
    elim (gates_odd 1 s h.settled.is) [
      | inl e ↦ e
      | inr f ↦ absurd (h.new (subst (IsGateBelow gate_design geo 1) (sym f.1) (below (subst (InG 1) f.1 h.settled.is))))
    ]

pub gates_parted : (cell : ℕ) (s : Square) → cell < 2 → IsSettled gate_design geo cell s → IsListedGate gate_design geo cell s ⊎ IsGateBelow gate_design geo cell s
gates_parted zero s lt h = inl (subst (IsListedGate gate_design geo 0) (sym (settled_one s h)) child_gate_of)
gates_parted (suc zero) s lt h =
    elim (gates_odd 1 s h.is) [
      | inl e ↦ inl (subst (IsListedGate gate_design geo 1) (sym e) across_gate_of)
      | inr f ↦ inr (subst (IsGateBelow gate_design geo 1) (sym f.1) (below (subst (InG 1) f.1 h.is)))
    ]
gates_parted (suc (suc n)) s lt h = absurd (omega arith)
