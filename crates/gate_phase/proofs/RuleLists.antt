-- The entries of a cell's list, one device rule after the other.
use Rattle.std.proofs.Common.{◌≡◌, ◌⊎◌, inl, inr, ℕ, ◌+◌, ◌++◌, List, [], ◌∷◌, Some, slice_get, refl, sym, ◌∙◌, ap, subst, arith}
use Rattle.std.proofs.Math.Decide.{ℕ_discrete}
use Rattle.std.proofs.lemmas.Option.{slice_get_within}
use Rattle.geo_base.specs.declared.shapes.Square.{Square}
use Rattle.flat_layout.specs.Gates.{InGate, IsListedGate, IsSettled, IsGateBelow, Rule, geometry}
use Rattle.flat_layout.specs.GateTables.{GateEntry, GateSquare, IsGateBefore, IsGateEntry}
use Rattle.flat_layout.specs.Layers.{InFlat}
use Rattle.flat_layout.specs.Layout.{Design}
use Rattle.flat_layout.specs.Nets.{Tables}
use Rattle.flat_layout.specs.Parts.{InPart, IsStep}
use Rattle.flat_layout.specs.Regions.{Wiring}
use Rattle.plain_netlist.specs.Lists.{AreRising, IsListed}
use Rattle.plain_netlist.proofs.Links.{back}
use Rattle.plain_netlist.proofs.Listing.{at_rising}
use Rattle.plain_netlist.proofs.Members.{either_side, in_left, in_right, listed, position}
use Rattle.deep_tables.proofs.Reading.{beside}
use Rattle.gate_shapes.proofs.Joined.{step_back}
use Rattle.gate_shapes.proofs.PartsOf.{end_in}
use Rattle.gate_phase.specs.Own.{AreOwnGates}
use Rattle.gate_phase.specs.Rows.{AreEntriesOf, AreGatesTo, GateListLaw}
use Rattle.gate_phase.specs.declared.own.OwnGate.{OwnGate}
use Rattle.gate_phase.proofs.Numbering.{one_rule}
use Rattle.gate_phase.proofs.RowsOf.{entry}

-- a part by any of its squares
part_back : (F : Square → Type 0) (s q : Square) → InPart F s q → InPart F q s
part_back F s q h = record { from = end_in F s q h.joined.via h.from h.joined.chain; joined = back (IsStep F) (step_back F) s q h.joined }

rising_both : {A : Type 0} (R : A → A → Type 0) (xs ys : List A) → AreRising R xs → AreRising R ys → ((a b : A) → IsListed a xs → IsListed b ys → R a b) → AreRising R (xs ++ ys)
rising_both R [] ys h g cross = g
rising_both R (x ∷ xs) ys h g cross = (
  (λ y l. elim (either_side xs ys y l) [ inl a ↦ h.0 y a | inr b ↦ cross x y (inl refl) b ]),
  rising_both R xs ys h.1 g (λ a b l m. cross a b (inr l) m),
)

module _ (d : Design) (w : Wiring) (t : Tables) (rules : List Rule) (n cell : ℕ) (u : Rule) (own : List OwnGate) (v es : List GateEntry) (h : AreGatesTo d w t rules n cell v) (at : slice_get rules n ≡ Some u) (are : AreOwnGates d w u cell own)
    (of : AreEntriesOf d w t u n cell own es) where
  -- the gate of an entry
  own_of : (e : GateEntry) → IsListed e es → (i : ℕ) × (slice_get es i ≡ Some e) × (x : OwnGate) × (slice_get own i ≡ Some x)
  own_of e l = let p = position es e l in let b = beside es own p.0 e p.1 (sym of.count) in (p.0, p.1, b.0, b.1)

  new_rule : (e : GateEntry) → IsListed e es → e.at.rule ≡ n
  new_rule e l = let o = own_of e l in ap (λ (g : GateSquare). g.rule) (of.at o.0 o.2 e o.3 o.1)

  new_entry : (e : GateEntry) → IsListed e es → IsGateEntry d w t rules cell e
  new_entry e l =
      let o = own_of e l in
      subst (λ (g : GateSquare). IsGateEntry d w t rules cell (record { at = g; verdict = e.verdict })) (sym (of.at o.0 o.2 e o.3 o.1))
      (entry d w t rules n u cell o.2 e.verdict at (are.each o.0 o.2 o.3) (of.verdicts o.0 o.2 e o.3 o.1))

  new_found : (s : Square) → IsListedGate d (geometry w u) cell s → (x : GateEntry) × IsListed x (v ++ es) × (x.at.rule ≡ n) × InGate d (geometry w u) cell s x.at.square
  new_found s is =
      let f = are.found s is in
      let b = beside own es f.0 f.1 f.2 of.count in
      let same = of.at f.0 f.1 b.0 f.2 b.1 in
      let here : InGate d (geometry w u) cell f.1.least s = ((are.each f.0 f.1 f.2).area s).0 f.3 in
      (b.0, in_right v es b.0 (listed es f.0 b.0 b.1), ap (λ (g : GateSquare). g.rule) same, subst (λ (q : Square). InGate d (geometry w u) cell s q) (sym (ap (λ (g : GateSquare). g.square) same)) (part_back (InFlat d cell u.gate) f.1.least s here))

  new_rising : AreRising (λ x y. IsGateBefore x.at y.at) es
  new_rising = at_rising (λ (x : GateEntry) (y : GateEntry). IsGateBefore x.at y.at) es (λ i j a b lt at_a at_b.
      let x = beside es own i a at_a (sym of.count) in let y = beside es own j b at_b (sym of.count) in
      subst (λ (g : GateSquare). IsGateBefore g b.at) (sym (of.at i x.0 a x.1 at_a))
      (subst (λ (g : GateSquare). IsGateBefore (record { rule = n; square = x.0.least }) g) (sym (of.at j y.0 b y.1 at_b)) (inr (refl, are.rising i j x.0 y.0 lt x.1 y.1))))

  next_rule : AreGatesTo d w t rules (n + 1) cell (v ++ es)
  next_rule = record {
    each = λ x l. elim (either_side v es x l) [ inl a ↦ h.each x a | inr b ↦ new_entry x b ];
    first = λ x l. elim (either_side v es x l) [ inl a ↦ let lt = h.first x a in omega arith | inr b ↦ let e = new_rule x b in omega arith ];
    found = λ r u' s lt there is. elim (ℕ_discrete r n) [
      | yes e ↦
          let same : u' ≡ u = one_rule (slice_get rules n) u' u (subst (λ k. slice_get rules k ≡ Some u') e there) at in
          let f = new_found s (subst (λ (y : Rule). IsListedGate d (geometry w y) cell s) same is) in
          (f.0, f.1, f.2 ∙ sym e, subst (λ (y : Rule). InGate d (geometry w y) cell s f.0.at.square) (sym same) f.3)
      | no not ↦ let f = h.found r u' s (omega arith) there is in (f.0, in_left v es f.0 f.1, f.2, f.3)
    ];
    rising = rising_both (λ x y. IsGateBefore x.at y.at) v es h.rising new_rising (λ a b l m. let lt = h.first a l in let e = new_rule b m in inl (omega arith));
    parted = λ r u' s lt there settled. elim (ℕ_discrete r n) [
      | yes e ↦
          let same : u' ≡ u = one_rule (slice_get rules n) u' u (subst (λ k. slice_get rules k ≡ Some u') e there) at in
          subst (λ (y : Rule). IsListedGate d (geometry w y) cell s ⊎ IsGateBelow d (geometry w y) cell s) (sym same) (are.parted s (subst (λ (y : Rule). IsSettled d (geometry w y) cell s) same settled))
      | no not ↦ h.parted r u' s (omega arith) there settled
    ];
  }

pub gate_lists : GateListLaw
gate_lists = record {
  none = λ d w t rules cell. record {
    each = λ x l. absurd l;
    first = λ x l. absurd l;
    found = λ r u s lt. absurd (let z : ⊥ = omega arith in z);
    rising = tt;
    parted = λ r u s lt. absurd (let z : ⊥ = omega arith in z);
  };
  next = λ d w t rules n cell u own v es h at are of. next_rule d w t rules n cell u own v es h at are of;
  all = λ d w t rules cell v h. record {
    each = h.each;
    found = λ r u s at is. h.found r u s (slice_get_within rules r u at) at is;
    rising = h.rising;
    parted = λ r u s at settled. h.parted r u s (slice_get_within rules r u at) at settled;
  };
}
