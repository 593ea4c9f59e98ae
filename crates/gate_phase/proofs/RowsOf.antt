-- The row of a good gate.
use Rattle.std.proofs.Common.{◌≡◌, ◌⊎◌, ◌∙◌, inl, inr, ℕ, zero, suc, List, [], ◌∷◌, Option, Some, None, length, slice_get, refl, sym, ap, subst, arith}
use Rattle.std.proofs.lemmas.Option.{same_Some}
use Rattle.std.proofs.lemmas.Int.{ints}
use Rattle.geo_base.specs.declared.shapes.Square.{Square}
use Rattle.flat_layout.specs.Gates.{Alone, Beside, Edge, Form, InGate, InOneGroup, IsFirstNode, IsGoodGate, IsGroupNode, IsLeast, IsOtherNode, IsRegionNode, IsSecondNode, IsSourceFirst, IsTerminalNode, Region, Rule, Sides, TwoGroups, form_of, geometry, sheets}
use Rattle.flat_layout.specs.Parts.{IsBadForm, IsGoodForm, Sheets}
use Rattle.flat_layout.specs.GateTables.{IsVerdict, Verdict, counted_device}
use Rattle.flat_layout.specs.Layout.{Design}
use Rattle.flat_layout.specs.Nets.{NetHolds, Tables}
use Rattle.flat_layout.specs.Plane.{IsSquareBefore}
use Rattle.flat_layout.specs.Regions.{At, Node, Wiring, ground_of}
use Rattle.flat_laws.proofs.Devices.{formed_over, over_reversed}
use Rattle.net_model.specs.Rows.{ends_in, others_in}
use Rattle.plain_netlist.proofs.Rows.{over_each}
use Rattle.plain_netlist.specs.declared.kinds.DeviceKind.{DeviceKind}
use Rattle.plain_netlist.specs.declared.kinds.DeviceKind.TheVariants.{Mos4, ResistorWithBulk, Diode}
use Rattle.plain_netlist.specs.Devices.{AreEndsJoined, AreJoined, First, HasEnds, IsAt, Other, Second, Terminal, have_ends}
use Rattle.plain_netlist.specs.Flats.{Reversed}
use Rattle.plain_netlist.specs.Kinds.{has_ends, other_count}
use Rattle.gate_shapes.specs.Shapes.{IsShapeBy}
use Rattle.gate_shapes.specs.declared.shape.GateForm.{GateForm}
use Rattle.gate_shapes.specs.declared.shape.GateShape.{GateShape}
use Rattle.gate_shapes.specs.declared.shape.GateShape.TheVariants.{Bad, Good}
use Rattle.gate_phase.specs.Rows.{EntryLaw, HoldTerminals, IsVerdictOf, RowLaw, node_device}
use Rattle.gate_phase.specs.Terminals.{HoldNodes, IsOfRule, RuleGrounds, end_nodes, grounds_by, other_nodes, region_node, row_of}
use Rattle.gate_phase.specs.declared.device.Device.{Device}
use Rattle.flat_layout.specs.declared.cause.GateCause.{GateCause}

before_after : (p q r : Square) → IsSquareBefore p q → (q ≡ r) ⊎ IsSquareBefore q r → IsSquareBefore p r
before_after p q r h (inl e) = subst (IsSquareBefore p) e h
before_after p q r (inl a) (inr (inl b)) = inl (omega (arith, ints))
before_after p q r (inl a) (inr (inr b)) = let c = b.0 in inl (omega (arith, ints))
before_after p q r (inr a) (inr (inl b)) = let c = a.0 in inl (omega (arith, ints))
before_after p q r (inr a) (inr (inr b)) = let c = a.0 in let e = b.0 in let f = a.1 in let g = b.1 in inr ((omega (arith, ints)), (omega (arith, ints)))

-- the sides of a good region, and its nodes as those of its terminals
pub record HasNodes (k : DeviceKind) (d : Design) (w : Wiring) (u : Rule) (cell : ℕ) (s : Square) (f : GateForm) : Type 0 where
  pub sides : Sides
  pub good : IsGoodForm (form_of k) (sheets d w u cell) (InGate d (geometry w u) cell s) sides f.twice_w f.twice_l
  pub first : IsSourceFirst d w u cell s sides
  pub ends : (a b : Node) → HasEnds a b (end_nodes k u.ts f) → IsFirstNode d w u cell s sides a × IsSecondNode d w u cell s sides b
  pub others : (place : ℕ) (m : Node) → slice_get (other_nodes k u.ts u.tg u.tb (grounds_by w u) s) place ≡ Some m → IsOtherNode k d w u cell s place m

module _ (d : Design) (w : Wiring) (u : Rule) (cell : ℕ) (s : Square) where
  region_at : (c : ℕ) (q : Square) (o : Option ℕ) → ground_of c w.grounds ≡ o → InGate d (geometry w u) cell s q → IsRegionNode d w u cell s c (region_node c q o)
  region_at c q None is here = inr (is, (q, here, refl))
  region_at c q (Some g) is here = inl (g, is, refl)

  region_is : (c : ℕ) (m : Node) → InGate d (geometry w u) cell s s → Some (region_node c s (ground_of c w.grounds)) ≡ Some m → IsRegionNode d w u cell s c m
  region_is c m here e = subst (λ n. IsRegionNode d w u cell s c n) (same_Some (region_node c s (ground_of c w.grounds)) m e) (region_at c s (ground_of c w.grounds) refl here)

  other_at : (k : DeviceKind) → InGate d (geometry w u) cell s s → (place : ℕ) (m : Node) → slice_get (other_nodes k u.ts u.tg u.tb (grounds_by w u) s) place ≡ Some m → IsOtherNode k d w u cell s place m
  other_at Mos4 here zero m e = (s, here, same_Some (At u.tg s) m e)
  other_at Mos4 here (suc zero) m e = region_is u.tb m here e
  other_at Mos4 here (suc (suc j)) m e = absurd (let z : ⊥ = cc in z)
  other_at ResistorWithBulk here zero m e = region_is u.tb m here e
  other_at ResistorWithBulk here (suc j) m e = absurd (let z : ⊥ = cc in z)
  other_at Diode here zero m e = region_is u.ts m here e
  other_at Diode here (suc zero) m e = region_is u.tb m here e
  other_at Diode here (suc (suc j)) m e = absurd (let z : ⊥ = cc in z)

  group_at : (e : Edge) (q : Square) (m : Node) → InOneGroup d w u cell s e.outer q → m ≡ At u.ts q → IsGroupNode d w u cell s e m
  group_at e q m here is = (q, here, sym is)

  pub nodes_of : (k : DeviceKind) (f : GateForm) → IsShapeBy (form_of k) (sheets d w u cell) (InGate d (geometry w u) cell s) (Good f) → IsLeast (InGate d (geometry w u) cell s) s → HasNodes k d w u cell s f
  nodes_of Mos4 f shape least = record {
    sides = TwoGroups shape.source shape.drain;
    good = shape.form;
    first = (f.source, shape.least_source.has, λ q i. before_after f.source f.drain q shape.order (shape.least_drain.least q i));
    ends = λ a b h. (group_at shape.source f.source a shape.least_source.has h.0, group_at shape.drain f.drain b shape.least_drain.has h.1);
    others = other_at Mos4 least.has;
  }
  nodes_of ResistorWithBulk f shape least = record {
    sides = TwoGroups shape.source shape.drain;
    good = shape.form;
    first = (f.source, shape.least_source.has, λ q i. before_after f.source f.drain q shape.order (shape.least_drain.least q i));
    ends = λ a b h. (group_at shape.source f.source a shape.least_source.has h.0, group_at shape.drain f.drain b shape.least_drain.has h.1);
    others = other_at ResistorWithBulk least.has;
  }
  nodes_of Diode f shape least = record { sides = Region; good = shape.form; first = tt; ends = λ a b h. absurd h; others = other_at Diode least.has }

  -- by terminal
  pub node_at : (f : GateForm) (n : HasNodes u.kind d w u cell s f) (place : Terminal) (m : Node) → IsAt place (node_device w u s f) m → IsTerminalNode d w u cell s n.sides place m
  node_at f n First m (b, h) = (n.ends m b h).0
  node_at f n Second m (b, h) = (n.ends b m h).1
  node_at f n (Other place) m h = n.others place m h

ends_formed : (k : DeviceKind) (ts : ℕ) (f : GateForm) → have_ends (end_nodes k ts f) ≡ has_ends k
ends_formed Mos4 ts f = refl
ends_formed ResistorWithBulk ts f = refl
ends_formed Diode ts f = refl

others_formed : (k : DeviceKind) (ts tg tb : ℕ) (g : RuleGrounds) (s : Square) → length (other_nodes k ts tg tb g s) ≡ other_count k
others_formed Mos4 ts tg tb g s = refl
others_formed ResistorWithBulk ts tg tb g s = refl
others_formed Diode ts tg tb g s = refl

pub row : RowLaw
row d w t u cell s f r shape least holds =
    let n = nodes_of d w u cell s u.kind f shape least in
    let over = NetHolds d t cell in
    let here = counted_device u r in
    let nodes = node_device w u s f in
    let sizes : r.twice_l ∷ r.twice_w ∷ [] ≡ f.twice_l ∷ f.twice_w ∷ [] = holds.sizes in
    let long : f.twice_l ≡ r.twice_l = cc in
    let wide : f.twice_w ≡ r.twice_w = cc in
    record {
      sides = n.sides;
      good = subst (λ k. IsGoodGate d w u cell s n.sides k r.twice_l) wide (subst (λ k. IsGoodGate d w u cell s n.sides f.twice_w k) long n.good);
      first = n.first;
      kind = holds.kind;
      formed = formed_over (Reversed over) nodes here (over_reversed over here nodes holds) (record { ends = ends_formed u.kind u.ts f; others = others_formed u.kind u.ts u.tg u.tb (grounds_by w u) s; sizes = refl });
      nets = λ place x i. let m = over_each over here nodes holds place x i in (m.0, node_at d w u cell s f n place m.0 m.1, m.2);
    }

-- nets that hold the nodes of a device are the terminals of a gate of its rule
pub hold : (d : Design) (w : Wiring) (t : Tables) (u : Rule) (cell : ℕ) (x : Device) (g : RuleGrounds) (least : Square) (f : GateForm) (nets : List ℕ) → IsOfRule u x → grounds_by w u ≡ g → HoldNodes d t x cell g least f nets
    → HoldTerminals d w t u cell least f (row_of x.kind f nets)
hold d w t u cell x g least f nets of at holds = record {
  kind = sym of.kind;
  class = refl;
  sizes = refl;
  ends = subst (λ e. AreEndsJoined (NetHolds d t cell) (ends_in x.kind nets) e) (ap (λ k. end_nodes k x.ts f) (sym of.kind) ∙ ap (λ c. end_nodes u.kind c f) (sym of.ts)) holds.ends;
  others = subst (λ l. AreJoined (NetHolds d t cell) (others_in x.kind nets) l)
      (ap (λ k. other_nodes k x.ts x.tg x.tb g least) (sym of.kind) ∙ ap (λ c. other_nodes u.kind c x.tg x.tb g least) (sym of.ts) ∙ ap (λ c. other_nodes u.kind u.ts c x.tb g least) (sym of.tg)
      ∙ ap (λ c. other_nodes u.kind u.ts u.tg c g least) (sym of.tb) ∙ ap (λ v. other_nodes u.kind u.ts u.tg u.tb v least) (sym at)) holds.others;
}

by_form : (form : Form) (g : Sheets) (part : Square → Type 0) (c : GateCause) → IsShapeBy form g part (Bad c) → IsBadForm form g part c
by_form Beside g part c h = h
by_form Alone g part c h = h

verdict_of : (d : Design) (w : Wiring) (t : Tables) (u : Rule) (cell : ℕ) (least : Square) (shape : GateShape) (v : Verdict) → IsShapeBy (form_of u.kind) (sheets d w u cell) (InGate d (geometry w u) cell least) shape → IsLeast (InGate d (geometry w u) cell least) least
    → IsVerdictOf d w t u cell least shape v → IsVerdict d w t u cell least v
verdict_of d w t u cell least (Good f) v is first (r, e, holds) = subst (IsVerdict d w t u cell least) (sym e) (row d w t u cell least f r is first holds)
verdict_of d w t u cell least (Bad c) v is first e = subst (IsVerdict d w t u cell least) (sym e) (by_form (form_of u.kind) (sheets d w u cell) (InGate d (geometry w u) cell least) c is)

pub entry : EntryLaw
entry d w t rules n u cell x v at own is = record {
  rule = u;
  is = at;
  gate = own.listed;
  least = own.least;
  verdict = verdict_of d w t u cell x.least x.shape v own.shape own.least is;
}
