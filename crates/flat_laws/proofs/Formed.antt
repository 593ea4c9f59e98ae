-- The image of a settled gate is good with the same sizes, or bad for the same cause.
use Rattle.std.proofs.Common.{◌≡◌, ◌↔◌, inl, inr, ℕ, zero, suc, max, ◌≤◌, List, [], ◌∷◌, ◌++◌, refl, sym, ◌∙◌, ap, subst, map, arith}
use Rattle.std.proofs.Math.Nat.{le-max_left, le-max_right}
use Rattle.std.proofs.lemmas.List.{length-map}
use Rattle.flat_laws.specs.GateLaws.{IsReadWhole, KeptFormLaw, ReadLayersLaw}
use Rattle.flat_layout.specs.Gates.{Rule, Geometry, geometry, gate_inputs, IsReadBy, IsStep, InGate, IsGateOrRing, InRing, IsSettled, InSide, InOneGroup, Edge, IsBorder, IsWide, IsLong, AreGroups, IsGoodGate, IsTerminalNode, IsBadGate, Sides, TwoGroups, Region, Form, Beside, Alone, form_of, gate_sheet, sheets, IsRegionNode, IsGroupNode, IsOtherNode, moved_edge, moved_sides}
use Rattle.flat_layout.specs.Layers.{Formula, inputs, reach, InFlat}
use Rattle.flat_layout.specs.Layout.{Place, Design, Some_of, IsPlaced, IsReached}
use Rattle.flat_layout.specs.Parts.{Edges, AllOn, SomeOff, InEnds, IsGoodPart, IsBadPart, IsGoodArea, IsBadArea, IsGoodForm, IsBadForm}
use Rattle.flat_layout.specs.Regions.{Wiring, Node, At, Ground, moved, formula}
use Rattle.geo_base.specs.declared.layer.LayerKey.{LayerKey}
use Rattle.geo_base.specs.Motions.{moved_square}
use Rattle.geo_base.specs.declared.shapes.Square.{Square}
use Rattle.plain_netlist.specs.Chains.{IsChain, Reaches}
use Rattle.plain_netlist.specs.declared.kinds.DeviceKind.{DeviceKind}
use Rattle.plain_netlist.specs.declared.kinds.DeviceKind.TheVariants.{Mos4, ResistorWithBulk, Diode}
use Rattle.plain_netlist.specs.Devices.{Terminal, First, Second, Other}
use Rattle.flat_laws.proofs.Paths.{moved_square-injective}
use Rattle.flat_laws.proofs.Names.{more_left, more_right}
use Rattle.plain_netlist.proofs.Links.{single, along}
use Rattle.flat_laws.proofs.Moves.{edges, onto}
use Rattle.flat_laws.proofs.Joints.{last_in}
use Rattle.flat_laws.proofs.Mapped.{counts_map, classes_map, chain_down}
use Rattle.flat_laws.proofs.Kept.{close_in, close_by, same_read, gate_up, gate_down, squares, ring}
use Rattle.flat_layout.specs.declared.cause.GateCause.{GateCause}
use Rattle.flat_layout.specs.declared.cause.GateCause.TheVariants.{Groups, OffGate, OffSd, NoBulk, NoLength}

-- some gate square is off the conductor; each square of the two groups is on that of source and drain; some isn't
abbrev IsGateOff : Design → Wiring → Rule → ℕ → Square → ℕ → Type 0
IsGateOff d w u cell s c = SomeOff (InGate d (geometry w u) cell s) (InFlat d cell (formula w c))

abbrev AreEndsOn : Design → Wiring → Rule → ℕ → Square → Edge → Edge → Type 0
AreEndsOn d w u cell s e f = AllOn (InEnds (InGate d (geometry w u) cell s) (InFlat d cell u.sd) e f) (InFlat d cell (formula w u.ts))

abbrev AreEndsOff : Design → Wiring → Rule → ℕ → Square → Edge → Edge → Type 0
AreEndsOff d w u cell s e f = SomeOff (InEnds (InGate d (geometry w u) cell s) (InFlat d cell u.sd) e f) (InFlat d cell (formula w u.ts))

abbrev AreIn : List LayerKey → List LayerKey → Type 0
AreIn xs ys = (key : LayerKey) → Some_of (λ k. k ≡ key) xs → Some_of (λ k. k ≡ key) ys

sd_in : (w : Wiring) (u : Rule) → AreIn (inputs u.sd) (gate_inputs w u)
sd_in w u key h = more_left (λ k. k ≡ key) (inputs u.sd) _ h

gate_in : (w : Wiring) (u : Rule) → AreIn (inputs u.gate) (gate_inputs w u)
gate_in w u key h = more_right (λ k. k ≡ key) (inputs u.sd) _ (more_left (λ k. k ≡ key) (inputs u.gate) _ h)

well_in : (w : Wiring) (u : Rule) → AreIn (inputs u.well) (gate_inputs w u)
well_in w u key h = more_right (λ k. k ≡ key) (inputs u.sd) _ (more_right (λ k. k ≡ key) (inputs u.gate) _ (more_left (λ k. k ≡ key) (inputs u.well) _ h))

abbrev tail_ts : Wiring → Rule → List LayerKey
tail_ts w u = inputs (formula w u.ts) ++ (inputs (formula w u.tg) ++ inputs (formula w u.tb))

well_more : (w : Wiring) (u : Rule) (key : LayerKey) → Some_of (λ k. k ≡ key) (tail_ts w u) → Some_of (λ k. k ≡ key) (gate_inputs w u)
well_more w u key h = more_right (λ k. k ≡ key) (inputs u.sd) _ (more_right (λ k. k ≡ key) (inputs u.gate) _ (more_right (λ k. k ≡ key) (inputs u.well) _ h))

ts_in : (w : Wiring) (u : Rule) → AreIn (inputs (formula w u.ts)) (gate_inputs w u)
ts_in w u key h = well_more w u key (more_left (λ k. k ≡ key) (inputs (formula w u.ts)) _ h)

tg_in : (w : Wiring) (u : Rule) → AreIn (inputs (formula w u.tg)) (gate_inputs w u)
tg_in w u key h = well_more w u key (more_right (λ k. k ≡ key) (inputs (formula w u.ts)) _ (more_left (λ k. k ≡ key) (inputs (formula w u.tg)) _ h))

tb_in : (w : Wiring) (u : Rule) → AreIn (inputs (formula w u.tb)) (gate_inputs w u)
tb_in w u key h = well_more w u key (more_right (λ k. k ≡ key) (inputs (formula w u.ts)) _ (more_right (λ k. k ≡ key) (inputs (formula w u.tg)) _ h))

-- one of six numbers is at most their greatest
module _ (a b c e f g : ℕ) where
  abbrev five : ℕ
  five = max b (max c (max e (max f g)))

  abbrev four : ℕ
  four = max c (max e (max f g))

  first_most : a ≤ max a five
  first_most = le-max_left a five

  later : (n : ℕ) → n ≤ five → n ≤ max a five
  later n h = let k = le-max_right a five in omega arith

  second_most : b ≤ max a five
  second_most = later b (le-max_left b four)

  later_still : (n : ℕ) → n ≤ four → n ≤ max a five
  later_still n h = later n (let k = le-max_right b four in omega arith)

  third_most : c ≤ max a five
  third_most = later_still c (le-max_left c (max e (max f g)))

  last_three : (n : ℕ) → n ≤ max e (max f g) → n ≤ max a five
  last_three n h = later_still n (let k = le-max_right c (max e (max f g)) in omega arith)

  fourth_most : e ≤ max a five
  fourth_most = last_three e (le-max_left e (max f g))

  fifth_most : f ≤ max a five
  fifth_most = last_three f (let k = le-max_right e (max f g) in let j = le-max_left f g in omega arith)

  sixth_most : g ≤ max a five
  sixth_most = last_three g (let k = le-max_right e (max f g) in let j = le-max_right f g in omega arith)

pub read_layers : ReadLayersLaw
read_layers w u =
    let a = reach u.sd in let b = reach u.gate in let c = reach u.well in let e = reach (formula w u.ts) in let f = reach (formula w u.tg) in let g = reach (formula w u.tb) in
    record {
      sd = record { keys = sd_in w u; reach = first_most a b c e f g };
      gate = record { keys = gate_in w u; reach = second_most a b c e f g };
      well = record { keys = well_in w u; reach = third_most a b c e f g };
      ts = record { keys = ts_in w u; reach = fourth_most a b c e f g };
      tg = record { keys = tg_in w u; reach = fifth_most a b c e f g };
      tb = record { keys = tb_in w u; reach = sixth_most a b c e f g };
    }

module _ (d : Design) (w : Wiring) (u : Rule) (cell k : ℕ) (p : Place) (s : Square) (reached : IsReached d cell) (placed : IsPlaced d cell k p) (settled : IsSettled d (geometry w u) p.cell s) where
  abbrev geo : Geometry
  geo = geometry w u

  abbrev f : Square → Square
  f = moved_square p.motion

  whole : IsReadWhole w u
  whole = read_layers w u

  same : (name : Formula) → IsReadBy geo name → (q : Square) → IsGateOrRing d geo p.cell s q → InFlat d cell name (f q) ↔ InFlat d p.cell name q
  same = same_read d geo whole.gate cell k p s reached placed settled

  rings : (q : Square) → InRing d geo cell (f s) (f q) ↔ InRing d geo p.cell s q
  rings = ring d geo whole.gate cell k p s reached placed settled

  gates_up : (q : Square) → InGate d geo p.cell s q → InGate d geo cell (f s) (f q)
  gates_up = gate_up d geo whole.gate cell k p s reached placed settled

  gates_down : (q : Square) → InGate d geo cell (f s) q → (c : Square) × (f c ≡ q) × InGate d geo p.cell s c
  gates_down = gate_down d geo whole.gate cell k p s reached placed settled

  members : (q : Square) → InGate d geo cell (f s) (f q) ↔ InGate d geo p.cell s q
  members = squares d geo whole.gate cell k p s reached placed settled

  ones : (a c : Square) → f a ≡ f c → a ≡ c
  ones a c e = moved_square-injective p.motion a c e

  sides : (q : Square) → InSide d w u cell (f s) (f q) ↔ InSide d w u p.cell s q
  sides q = (
    (λ h. let r = (rings q).0 h.ring in record { ring = r; sd = (same u.sd whole.sd q r.close).0 h.sd }),
    (λ h. record { ring = (rings q).1 h.ring; sd = (same u.sd whole.sd q h.ring.close).1 h.sd }),
  )

  side_up : (a b : Square) → IsStep (InSide d w u p.cell s) a b → Reaches (IsStep (InSide d w u cell (f s))) (f a) (f b)
  side_up a b h = single (IsStep (InSide d w u cell (f s))) (f a) (f b) (record { from = (sides a).1 h.from; to = (sides b).1 h.to; edge = (edges p.motion a b).1 h.edge })

  side_down : (a b : Square) → IsStep (InSide d w u cell (f s)) (f a) (f b) → IsStep (InSide d w u p.cell s) a b
  side_down a b h = record { from = (sides a).0 h.from; to = (sides b).0 h.to; edge = (edges p.motion a b).0 h.edge }

  groups : (a b : Square) → InOneGroup d w u cell (f s) (f a) (f b) ↔ InOneGroup d w u p.cell s a b
  groups a b = (
    (λ h.
        let r = chain_down f ones (IsStep (InSide d w u p.cell s)) (IsStep (InSide d w u cell (f s))) (onto p.motion) side_down a (f b) h.via h.chain in
        subst (λ y. InOneGroup d w u p.cell s a y) (ones r.0 b r.1) r.2),
    along (IsStep (InSide d w u p.cell s)) (IsStep (InSide d w u cell (f s))) f side_up a b,
  )

  abbrev pub both_ends : Edge → Edge
  both_ends = moved_edge p.motion

  one_edge : (a c : Edge) → both_ends a ≡ both_ends c → a ≡ c
  one_edge a c e =
      let i = ones a.inner c.inner (ap (λ (x : Edge). x.inner) e) in
      let o = ones a.outer c.outer (ap (λ (x : Edge). x.outer) e) in
      ap (λ (v : Square). let x : Edge = record { inner = v; outer = a.outer } in x) i ∙ ap (λ (v : Square). let x : Edge = record { inner = c.inner; outer = v } in x) o

  pub onto_edge : (b : Edge) → (a : Edge) × (both_ends a ≡ b)
  onto_edge b =
      let i = onto p.motion b.inner in
      let o = onto p.motion b.outer in
      let a : Edge = record { inner = i.0; outer = o.0 } in
      (a, ap (λ (v : Square). let x : Edge = record { inner = v; outer = f o.0 } in x) i.1 ∙ ap (λ (v : Square). let x : Edge = record { inner = b.inner; outer = v } in x) o.1)

  border : (e : Edge) → IsBorder d w u cell (f s) (both_ends e) ↔ IsBorder d w u p.cell s e
  border e = (
    (λ h. record { inside = (members e.inner).0 h.inside; outside = λ g. h.outside ((members e.outer).1 g); edge = (edges p.motion e.inner e.outer).0 h.edge }),
    (λ h. record { inside = (members e.inner).1 h.inside; outside = λ g. h.outside ((members e.outer).0 g); edge = (edges p.motion e.inner e.outer).1 h.edge }),
  )

  outer_close : (e : Edge) → IsBorder d w u p.cell s e → IsGateOrRing d geo p.cell s e.outer
  outer_close e h = close_by d geo p.cell s e.inner e.outer h.inside h.edge

  side_of : (e : Edge) → IsWide d w u p.cell s e → InSide d w u p.cell s e.outer
  side_of e h = record { ring = record { close = close_by d geo p.cell s e.inner e.outer h.border.inside h.border.edge; outside = h.border.outside }; sd = h.sd }

  wide : (e : Edge) → IsWide d w u cell (f s) (both_ends e) ↔ IsWide d w u p.cell s e
  wide e = (
    (λ h. let r = (border e).0 h.border in record { border = r; sd = (same u.sd whole.sd e.outer (outer_close e r)).0 h.sd }),
    (λ h. record { border = (border e).1 h.border; sd = (same u.sd whole.sd e.outer (outer_close e h.border)).1 h.sd }),
  )

  long : (e : Edge) → IsLong d w u cell (f s) (both_ends e) ↔ IsLong d w u p.cell s e
  long e = (
    (λ h. let r = (border e).0 h.border in record { border = r; other = λ g. h.other ((same u.sd whole.sd e.outer (outer_close e r)).1 g) }),
    (λ h. record { border = (border e).1 h.border; other = λ g. h.other ((same u.sd whole.sd e.outer (outer_close e h.border)).0 g) }),
  )

  -- the squares of the gate on a name that the rule reads
  all_on : (name : Formula) → IsReadBy geo name → ((q : Square) → InGate d geo p.cell s q → InFlat d p.cell name q) → (q : Square) → InGate d geo cell (f s) q → InFlat d cell name q
  all_on name inside h q i =
      let r = gates_down q i in
      subst (λ y. InFlat d cell name y) r.1 ((same name inside r.0 (close_in d geo p.cell s r.0 r.2)).1 (h r.0 r.2))

  all_back : (name : Formula) → IsReadBy geo name → ((q : Square) → InGate d geo cell (f s) q → InFlat d cell name q) → (q : Square) → InGate d geo p.cell s q → InFlat d p.cell name q
  all_back name inside h q i = (same name inside q (close_in d geo p.cell s q i)).0 (h (f q) (gates_up q i))

  -- a group's squares lie in the ring
  in_side : (a q : Square) (via : List Square) → InSide d w u p.cell s a → IsChain (IsStep (InSide d w u p.cell s)) a via q → InSide d w u p.cell s q
  in_side = last_in Edges (InSide d w u p.cell s)

  end_on : (name : Formula) → IsReadBy geo name → (e : Edge) → IsWide d w u p.cell s e → ((q : Square) → InOneGroup d w u p.cell s e.outer q → InFlat d p.cell name q)
      → (q : Square) → InOneGroup d w u cell (f s) (f e.outer) q → InFlat d cell name q
  end_on name inside e v h q i =
      let r = onto p.motion q in
      let g = (groups e.outer r.0).0 (subst (λ y. InOneGroup d w u cell (f s) (f e.outer) y) (sym r.1) i) in
      let side = in_side e.outer r.0 g.via (side_of e v) g.chain in
      subst (λ y. InFlat d cell name y) r.1 ((same name inside r.0 side.ring.close).1 (h r.0 g))

  end_back : (name : Formula) → IsReadBy geo name → (e : Edge) → IsWide d w u p.cell s e → ((q : Square) → InOneGroup d w u cell (f s) (f e.outer) q → InFlat d cell name q)
      → (q : Square) → InOneGroup d w u p.cell s e.outer q → InFlat d p.cell name q
  end_back name inside e v h q g =
      let side = in_side e.outer q g.via (side_of e v) g.chain in
      (same name inside q side.ring.close).0 (h (f q) ((groups e.outer q).1 g))

  -- the squares of the gate on the sheet of the rule's kind
  sheet_on : (k : DeviceKind) → AllOn (InGate d geo p.cell s) (gate_sheet k (InFlat d p.cell (formula w u.tg))) → AllOn (InGate d geo cell (f s)) (gate_sheet k (InFlat d cell (formula w u.tg)))
  sheet_on Mos4 h = all_on (formula w u.tg) whole.tg h
  sheet_on ResistorWithBulk h = λ q i. tt
  sheet_on Diode h = λ q i. tt

  sheet_back : (k : DeviceKind) → AllOn (InGate d geo cell (f s)) (gate_sheet k (InFlat d cell (formula w u.tg))) → AllOn (InGate d geo p.cell s) (gate_sheet k (InFlat d p.cell (formula w u.tg)))
  sheet_back Mos4 h = all_back (formula w u.tg) whole.tg h
  sheet_back ResistorWithBulk h = λ q i. tt
  sheet_back Diode h = λ q i. tt

  good_part : (e g : Edge) (m n : ℕ) → IsGoodPart (sheets d w u p.cell) (InGate d geo p.cell s) e g m n → IsGoodPart (sheets d w u cell) (InGate d geo cell (f s)) (both_ends e) (both_ends g) m n
  good_part e g m n h =
      let first = h.groups.each e (inl refl) in
      let second = h.groups.each g (inr (inl refl)) in
      record {
        groups = classes_map both_ends one_edge (IsWide d w u p.cell s) (IsWide d w u cell (f s)) (λ a b. InOneGroup d w u p.cell s a.outer b.outer) (λ a b. InOneGroup d w u cell (f s) a.outer b.outer) wide (λ a b. groups a.outer b.outer) onto_edge (e ∷ (g ∷ [])) h.groups;
        wide = counts_map both_ends one_edge (IsWide d w u p.cell s) (IsWide d w u cell (f s)) wide onto_edge m h.wide;
        long = counts_map both_ends one_edge (IsLong d w u p.cell s) (IsLong d w u cell (f s)) long onto_edge n h.long;
        some = h.some;
        gate_on = sheet_on u.kind h.gate_on;
        ends_on = λ q i. elim i [
          | inl a ↦ end_on (formula w u.ts) whole.ts e first (λ r k. h.ends_on r (inl k)) q a
          | inr a ↦ end_on (formula w u.ts) whole.ts g second (λ r k. h.ends_on r (inr k)) q a
        ];
        bulk_on = λ none. all_on (formula w u.tb) whole.tb (h.bulk_on none);
      }

  good_area : (m n : ℕ) → IsGoodArea (sheets d w u p.cell) (InGate d geo p.cell s) m n → IsGoodArea (sheets d w u cell) (InGate d geo cell (f s)) m n
  good_area m n h = record {
    area = counts_map f ones (InGate d geo p.cell s) (InGate d geo cell (f s)) members (onto p.motion) m h.area;
    some = h.some;
    edges = h.edges;
    border = counts_map both_ends one_edge (IsBorder d w u p.cell s) (IsBorder d w u cell (f s)) border onto_edge h.edges h.border;
    twice = h.twice;
    ends_on = λ free. all_on (formula w u.ts) whole.ts (h.ends_on free);
    bulk_on = λ none. all_on (formula w u.tb) whole.tb (h.bulk_on none);
  }

  good_form : (form : Form) (sides : Sides) (m n : ℕ) → IsGoodForm form (sheets d w u p.cell) (InGate d geo p.cell s) sides m n → IsGoodForm form (sheets d w u cell) (InGate d geo cell (f s)) (moved_sides p.motion sides) m n
  good_form Beside (TwoGroups e g) m n h = good_part e g m n h
  good_form Beside Region m n h = absurd h
  good_form Alone (TwoGroups e g) m n h = absurd h
  good_form Alone Region m n h = good_area m n h

  pub good : (sides : Sides) (m n : ℕ) → IsGoodGate d w u p.cell s sides m n → IsGoodGate d w u cell (f s) (moved_sides p.motion sides) m n
  good sides m n h = good_form (form_of u.kind) sides m n h

  -- the edge that an edge is the image of
  abbrev pulled : Edge → Edge
  pulled b = (onto_edge b).0

  pulled_one : (a b : Edge) → pulled a ≡ pulled b → a ≡ b
  pulled_one a b e = sym (onto_edge a).1 ∙ ap both_ends e ∙ (onto_edge b).1

  pulled_onto : (a : Edge) → (b : Edge) × (pulled b ≡ a)
  pulled_onto a = (both_ends a, one_edge (pulled (both_ends a)) a (onto_edge (both_ends a)).1)

  pulled_wide : (b : Edge) → IsWide d w u p.cell s (pulled b) ↔ IsWide d w u cell (f s) b
  pulled_wide b = (
    (λ h. subst (λ y. IsWide d w u cell (f s) y) (onto_edge b).1 ((wide (pulled b)).1 h)),
    (λ h. (wide (pulled b)).0 (subst (λ y. IsWide d w u cell (f s) y) (sym (onto_edge b).1) h)),
  )

  pulled_long : (b : Edge) → IsLong d w u p.cell s (pulled b) ↔ IsLong d w u cell (f s) b
  pulled_long b = (
    (λ h. subst (λ y. IsLong d w u cell (f s) y) (onto_edge b).1 ((long (pulled b)).1 h)),
    (λ h. (long (pulled b)).0 (subst (λ y. IsLong d w u cell (f s) y) (sym (onto_edge b).1) h)),
  )

  pulled_group : (a b : Edge) → InOneGroup d w u p.cell s (pulled a).outer (pulled b).outer ↔ InOneGroup d w u cell (f s) a.outer b.outer
  pulled_group a b = (
    (λ h. subst (λ (y : Edge). InOneGroup d w u cell (f s) a.outer y.outer) (onto_edge b).1
        (subst (λ (y : Edge). InOneGroup d w u cell (f s) y.outer (f (pulled b).outer)) (onto_edge a).1 ((groups (pulled a).outer (pulled b).outer).1 h))),
    (λ h. (groups (pulled a).outer (pulled b).outer).0
        (subst (λ (y : Edge). InOneGroup d w u cell (f s) y.outer (f (pulled b).outer)) (sym (onto_edge a).1)
        (subst (λ (y : Edge). InOneGroup d w u cell (f s) a.outer y.outer) (sym (onto_edge b).1) h))),
  )

  part_back : (e g : Edge) (m n : ℕ) → IsGoodPart (sheets d w u cell) (InGate d geo cell (f s)) (both_ends e) (both_ends g) m n → IsGoodPart (sheets d w u p.cell) (InGate d geo p.cell s) e g m n
  unfolding pulled_onto
  part_back e g m n h =
      let first = (wide e).0 (h.groups.each (both_ends e) (inl refl)) in
      let second = (wide g).0 (h.groups.each (both_ends g) (inr (inl refl))) in
      let list = classes_map pulled pulled_one (IsWide d w u cell (f s)) (IsWide d w u p.cell s) (λ a b. InOneGroup d w u cell (f s) a.outer b.outer) (λ a b. InOneGroup d w u p.cell s a.outer b.outer) pulled_wide pulled_group pulled_onto (both_ends e ∷ (both_ends g ∷ [])) h.groups in
      let one : pulled (both_ends e) ≡ e = (pulled_onto e).1 in
      let two : pulled (both_ends g) ≡ g = (pulled_onto g).1 in
      record {
        groups = subst (λ x. AreGroups d w u p.cell s (x ∷ (g ∷ []))) one (subst (λ x. AreGroups d w u p.cell s (pulled (both_ends e) ∷ (x ∷ []))) two list);
        wide = counts_map pulled pulled_one (IsWide d w u cell (f s)) (IsWide d w u p.cell s) pulled_wide pulled_onto m h.wide;
        long = counts_map pulled pulled_one (IsLong d w u cell (f s)) (IsLong d w u p.cell s) pulled_long pulled_onto n h.long;
        some = h.some;
        gate_on = sheet_back u.kind h.gate_on;
        ends_on = λ q i. elim i [
          | inl a ↦ end_back (formula w u.ts) whole.ts e first (λ r k. h.ends_on r (inl k)) q a
          | inr a ↦ end_back (formula w u.ts) whole.ts g second (λ r k. h.ends_on r (inr k)) q a
        ];
        bulk_on = λ none. all_back (formula w u.tb) whole.tb (h.bulk_on none);
      }

  -- the square that a square is the image of
  abbrev pulled_square : Square → Square
  pulled_square b = (onto p.motion b).0

  square_one : (a b : Square) → pulled_square a ≡ pulled_square b → a ≡ b
  square_one a b e = sym (onto p.motion a).1 ∙ ap f e ∙ (onto p.motion b).1

  square_onto : (a : Square) → (b : Square) × (pulled_square b ≡ a)
  square_onto a = (f a, ones (pulled_square (f a)) a (onto p.motion (f a)).1)

  pulled_member : (b : Square) → InGate d geo p.cell s (pulled_square b) ↔ InGate d geo cell (f s) b
  pulled_member b = (
    (λ h. subst (λ y. InGate d geo cell (f s) y) (onto p.motion b).1 ((members (pulled_square b)).1 h)),
    (λ h. (members (pulled_square b)).0 (subst (λ y. InGate d geo cell (f s) y) (sym (onto p.motion b).1) h)),
  )

  pulled_border : (b : Edge) → IsBorder d w u p.cell s (pulled b) ↔ IsBorder d w u cell (f s) b
  pulled_border b = (
    (λ h. subst (λ y. IsBorder d w u cell (f s) y) (onto_edge b).1 ((border (pulled b)).1 h)),
    (λ h. (border (pulled b)).0 (subst (λ y. IsBorder d w u cell (f s) y) (sym (onto_edge b).1) h)),
  )

  area_back : (m n : ℕ) → IsGoodArea (sheets d w u cell) (InGate d geo cell (f s)) m n → IsGoodArea (sheets d w u p.cell) (InGate d geo p.cell s) m n
  area_back m n h = record {
    area = counts_map pulled_square square_one (InGate d geo cell (f s)) (InGate d geo p.cell s) pulled_member square_onto m h.area;
    some = h.some;
    edges = h.edges;
    border = counts_map pulled pulled_one (IsBorder d w u cell (f s)) (IsBorder d w u p.cell s) pulled_border pulled_onto h.edges h.border;
    twice = h.twice;
    ends_on = λ free. all_back (formula w u.ts) whole.ts (h.ends_on free);
    bulk_on = λ none. all_back (formula w u.tb) whole.tb (h.bulk_on none);
  }

  form_back : (form : Form) (sides : Sides) (m n : ℕ) → IsGoodForm form (sheets d w u cell) (InGate d geo cell (f s)) (moved_sides p.motion sides) m n → IsGoodForm form (sheets d w u p.cell) (InGate d geo p.cell s) sides m n
  form_back Beside (TwoGroups e g) m n h = part_back e g m n h
  form_back Beside Region m n h = absurd h
  form_back Alone (TwoGroups e g) m n h = absurd h
  form_back Alone Region m n h = area_back m n h

  pub good_back : (sides : Sides) (m n : ℕ) → IsGoodGate d w u cell (f s) (moved_sides p.motion sides) m n → IsGoodGate d w u p.cell s sides m n
  good_back sides m n h = form_back (form_of u.kind) sides m n h

  -- the sides that sides are the image of
  pub onto_sides : (b : Sides) → (a : Sides) × (moved_sides p.motion a ≡ b)
  onto_sides (TwoGroups e g) =
      let i = onto_edge e in
      let j = onto_edge g in
      (TwoGroups i.0 j.0, ap (λ (x : Edge). TwoGroups x (both_ends j.0)) i.1 ∙ ap (λ (x : Edge). TwoGroups e x) j.1)
  onto_sides Region = (Region, refl)

  same_groups : (list : List Edge) → AreGroups d w u p.cell s list → AreGroups d w u cell (f s) (map both_ends list)
  same_groups list h = classes_map both_ends one_edge (IsWide d w u p.cell s) (IsWide d w u cell (f s)) (λ a b. InOneGroup d w u p.cell s a.outer b.outer) (λ a b. InOneGroup d w u cell (f s) a.outer b.outer) wide (λ a b. groups a.outer b.outer) onto_edge list h

  gate_off : (c : ℕ) → IsReadBy geo (formula w c) → IsGateOff d w u p.cell s c → IsGateOff d w u cell (f s) c
  gate_off c inside h = (f h.0, gates_up h.0 h.1, λ g. h.2 ((same (formula w c) inside h.0 (close_in d geo p.cell s h.0 h.1)).0 g))

  ends_on : (e g : Edge) → AreGroups d w u p.cell s (e ∷ (g ∷ [])) → AreEndsOn d w u p.cell s e g → AreEndsOn d w u cell (f s) (both_ends e) (both_ends g)
  ends_on e g two h q i = elim i [
    | inl a ↦ end_on (formula w u.ts) whole.ts e (two.each e (inl refl)) (λ r k. h r (inl k)) q a
    | inr a ↦ end_on (formula w u.ts) whole.ts g (two.each g (inr (inl refl))) (λ r k. h r (inr k)) q a
  ]

  off_end : (e : Edge) (q : Square) → IsWide d w u p.cell s e → InOneGroup d w u p.cell s e.outer q → (InFlat d p.cell (formula w u.ts) q → ⊥) → InFlat d cell (formula w u.ts) (f q) → ⊥
  off_end e q v i not h =
      let side = in_side e.outer q i.via (side_of e v) i.chain in
      not ((same (formula w u.ts) whole.ts q side.ring.close).0 h)

  ends_off : (e g : Edge) → AreGroups d w u p.cell s (e ∷ (g ∷ [])) → AreEndsOff d w u p.cell s e g → AreEndsOff d w u cell (f s) (both_ends e) (both_ends g)
  ends_off e g two (q, inl i, not) = (f q, inl ((groups e.outer q).1 i), off_end e q (two.each e (inl refl)) i not)
  ends_off e g two (q, inr i, not) = (f q, inr ((groups g.outer q).1 i), off_end g q (two.each g (inr (inl refl))) i not)

  sheet_off : (k : DeviceKind) → SomeOff (InGate d geo p.cell s) (gate_sheet k (InFlat d p.cell (formula w u.tg))) → SomeOff (InGate d geo cell (f s)) (gate_sheet k (InFlat d cell (formula w u.tg)))
  sheet_off Mos4 h = gate_off u.tg whole.tg h
  sheet_off ResistorWithBulk (q, i, not) = absurd (not tt)
  sheet_off Diode (q, i, not) = absurd (not tt)

  bad_part : (c : GateCause) → IsBadPart (sheets d w u p.cell) (InGate d geo p.cell s) c → IsBadPart (sheets d w u cell) (InGate d geo cell (f s)) c
  bad_part (Groups count) (list, h, long, not) = (map both_ends list, same_groups list h, length-map list both_ends ∙ long, not)
  bad_part OffGate (e, g, h, off) = (both_ends e, both_ends g, same_groups (e ∷ (g ∷ [])) h, sheet_off u.kind off)
  bad_part OffSd (e, g, h, tg, off) = (both_ends e, both_ends g, same_groups (e ∷ (g ∷ [])) h, sheet_on u.kind tg, ends_off e g h off)
  bad_part NoBulk (e, g, h, tg, ts, none, off) = (both_ends e, both_ends g, same_groups (e ∷ (g ∷ [])) h, sheet_on u.kind tg, ends_on e g h ts, none, gate_off u.tb whole.tb off)
  bad_part NoLength (e, g, h, tg, ts, tb, zero_long) = (
    both_ends e,
    both_ends g,
    same_groups (e ∷ (g ∷ [])) h,
    sheet_on u.kind tg,
    ends_on e g h ts,
    (λ none. all_on (formula w u.tb) whole.tb (tb none)),
    counts_map both_ends one_edge (IsLong d w u p.cell s) (IsLong d w u cell (f s)) long onto_edge 0 zero_long,
  )

  bad_area : (c : GateCause) → IsBadArea (sheets d w u p.cell) (InGate d geo p.cell s) c → IsBadArea (sheets d w u cell) (InGate d geo cell (f s)) c
  bad_area (Groups count) h = h
  bad_area OffGate h = h
  bad_area OffSd (free, off) = (free, gate_off u.ts whole.ts off)
  bad_area NoBulk (on, none, off) = ((λ free. all_on (formula w u.ts) whole.ts (on free)), none, gate_off u.tb whole.tb off)
  bad_area NoLength h = h

  bad_form : (form : Form) (c : GateCause) → IsBadForm form (sheets d w u p.cell) (InGate d geo p.cell s) c → IsBadForm form (sheets d w u cell) (InGate d geo cell (f s)) c
  bad_form Beside c h = bad_part c h
  bad_form Alone c h = bad_area c h

  pub bad : (c : GateCause) → IsBadGate d w u p.cell s c → IsBadGate d w u cell (f s) c
  bad c h = bad_form (form_of u.kind) c h

  -- ---- terminals

  group_up : (e : Edge) (n : Node) → IsGroupNode d w u p.cell s e n → IsGroupNode d w u cell (f s) (both_ends e) (moved p.motion n)
  group_up e n h = (f h.0, (groups e.outer h.0).1 h.1, ap (moved p.motion) h.2)

  region_up : (c : ℕ) (n : Node) → IsRegionNode d w u p.cell s c n → IsRegionNode d w u cell (f s) c (moved p.motion n)
  region_up c n (inl h) = inl (h.0, h.1, ap (moved p.motion) h.2)
  region_up c n (inr h) = inr (h.0, (f h.1.0, gates_up h.1.0 h.1.1, ap (moved p.motion) h.1.2))

  other_up : (k : DeviceKind) (place : ℕ) (n : Node) → IsOtherNode k d w u p.cell s place n → IsOtherNode k d w u cell (f s) place (moved p.motion n)
  other_up Mos4 zero n h = (f h.0, gates_up h.0 h.1, ap (moved p.motion) h.2)
  other_up Mos4 (suc zero) n h = region_up u.tb n h
  other_up Mos4 (suc (suc j)) n h = h
  other_up ResistorWithBulk zero n h = region_up u.tb n h
  other_up ResistorWithBulk (suc j) n h = h
  other_up Diode zero n h = region_up u.ts n h
  other_up Diode (suc zero) n h = region_up u.tb n h
  other_up Diode (suc (suc j)) n h = h

  pub terminal_up : (sides : Sides) (terminal : Terminal) (n : Node) → IsTerminalNode d w u p.cell s sides terminal n → IsTerminalNode d w u cell (f s) (moved_sides p.motion sides) terminal (moved p.motion n)
  terminal_up (TwoGroups e g) First n h = group_up e n h
  terminal_up (TwoGroups e g) Second n h = group_up g n h
  terminal_up Region First n h = h
  terminal_up Region Second n h = h
  terminal_up sides (Other place) n h = other_up u.kind place n h

  group_down : (e : Edge) (n : Node) → IsGroupNode d w u cell (f s) (both_ends e) n → (m : Node) × (moved p.motion m ≡ n) × IsGroupNode d w u p.cell s e m
  group_down e n h = let r = onto p.motion h.0 in (At u.ts r.0, ap (At u.ts) r.1 ∙ h.2, (r.0, (groups e.outer r.0).0 (subst (λ y. InOneGroup d w u cell (f s) (f e.outer) y) (sym r.1) h.1), refl))

  region_down : (c : ℕ) (n : Node) → IsRegionNode d w u cell (f s) c n → (m : Node) × (moved p.motion m ≡ n) × IsRegionNode d w u p.cell s c m
  region_down c n (inl h) = (Ground h.0, h.2, inl (h.0, h.1, refl))
  region_down c n (inr h) = let r = gates_down h.1.0 h.1.1 in (At c r.0, ap (At c) r.1 ∙ h.1.2, inr (h.0, (r.0, r.2, refl)))

  other_down : (k : DeviceKind) (place : ℕ) (n : Node) → IsOtherNode k d w u cell (f s) place n → (m : Node) × (moved p.motion m ≡ n) × IsOtherNode k d w u p.cell s place m
  other_down Mos4 zero n h = let r = gates_down h.0 h.1 in (At u.tg r.0, ap (At u.tg) r.1 ∙ h.2, (r.0, r.2, refl))
  other_down Mos4 (suc zero) n h = region_down u.tb n h
  other_down Mos4 (suc (suc j)) n h = absurd h
  other_down ResistorWithBulk zero n h = region_down u.tb n h
  other_down ResistorWithBulk (suc j) n h = absurd h
  other_down Diode zero n h = region_down u.ts n h
  other_down Diode (suc zero) n h = region_down u.tb n h
  other_down Diode (suc (suc j)) n h = absurd h

  pub terminal_down : (sides : Sides) (terminal : Terminal) (n : Node) → IsTerminalNode d w u cell (f s) (moved_sides p.motion sides) terminal n → (m : Node) × (moved p.motion m ≡ n) × IsTerminalNode d w u p.cell s sides terminal m
  terminal_down (TwoGroups e g) First n h = group_down e n h
  terminal_down (TwoGroups e g) Second n h = group_down g n h
  terminal_down Region First n h = absurd h
  terminal_down Region Second n h = absurd h
  terminal_down sides (Other place) n h = other_down u.kind place n h

pub kept_form : KeptFormLaw
kept_form d w u cell k p s reached placed settled = record {
  sides = sides d w u cell k p s reached placed settled;
  groups = groups d w u cell k p s reached placed settled;
  wide = λ n c. counts_map (moved_edge p.motion) (one_edge d w u cell k p s reached placed settled) (IsWide d w u p.cell s) (IsWide d w u cell (moved_square p.motion s)) (wide d w u cell k p s reached placed settled) (onto_edge d w u cell k p s reached placed settled) n c;
  long = λ n c. counts_map (moved_edge p.motion) (one_edge d w u cell k p s reached placed settled) (IsLong d w u p.cell s) (IsLong d w u cell (moved_square p.motion s)) (long d w u cell k p s reached placed settled) (onto_edge d w u cell k p s reached placed settled) n c;
  area = λ n c. counts_map (moved_square p.motion) (ones d w u cell k p s reached placed settled) (InGate d (geometry w u) p.cell s) (InGate d (geometry w u) cell (moved_square p.motion s)) (members d w u cell k p s reached placed settled) (onto p.motion) n c;
  border = λ n c. counts_map (moved_edge p.motion) (one_edge d w u cell k p s reached placed settled) (IsBorder d w u p.cell s) (IsBorder d w u cell (moved_square p.motion s)) (border d w u cell k p s reached placed settled) (onto_edge d w u cell k p s reached placed settled) n c;
  good = good d w u cell k p s reached placed settled;
  good_back = good_back d w u cell k p s reached placed settled;
  bad = bad d w u cell k p s reached placed settled;
}
