-- Sets that agree on a part and its ring judge it alike.
use Rattle.std.proofs.Common.{◌↔◌, inl, inr, ℕ, List, [], ◌∷◌, refl}
use Rattle.geo_base.specs.declared.shapes.Square.{Square}
use Rattle.plain_netlist.proofs.Links.{single, along}
use Rattle.flat_layout.specs.Parts.{Edge, IsStep, IsCloseTo, InSideOf, InGroupOf, IsBorderOf, IsWideOf, IsLongOf, AreClasses, AreGroupsOf, Sheets, AllOn, SomeOff, InEnds, IsGoodPart, IsGoodArea, IsBadArea, IsBadPart}
use Rattle.flat_layout.specs.Parts.{IsLeast}
use Rattle.geo_base.specs.declared.shapes.Rect.{Rect}
use Rattle.flat_layout.specs.Gates.{InGate, gate_sheet, geometry, sheets}
use Rattle.flat_layout.specs.Gates.{Rule}
use Rattle.flat_layout.specs.Layers.{Formula, InFlat}
use Rattle.flat_layout.specs.Layout.{Design}
use Rattle.flat_layout.specs.Regions.{Wiring, formula}
use Rattle.gate_shapes.specs.LookLaws.{IsExactNear, IsExactOn, LookAloneLaw, LookLaw}
use Rattle.gate_shapes.specs.Sets.{in_set}
use Rattle.gate_shapes.specs.Shapes.{IsShape, IsShapeAlone, sheets_alone, sheets_of}
use Rattle.gate_shapes.specs.declared.shape.GateShape.{GateShape}
use Rattle.gate_shapes.specs.declared.shape.GateShape.TheVariants.{Good, Bad}
use Rattle.gate_shapes.proofs.Counting.{counts_same}
use Rattle.gate_shapes.proofs.Groups.{beside_around, around_self}
use Rattle.gate_shapes.proofs.PartsOf.{end_in}
use Rattle.flat_layout.specs.declared.cause.GateCause.{GateCause}
use Rattle.flat_layout.specs.declared.cause.GateCause.TheVariants.{Groups, OffGate, OffSd, NoBulk, NoLength}

classes_same : {A : Type 0} (P Q : A → Type 0) (R S : A → A → Type 0) → ((a : A) → P a ↔ Q a) → ((a b : A) → R a b ↔ S a b) → (list : List A) → AreClasses P R list → AreClasses Q S list
classes_same P Q R S same joins list h = record {
  each = λ a l. (same a).0 (h.each a l);
  found = λ a q. let f = h.found a ((same a).1 q) in (f.0, f.1, (joins a f.0).0 f.2);
  one = λ a b l m s. h.one a b l m ((joins a b).1 s);
  apart = h.apart;
}

-- on the part the two sets are one; close to it
abbrev pub AgreeOn : (Square → Type 0) → (Square → Type 0) → (Square → Type 0) → Type 0
AgreeOn P A B = (q : Square) → P q → A q ↔ B q

abbrev pub AgreeNear : (Square → Type 0) → (Square → Type 0) → (Square → Type 0) → Type 0
AgreeNear P A B = (q : Square) → IsCloseTo P q → A q ↔ B q

module _ (P Q : Square → Type 0) (same : (q : Square) → P q ↔ Q q) (g h : Sheets) (ends : AgreeNear P g.ends h.ends) (on_ends : AgreeNear P g.on_ends h.on_ends) (on_gate : AgreeOn P g.on_gate h.on_gate)
    (on_bulk : AgreeNear P g.on_bulk h.on_bulk) (loose : g.loose ↔ h.loose) where
  self_close : (q : Square) → P q → IsCloseTo P q
  self_close q p = record { square = q; in_part = p; around = around_self q }

  close : (q : Square) → IsCloseTo P q ↔ IsCloseTo Q q
  close q = (
    (λ c. record { square = c.square; in_part = (same c.square).0 c.in_part; around = c.around }),
    (λ c. record { square = c.square; in_part = (same c.square).1 c.in_part; around = c.around }),
  )

  side : (q : Square) → InSideOf P g.ends q ↔ InSideOf Q h.ends q
  side q = (
    (λ i. record { ring = record { close = (close q).0 i.ring.close; outside = λ z. i.ring.outside ((same q).1 z) }; sd = (ends q i.ring.close).0 i.sd }),
    (λ i. let c = (close q).1 i.ring.close in record { ring = record { close = c; outside = λ z. i.ring.outside ((same q).0 z) }; sd = (ends q c).1 i.sd }),
  )

  group : (a b : Square) → InGroupOf P g.ends a b ↔ InGroupOf Q h.ends a b
  group a b = (
    along (IsStep (InSideOf P g.ends)) (IsStep (InSideOf Q h.ends)) (λ v. v)
        (λ x y k. single (IsStep (InSideOf Q h.ends)) x y (record { from = (side x).0 k.from; to = (side y).0 k.to; edge = k.edge })) a b,
    along (IsStep (InSideOf Q h.ends)) (IsStep (InSideOf P g.ends)) (λ v. v)
        (λ x y k. single (IsStep (InSideOf P g.ends)) x y (record { from = (side x).1 k.from; to = (side y).1 k.to; edge = k.edge })) a b,
  )

  outer_close : (e : Edge) → IsBorderOf P e → IsCloseTo P e.outer
  outer_close e b = record { square = e.inner; in_part = b.inside; around = beside_around e.inner e.outer b.edge }

  border : (e : Edge) → IsBorderOf P e ↔ IsBorderOf Q e
  border e = (
    (λ b. record { inside = (same e.inner).0 b.inside; outside = λ z. b.outside ((same e.outer).1 z); edge = b.edge }),
    (λ b. record { inside = (same e.inner).1 b.inside; outside = λ z. b.outside ((same e.outer).0 z); edge = b.edge }),
  )

  wide : (e : Edge) → IsWideOf P g.ends e ↔ IsWideOf Q h.ends e
  wide e = (
    (λ v. record { border = (border e).0 v.border; sd = (ends e.outer (outer_close e v.border)).0 v.sd }),
    (λ v. let b = (border e).1 v.border in record { border = b; sd = (ends e.outer (outer_close e b)).1 v.sd }),
  )

  long : (e : Edge) → IsLongOf P g.ends e ↔ IsLongOf Q h.ends e
  long e = (
    (λ v. record { border = (border e).0 v.border; other = λ z. v.other ((ends e.outer (outer_close e v.border)).1 z) }),
    (λ v. let b = (border e).1 v.border in record { border = b; other = λ z. v.other ((ends e.outer (outer_close e b)).0 z) }),
  )

  groups : (list : List Edge) → AreGroupsOf P g.ends list → AreGroupsOf Q h.ends list
  groups list = classes_same (IsWideOf P g.ends) (IsWideOf Q h.ends) (λ e f. InGroupOf P g.ends e.outer f.outer) (λ e f. InGroupOf Q h.ends e.outer f.outer) wide (λ e f. group e.outer f.outer) list

  at_part : (A B : Square → Type 0) → AgreeNear P A B → AgreeOn P A B
  at_part A B agree q p = agree q (self_close q p)

  all_on : (A B : Square → Type 0) → AgreeOn P A B → AllOn P A → AllOn Q B
  all_on A B agree on q z = let p = (same q).1 z in (agree q p).0 (on q p)

  some_off : (A B : Square → Type 0) → AgreeOn P A B → SomeOff P A → SomeOff Q B
  some_off A B agree (q, p, not) = (q, (same q).0 p, λ z. not ((agree q p).1 z))

  side_of : (e : Edge) → IsWideOf P g.ends e → InSideOf P g.ends e.outer
  side_of e v = record { ring = record { close = outer_close e v.border; outside = v.border.outside }; sd = v.sd }

  end_close : (e : Edge) (q : Square) → IsWideOf P g.ends e → InGroupOf P g.ends e.outer q → IsCloseTo P q
  end_close e q v way = (end_in (InSideOf P g.ends) e.outer q way.via (side_of e v) way.chain).ring.close

  ends_close : (e f : Edge) (q : Square) → AreGroupsOf P g.ends (e ∷ (f ∷ [])) → InEnds P g.ends e f q → IsCloseTo P q
  ends_close e f q two (inl way) = end_close e q (two.each e (inl refl)) way
  ends_close e f q two (inr way) = end_close f q (two.each f (inr (inl refl))) way

  in_ends : (e f : Edge) (q : Square) → InEnds P g.ends e f q ↔ InEnds Q h.ends e f q
  in_ends e f q = (
    (λ i. elim i [ inl way ↦ inl ((group e.outer q).0 way) | inr way ↦ inr ((group f.outer q).0 way) ]),
    (λ i. elim i [ inl way ↦ inl ((group e.outer q).1 way) | inr way ↦ inr ((group f.outer q).1 way) ]),
  )

  ends_on : (e f : Edge) → AreGroupsOf P g.ends (e ∷ (f ∷ [])) → AllOn (InEnds P g.ends e f) g.on_ends → AllOn (InEnds Q h.ends e f) h.on_ends
  ends_on e f two on q z = let p = (in_ends e f q).1 z in (on_ends q (ends_close e f q two p)).0 (on q p)

  ends_off : (e f : Edge) → AreGroupsOf P g.ends (e ∷ (f ∷ [])) → SomeOff (InEnds P g.ends e f) g.on_ends → SomeOff (InEnds Q h.ends e f) h.on_ends
  ends_off e f two (q, p, not) = (q, (in_ends e f q).0 p, λ z. not ((on_ends q (ends_close e f q two p)).1 z))

  bulk_on : (g.loose → AllOn P g.on_bulk) → h.loose → AllOn Q h.on_bulk
  bulk_on on z = all_on g.on_bulk h.on_bulk (at_part g.on_bulk h.on_bulk on_bulk) (on (loose.1 z))

  pub form : (e f : Edge) (m n : ℕ) → IsGoodPart g P e f m n → IsGoodPart h Q e f m n
  form e f m n v = record {
    groups = groups (e ∷ (f ∷ [])) v.groups;
    wide = counts_same (IsWideOf P g.ends) (IsWideOf Q h.ends) m wide v.wide;
    long = counts_same (IsLongOf P g.ends) (IsLongOf Q h.ends) n long v.long;
    some = v.some;
    gate_on = all_on g.on_gate h.on_gate on_gate v.gate_on;
    ends_on = ends_on e f v.groups v.ends_on;
    bulk_on = bulk_on v.bulk_on;
  }

  pub bad : (c : GateCause) → IsBadPart g P c → IsBadPart h Q c
  bad (Groups n) (list, k, count, not) = (list, groups list k, count, not)
  bad OffGate (e, f, k, off) = (e, f, groups (e ∷ (f ∷ [])) k, some_off g.on_gate h.on_gate on_gate off)
  bad OffSd (e, f, k, on, off) = (e, f, groups (e ∷ (f ∷ [])) k, all_on g.on_gate h.on_gate on_gate on, ends_off e f k off)
  bad NoBulk (e, f, k, on, at, open_, off) = (e, f, groups (e ∷ (f ∷ [])) k, all_on g.on_gate h.on_gate on_gate on, ends_on e f k at, loose.0 open_, some_off g.on_bulk h.on_bulk (at_part g.on_bulk h.on_bulk on_bulk) off)
  bad NoLength (e, f, k, on, at, bulk, none) =
      (e, f, groups (e ∷ (f ∷ [])) k, all_on g.on_gate h.on_gate on_gate on, ends_on e f k at, bulk_on bulk, counts_same (IsLongOf P g.ends) (IsLongOf Q h.ends) 0 long none)

  least : (a s : Square) → IsLeast (InGroupOf P g.ends a) s → IsLeast (InGroupOf Q h.ends a) s
  least a s v = record { has = (group a s).0 v.has; least = λ q z. v.least q ((group a q).1 z) }

  pub shape : (v : GateShape) → IsShape g P v → IsShape h Q v
  shape (Good f) v = record {
    source = v.source;
    drain = v.drain;
    form = form v.source v.drain f.twice_w f.twice_l v.form;
    least_source = least v.source.outer f.source v.least_source;
    least_drain = least v.drain.outer f.drain v.least_drain;
    order = v.order;
  }
  shape (Bad c) v = bad c v

-- what agrees at the gate, agrees on the part
exact_on : (P : Square → Type 0) (d : Design) (w : Wiring) (u : Rule) (cell : ℕ) (s : Square) → ((q : Square) → P q ↔ InGate d (geometry w u) cell s q) → (rects : List Rect) (set : Square → Type 0)
    → IsExactOn d w u cell s rects set → AgreeOn P (in_set rects) set
exact_on P d w u cell s same rects set exact q p = exact q ((same q).0 p)

-- ---- a part alone

module _ (P Q : Square → Type 0) (same : (q : Square) → P q ↔ Q q) (g h : Sheets) (on_ends : AgreeOn P g.on_ends h.on_ends) (on_bulk : AgreeOn P g.on_bulk h.on_bulk) (free : g.free ↔ h.free) (loose : g.loose ↔ h.loose) where
  lone_border : (e : Edge) → IsBorderOf P e ↔ IsBorderOf Q e
  lone_border e = (
    (λ b. record { inside = (same e.inner).0 b.inside; outside = λ z. b.outside ((same e.outer).1 z); edge = b.edge }),
    (λ b. record { inside = (same e.inner).1 b.inside; outside = λ z. b.outside ((same e.outer).0 z); edge = b.edge }),
  )

  lone_on : (A B : Square → Type 0) → AgreeOn P A B → AllOn P A → AllOn Q B
  lone_on A B agree on q z = let p = (same q).1 z in (agree q p).0 (on q p)

  lone_off : (A B : Square → Type 0) → AgreeOn P A B → SomeOff P A → SomeOff Q B
  lone_off A B agree (q, p, not) = (q, (same q).0 p, λ z. not ((agree q p).1 z))

  good_area : (m n : ℕ) → IsGoodArea g P m n → IsGoodArea h Q m n
  good_area m n v = record {
    area = counts_same P Q m same v.area;
    some = v.some;
    edges = v.edges;
    border = counts_same (IsBorderOf P) (IsBorderOf Q) v.edges lone_border v.border;
    twice = v.twice;
    ends_on = λ z. lone_on g.on_ends h.on_ends on_ends (v.ends_on (free.1 z));
    bulk_on = λ z. lone_on g.on_bulk h.on_bulk on_bulk (v.bulk_on (loose.1 z));
  }

  bad_area : (c : GateCause) → IsBadArea g P c → IsBadArea h Q c
  bad_area (Groups n) v = v
  bad_area OffGate v = v
  bad_area OffSd (open_, off) = (free.0 open_, lone_off g.on_ends h.on_ends on_ends off)
  bad_area NoBulk (on, open_, off) = ((λ z. lone_on g.on_ends h.on_ends on_ends (on (free.1 z))), loose.0 open_, lone_off g.on_bulk h.on_bulk on_bulk off)
  bad_area NoLength v = v

  lone_least : (s : Square) → IsLeast P s → IsLeast Q s
  lone_least s v = record { has = (same s).0 v.has; least = λ q z. v.least q ((same q).1 z) }

  pub shape_alone : (v : GateShape) → IsShapeAlone g P v → IsShapeAlone h Q v
  shape_alone (Good f) v = record { form = good_area f.twice_w f.twice_l v.form; least_source = lone_least f.source v.least_source; least_drain = lone_least f.drain v.least_drain }
  shape_alone (Bad c) v = bad_area c v

pub look_alone : LookAloneLaw
look_alone d w u cell s part on_ends on_bulk free loose v are h =
    shape_alone (in_set part) (InGate d (geometry w u) cell s) are.part_is (sheets_alone on_ends on_bulk free loose) (sheets d w u cell)
    (exact_on (in_set part) d w u cell s are.part_is on_ends (InFlat d cell (formula w u.ts)) are.on_ends_are)
    (exact_on (in_set part) d w u cell s are.part_is on_bulk (InFlat d cell (formula w u.tb)) are.on_bulk_are) are.free_is are.loose_is v h

pub look : LookLaw
look d w u cell s part ends on_ends on_gate on_bulk loose v around h =
    let near : (name : Formula) (rects : List Rect) → IsExactNear d w u cell s rects name → AgreeNear (in_set part) (in_set rects) (InFlat d cell name) =
    λ name rects exact q c. exact q (record { square = c.square; in_part = (around.part_is c.square).0 c.in_part; around = c.around }) in
    shape (in_set part) (InGate d (geometry w u) cell s) around.part_is (sheets_of ends on_ends on_gate on_bulk loose) (sheets d w u cell)
    (near u.sd ends around.ends_are) (near (formula w u.ts) on_ends around.on_ends_are) (exact_on (in_set part) d w u cell s around.part_is on_gate (gate_sheet u.kind (InFlat d cell (formula w u.tg))) around.on_gate_are) (near (formula w u.tb) on_bulk around.on_bulk_are) around.loose_is v h
