-- A gate is the same by each of its squares.
use Rattle.std.proofs.Common.{◌≡◌, ◌↔◌, inl, inr, ℕ, List, [], ◌∷◌, refl, ap, subst, map}
use Rattle.flat_laws.specs.GateLaws.{SameGateLaw}
use Rattle.flat_layout.specs.Gates.{Rule, Geometry, geometry, IsStep, InGate, IsGateOrRing, InSide, InOneGroup, Edge, Sides, TwoGroups, Region, Form, Beside, Alone, form_of, gate_sheet, sheets, IsBorder, IsWide, IsLong, AreGroups, IsGoodGate, IsBadGate}
use Rattle.flat_layout.specs.Layers.{InFlat}
use Rattle.flat_layout.specs.Layout.{Design}
use Rattle.flat_layout.specs.Parts.{AllOn, SomeOff, InEnds, IsGoodPart, IsBadPart, IsGoodArea, IsBadArea, IsGoodForm, IsBadForm}
use Rattle.flat_layout.specs.Regions.{Wiring, formula}
use Rattle.geo_base.specs.declared.shapes.Square.{Square}
use Rattle.plain_netlist.proofs.Links.{single, along}
use Rattle.flat_laws.proofs.Mapped.{counts_map, classes_map}
use Rattle.flat_laws.proofs.Once.{gate_on, gate_between}
use Rattle.flat_layout.specs.declared.cause.GateCause.{GateCause}
use Rattle.flat_layout.specs.declared.cause.GateCause.TheVariants.{Groups, OffGate, OffSd, NoBulk, NoLength}

-- a gate's form by another of its squares
module _ (d : Design) (w : Wiring) (u : Rule) (cell : ℕ) (s z : Square) (one : InGate d (geometry w u) cell s z) where
  abbrev geo : Geometry
  geo = geometry w u

  pub in_same : (q : Square) → InGate d geo cell z q ↔ InGate d geo cell s q
  in_same q = (gate_on d geo cell s z q one, gate_between d geo cell s z q one)

  close_same : (q : Square) → IsGateOrRing d geo cell z q ↔ IsGateOrRing d geo cell s q
  close_same q = (
    (λ h. record { square = h.square; in_part = (in_same h.square).0 h.in_part; around = h.around }),
    (λ h. record { square = h.square; in_part = (in_same h.square).1 h.in_part; around = h.around }),
  )

  side_same : (q : Square) → InSide d w u cell z q ↔ InSide d w u cell s q
  side_same q = (
    (λ h. record { ring = record { close = (close_same q).0 h.ring.close; outside = λ g. h.ring.outside ((in_same q).1 g) }; sd = h.sd }),
    (λ h. record { ring = record { close = (close_same q).1 h.ring.close; outside = λ g. h.ring.outside ((in_same q).0 g) }; sd = h.sd }),
  )

  pub group_same : (a b : Square) → InOneGroup d w u cell z a b ↔ InOneGroup d w u cell s a b
  group_same a b = (
    along (IsStep (InSide d w u cell z)) (IsStep (InSide d w u cell s)) (λ q. q) (λ x y h. single (IsStep (InSide d w u cell s)) x y (record { from = (side_same x).0 h.from; to = (side_same y).0 h.to; edge = h.edge })) a b,
    along (IsStep (InSide d w u cell s)) (IsStep (InSide d w u cell z)) (λ q. q) (λ x y h. single (IsStep (InSide d w u cell z)) x y (record { from = (side_same x).1 h.from; to = (side_same y).1 h.to; edge = h.edge })) a b,
  )

  border_same : (e : Edge) → IsBorder d w u cell z e ↔ IsBorder d w u cell s e
  border_same e = (
    (λ h. record { inside = (in_same e.inner).0 h.inside; outside = λ g. h.outside ((in_same e.outer).1 g); edge = h.edge }),
    (λ h. record { inside = (in_same e.inner).1 h.inside; outside = λ g. h.outside ((in_same e.outer).0 g); edge = h.edge }),
  )

  wide_same : (e : Edge) → IsWide d w u cell z e ↔ IsWide d w u cell s e
  wide_same e = ((λ h. record { border = (border_same e).0 h.border; sd = h.sd }), (λ h. record { border = (border_same e).1 h.border; sd = h.sd }))

  long_same : (e : Edge) → IsLong d w u cell z e ↔ IsLong d w u cell s e
  long_same e = ((λ h. record { border = (border_same e).0 h.border; other = h.other }), (λ h. record { border = (border_same e).1 h.border; other = h.other }))

  part_same : (e f : Edge) (m n : ℕ) → IsGoodPart (sheets d w u cell) (InGate d geo cell s) e f m n → IsGoodPart (sheets d w u cell) (InGate d geo cell z) e f m n
  part_same e f m n h = record {
    groups = classes_map (λ (x : Edge). x) (λ a b k. k) (IsWide d w u cell s) (IsWide d w u cell z) (λ a b. InOneGroup d w u cell s a.outer b.outer) (λ a b. InOneGroup d w u cell z a.outer b.outer) wide_same (λ a b. group_same a.outer b.outer) (λ b. (b, refl)) (e ∷ (f ∷ [])) h.groups;
    wide = counts_map (λ (x : Edge). x) (λ a b k. k) (IsWide d w u cell s) (IsWide d w u cell z) wide_same (λ b. (b, refl)) m h.wide;
    long = counts_map (λ (x : Edge). x) (λ a b k. k) (IsLong d w u cell s) (IsLong d w u cell z) long_same (λ b. (b, refl)) n h.long;
    some = h.some;
    gate_on = λ q i. h.gate_on q ((in_same q).0 i);
    ends_on = λ q i. h.ends_on q (elim i [ inl a ↦ inl ((group_same e.outer q).0 a) | inr a ↦ inr ((group_same f.outer q).0 a) ]);
    bulk_on = λ none q i. h.bulk_on none q ((in_same q).0 i);
  }

  area_same : (m n : ℕ) → IsGoodArea (sheets d w u cell) (InGate d geo cell s) m n → IsGoodArea (sheets d w u cell) (InGate d geo cell z) m n
  area_same m n h = record {
    area = counts_map (λ (x : Square). x) (λ a b k. k) (InGate d geo cell s) (InGate d geo cell z) in_same (λ b. (b, refl)) m h.area;
    some = h.some;
    edges = h.edges;
    border = counts_map (λ (x : Edge). x) (λ a b k. k) (IsBorder d w u cell s) (IsBorder d w u cell z) border_same (λ b. (b, refl)) h.edges h.border;
    twice = h.twice;
    ends_on = λ free q i. h.ends_on free q ((in_same q).0 i);
    bulk_on = λ none q i. h.bulk_on none q ((in_same q).0 i);
  }

  form_same : (form : Form) (sides : Sides) (m n : ℕ) → IsGoodForm form (sheets d w u cell) (InGate d geo cell s) sides m n → IsGoodForm form (sheets d w u cell) (InGate d geo cell z) sides m n
  form_same Beside (TwoGroups e f) m n h = part_same e f m n h
  form_same Beside Region m n h = absurd h
  form_same Alone (TwoGroups e f) m n h = absurd h
  form_same Alone Region m n h = area_same m n h

  pub good_same : (sides : Sides) (m n : ℕ) → IsGoodGate d w u cell s sides m n → IsGoodGate d w u cell z sides m n
  good_same sides m n h = form_same (form_of u.kind) sides m n h

  same_groups : (list : List Edge) → AreGroups d w u cell s list → AreGroups d w u cell z list
  same_groups list h = subst (λ l. AreGroups d w u cell z l) (map_same list)
      (classes_map (λ (x : Edge). x) (λ a b k. k) (IsWide d w u cell s) (IsWide d w u cell z) (λ a b. InOneGroup d w u cell s a.outer b.outer) (λ a b. InOneGroup d w u cell z a.outer b.outer) wide_same (λ a b. group_same a.outer b.outer) (λ b. (b, refl)) list h)
    where
      map_same : (l : List Edge) → map (λ (x : Edge). x) l ≡ l
      map_same [] = refl
      map_same (x ∷ xs) = ap (λ (ys : List Edge). x ∷ ys) (map_same xs)

  all_same : (set : Square → Type 0) → AllOn (InGate d geo cell s) set → AllOn (InGate d geo cell z) set
  all_same set h q i = h q ((in_same q).0 i)

  off_same : (set : Square → Type 0) → SomeOff (InGate d geo cell s) set → SomeOff (InGate d geo cell z) set
  off_same set (q, i, not) = (q, (in_same q).1 i, not)

  end_same : (e f : Edge) (q : Square) → InEnds (InGate d geo cell s) (InFlat d cell u.sd) e f q ↔ InEnds (InGate d geo cell z) (InFlat d cell u.sd) e f q
  end_same e f q = (
    (λ i. elim i [ inl a ↦ inl ((group_same e.outer q).1 a) | inr a ↦ inr ((group_same f.outer q).1 a) ]),
    (λ i. elim i [ inl a ↦ inl ((group_same e.outer q).0 a) | inr a ↦ inr ((group_same f.outer q).0 a) ]),
  )

  ends_same : (e f : Edge) (set : Square → Type 0) → AllOn (InEnds (InGate d geo cell s) (InFlat d cell u.sd) e f) set → AllOn (InEnds (InGate d geo cell z) (InFlat d cell u.sd) e f) set
  ends_same e f set h q i = h q ((end_same e f q).1 i)

  abbrev on_tg : Square → Type 0
  on_tg = gate_sheet u.kind (InFlat d cell (formula w u.tg))

  bad_part : (c : GateCause) → IsBadPart (sheets d w u cell) (InGate d geo cell s) c → IsBadPart (sheets d w u cell) (InGate d geo cell z) c
  bad_part (Groups count) (list, h, long, not) = (list, same_groups list h, long, not)
  bad_part OffGate (e, g, h, off) = (e, g, same_groups (e ∷ (g ∷ [])) h, off_same on_tg off)
  bad_part OffSd (e, g, h, tg, (q, i, not)) = (e, g, same_groups (e ∷ (g ∷ [])) h, all_same on_tg tg, (q, (end_same e g q).0 i, not))
  bad_part NoBulk (e, g, h, tg, ts, none, off) =
      (e, g, same_groups (e ∷ (g ∷ [])) h, all_same on_tg tg, ends_same e g (InFlat d cell (formula w u.ts)) ts, none, off_same (InFlat d cell (formula w u.tb)) off)
  bad_part NoLength (e, g, h, tg, ts, tb, none) = (
    e,
    g,
    same_groups (e ∷ (g ∷ [])) h,
    all_same on_tg tg,
    ends_same e g (InFlat d cell (formula w u.ts)) ts,
    (λ no. all_same (InFlat d cell (formula w u.tb)) (tb no)),
    counts_map (λ (x : Edge). x) (λ a b k. k) (IsLong d w u cell s) (IsLong d w u cell z) long_same (λ b. (b, refl)) 0 none,
  )

  bad_area : (c : GateCause) → IsBadArea (sheets d w u cell) (InGate d geo cell s) c → IsBadArea (sheets d w u cell) (InGate d geo cell z) c
  bad_area (Groups count) h = h
  bad_area OffGate h = h
  bad_area OffSd (free, off) = (free, off_same (InFlat d cell (formula w u.ts)) off)
  bad_area NoBulk (on, none, off) = ((λ free. all_same (InFlat d cell (formula w u.ts)) (on free)), none, off_same (InFlat d cell (formula w u.tb)) off)
  bad_area NoLength h = h

  bad_form : (form : Form) (c : GateCause) → IsBadForm form (sheets d w u cell) (InGate d geo cell s) c → IsBadForm form (sheets d w u cell) (InGate d geo cell z) c
  bad_form Beside c h = bad_part c h
  bad_form Alone c h = bad_area c h

  pub bad_same : (c : GateCause) → IsBadGate d w u cell s c → IsBadGate d w u cell z c
  bad_same c h = bad_form (form_of u.kind) c h

pub same_gate : SameGateLaw
same_gate d w u cell s q one = (good_same d w u cell s q one, bad_same d w u cell s q one)
