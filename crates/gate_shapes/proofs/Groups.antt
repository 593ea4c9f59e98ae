-- The groups of a part: the parts of its sides that touch it.
use Rattle.std.proofs.Common.{◌≡◌, ◌↔◌, inl, inr, ℕ, zero, suc, ◌+◌, ◌<◌, ◌≤◌, List, [], ◌∷◌, ◌++◌, Some, None, length, refl, sym, ◌∙◌, ap, subst, arith}
use Rattle.std.specs.Prelude.{slice_get}
use Rattle.std.proofs.Math.Decide.{ℕ_discrete}
use Rattle.std.proofs.lemmas.Bool.{cases_lt}
use Rattle.std.proofs.lemmas.Int.{ints}
use Rattle.std.proofs.lemmas.Option.{slice_get_within}
use Rattle.geo_base.specs.declared.shapes.Rect.{Rect}
use Rattle.geo_base.specs.declared.shapes.Square.{Square}
use Rattle.plain_netlist.specs.Chains.{Reaches}
use Rattle.plain_netlist.proofs.Links.{stays, single, both, back, along}
use Rattle.flat_layout.specs.Parts.{Edge, IsStep, InPart, InSideOf, InGroupOf, IsWideOf, AreGroupsOf}
use Rattle.plain_netlist.specs.Lists.{IsListed, AreApart}
use Rattle.flat_layout.specs.Plane.{SharesEdge, IsAround}
use Rattle.gate_shapes.specs.PartLists.{AreParts}
use Rattle.flat_layout.specs.Plane.{IsSquareBefore}
use Rattle.gate_shapes.specs.Sets.{in_set}
use Rattle.gate_shapes.specs.Shapes.{Meet, AreKept, KeptSoFar}
use Rattle.gate_shapes.proofs.Joined.{step_back}
use Rattle.gate_shapes.proofs.Members.{get_push}
use Rattle.gate_shapes.proofs.PartsOf.{end_in, before_after}

-- the loop over the parts

pub kept_none : (groups : List (List Rect)) (touched : List Rect) → KeptSoFar groups touched 0 []
kept_none groups touched = record {
  each = λ a i e. absurd (let f : None ≡ Some i = e in cc);
  found = λ i group lt e m. absurd (omega (arith, lt));
  rising = λ a b i j lt e f. absurd (let g : None ≡ Some i = e in cc);
}

pub kept_skip : (groups : List (List Rect)) (touched : List Rect) (n : ℕ) (kept : List ℕ) (group : List Rect) → slice_get groups n ≡ Some group → (Meet group touched → ⊥) → KeptSoFar groups touched n kept → KeptSoFar groups touched (n + 1) kept
kept_skip groups touched n kept group at not h = record {
  each = λ a i e. let k = h.each a i e in let lt = k.0 in (omega (arith, lt), k.1, k.2, k.3);
  found = λ i g lt e m. elim (cases_lt i n) [
    | inl lt' ↦ h.found i g lt' e m
    | inr le ↦
        let z : i ≡ n = omega arith in
        let same : group ≡ g = (let f : Some group ≡ Some g = sym at ∙ subst (λ (k : ℕ). slice_get groups k ≡ Some g) z e in cc) in
        absurd (not (subst (λ (s : List Rect). Meet s touched) (sym same) m))
  ];
  rising = h.rising;
}

at_end : (xs : List ℕ) (v : ℕ) → slice_get (xs ++ v ∷ []) (length xs) ≡ Some v
at_end [] v = refl
at_end (x ∷ xs) v = at_end xs v

before_end : (xs : List ℕ) (v u a : ℕ) → slice_get xs a ≡ Some u → slice_get (xs ++ v ∷ []) a ≡ Some u
before_end [] v u a e = absurd (let f : None ≡ Some u = e in cc)
before_end (x ∷ xs) v u zero e = e
before_end (x ∷ xs) v u (suc a) e = before_end xs v u a e

pub kept_push : (groups : List (List Rect)) (touched : List Rect) (n : ℕ) (kept : List ℕ) (group : List Rect) → slice_get groups n ≡ Some group → Meet group touched → KeptSoFar groups touched n kept → KeptSoFar groups touched (n + 1) (kept ++ n ∷ [])
kept_push groups touched n kept group at meet h = record {
  each = λ a i e. elim (get_push kept n i a e) [
    | inl f ↦ let k = h.each a i f in let lt = k.0 in (omega (arith, lt), k.1, k.2, k.3)
    | inr f ↦ let z = f.0 in (omega (arith, z), group, subst (λ (k : ℕ). slice_get groups k ≡ Some group) (sym z) at, meet)
  ];
  found = λ i g lt e m. elim (cases_lt i n) [
    | inl lt' ↦ (let k = h.found i g lt' e m in (k.0, before_end kept n i k.0 k.1))
    | inr le ↦ (let z : n ≡ i = omega arith in (length kept, at_end kept n ∙ ap (λ (k : ℕ). Some k) z))
  ];
  rising = λ a b i j lt e f. elim (get_push kept n i a e) [
    | inl x ↦ elim (get_push kept n j b f) [
      | inl y ↦ h.rising a b i j lt x y
      | inr y ↦ let w = (h.each a i x).0 in let z = y.0 in omega (arith, w, z)
    ]
    | inr x ↦ elim (get_push kept n j b f) [
      | inl y ↦ (let w = slice_get_within kept b j y in let z = x.1 in absurd (omega (arith, w, z, lt)))
      | inr y ↦ (let w = y.1 in let z = x.1 in absurd (omega (arith, w, z, lt)))
    ]
  ];
}

pub kept_all : (groups : List (List Rect)) (touched : List Rect) (n : ℕ) (kept : List ℕ) → length groups ≤ n → KeptSoFar groups touched n kept → AreKept groups touched kept
kept_all groups touched n kept le h = record {
  each = λ a i e. let k = h.each a i e in (k.1, k.2, k.3);
  found = λ i g e m. let w = slice_get_within groups i g e in h.found i g (omega (arith, w, le)) e m;
  rising = h.rising;
}

pub around_self : (q : Square) → IsAround q q
around_self q = record { left = omega (arith, ints); right = omega (arith, ints); low = omega (arith, ints); high = omega (arith, ints) }

pub beside_around : (p q : Square) → SharesEdge p q → IsAround p q
beside_around p q (inl (a, inl b)) = record { left = omega (arith, ints); right = omega (arith, ints); low = omega (arith, ints); high = omega (arith, ints) }
beside_around p q (inl (a, inr b)) = record { left = omega (arith, ints); right = omega (arith, ints); low = omega (arith, ints); high = omega (arith, ints) }
beside_around p q (inr (a, inl b)) = record { left = omega (arith, ints); right = omega (arith, ints); low = omega (arith, ints); high = omega (arith, ints) }
beside_around p q (inr (a, inr b)) = record { left = omega (arith, ints); right = omega (arith, ints); low = omega (arith, ints); high = omega (arith, ints) }

-- parts of a set

turned : (S : Square → Type 0) (p q : Square) → Reaches (IsStep S) p q → Reaches (IsStep S) q p
turned S p q h = back (IsStep S) (step_back S) p q h

part_end : (S : Square → Type 0) (p q : Square) → InPart S p q → S q
part_end S p q h = end_in S p q h.joined.via h.from h.joined.chain

pub same_square_parts : (set : List Rect) (groups : List (List Rect)) (i j : ℕ) (a b : List Rect) (q : Square) → AreParts set groups → slice_get groups i ≡ Some a → slice_get groups j ≡ Some b → in_set a q → in_set b q → i ≡ j
same_square_parts set groups i j a b q are e f h g =
    elim (ℕ_discrete i j) [
      | yes z ↦ z
      | no not ↦ elim (cases_lt i j) [
        | inl lt ↦ absurd (clash i j a b lt e f h g)
        | inr le ↦ absurd (clash j i b a (omega (arith, not)) f e g h)
      ]
    ]
  where
    clash : (i j : ℕ) (a b : List Rect) → i < j → slice_get groups i ≡ Some a → slice_get groups j ≡ Some b → in_set a q → in_set b q → ⊥
    clash i j a b lt e f h g =
        let s = are.each i a e in
        let t = are.each j b f in
        let S : Square → Type 0 = in_set set in
        let sq = (s.1.same q).0 h in
        let tq = (t.1.same q).0 g in
        let st = both (IsStep S) s.0 q t.0 sq.joined (turned S t.0 q tq.joined) in
        let t_in_a : in_set a t.0 = (s.1.same t.0).1 (record { from = sq.from; joined = st }) in
        let s_in_b : in_set b s.0 = (t.1.same s.0).1 (record { from = tq.from; joined = turned S s.0 t.0 st }) in
        let before = are.order i j a b s.0 t.0 lt e f s.1.least t.1.least in
        elim (t.1.least.least s.0 s_in_b) [
          | inl same ↦ let self : IsSquareBefore s.0 s.0 = subst (λ (v : Square). IsSquareBefore s.0 v) same before in before_after s.0 s.0 self self
          | inr after ↦ before_after s.0 t.0 before after
        ]

module _ (part ends sides touched : List Rect) (groups : List (List Rect)) (kept : List ℕ)
    (beside : (q : Square) → in_set sides q ↔ InSideOf (in_set part) (in_set ends) q)
    (touching : (q : Square) → in_set touched q ↔ ((e : Edge) × IsWideOf (in_set part) (in_set ends) e × (e.outer ≡ q)))
    (are : AreParts sides groups) (hold : AreKept groups touched kept) where
  abbrev P : Square → Type 0
  P = in_set part

  abbrev E : Square → Type 0
  E = in_set ends

  abbrev Side : Square → Type 0
  Side = InSideOf P E

  to_side : (a b : Square) → IsStep (in_set sides) a b → IsStep Side a b
  to_side a b h = record { from = (beside a).0 h.from; to = (beside b).0 h.to; edge = h.edge }

  from_side : (a b : Square) → IsStep Side a b → IsStep (in_set sides) a b
  from_side a b h = record { from = (beside a).1 h.from; to = (beside b).1 h.to; edge = h.edge }

  reach_side : (a b : Square) → Reaches (IsStep (in_set sides)) a b → InGroupOf P E a b
  reach_side a b h = along (IsStep (in_set sides)) (IsStep Side) (λ v. v) (λ x y g. single (IsStep Side) x y (to_side x y g)) a b h

  side_reach : (a b : Square) → InGroupOf P E a b → Reaches (IsStep (in_set sides)) a b
  side_reach a b h = along (IsStep Side) (IsStep (in_set sides)) (λ v. v) (λ x y g. single (IsStep (in_set sides)) x y (from_side x y g)) a b h

  -- an edge of the group at a place
  pub record IsGroupAt (i : ℕ) (e : Edge) : Type 0 where
    pub group : List Rect
    pub at : slice_get groups i ≡ Some group
    pub wide : IsWideOf P E e
    pub here : in_set group e.outer

  -- the group's squares are those that its edge leads to
  pub group_squares : (i : ℕ) (e : Edge) (h : IsGroupAt i e) → (q : Square) → in_set h.group q ↔ InGroupOf P E e.outer q
  group_squares i e h q =
      let s = are.each i h.group h.at in
      let start = (s.1.same e.outer).0 h.here in (
        (λ g. let way = (s.1.same q).0 g in reach_side e.outer q (both (IsStep (in_set sides)) e.outer s.0 q (turned (in_set sides) s.0 e.outer start.joined) way.joined)),
        (λ g. (s.1.same q).1 (record { from = start.from; joined = both (IsStep (in_set sides)) s.0 e.outer q start.joined (side_reach e.outer q g) })),
      )

  group_at : (a i : ℕ) → slice_get kept a ≡ Some i → (e : Edge) × IsGroupAt i e
  group_at a i at =
      let k = hold.each a i at in
      let t = (touching k.2.0).0 k.2.2 in
      (t.0, record { group = k.0; at = k.1; wide = t.1; here = subst (λ (v : Square). in_set k.0 v) (sym t.2) k.2.1 })

  abbrev Pairs : List ℕ → List Edge → Type 0
  Pairs [] [] = Unit {0}
  Pairs [] (e ∷ es) = ⊥
  Pairs (i ∷ is) [] = ⊥
  Pairs (i ∷ is) (e ∷ es) = IsGroupAt i e × Pairs is es

  edges_of : (is : List ℕ) → ((a i : ℕ) → slice_get is a ≡ Some i → (e : Edge) × IsGroupAt i e) → (es : List Edge) × Pairs is es
  edges_of [] each = ([], tt)
  edges_of (i ∷ is) each = let e = each zero i refl in let rest = edges_of is (λ a j f. each (suc a) j f) in (e.0 ∷ rest.0, (e.1, rest.1))

  pair_of : (is : List ℕ) (es : List Edge) (e : Edge) → Pairs is es → IsListed e es → (a : ℕ) × (i : ℕ) × (slice_get is a ≡ Some i) × IsGroupAt i e
  pair_of [] [] e h l = absurd l
  pair_of [] (f ∷ es) e h l = absurd h
  pair_of (i ∷ is) [] e h l = absurd h
  pair_of (i ∷ is) (f ∷ es) e h (inl same) = (zero, i, refl, subst (λ (x : Edge). IsGroupAt i x) (sym same) h.0)
  pair_of (i ∷ is) (f ∷ es) e h (inr l) = let p = pair_of is es e h.1 l in (suc p.0, p.1, p.2, p.3)

  edge_of : (is : List ℕ) (es : List Edge) (a i : ℕ) → Pairs is es → slice_get is a ≡ Some i → (e : Edge) × IsListed e es × IsGroupAt i e
  edge_of [] es a i h at = absurd (let f : None ≡ Some i = at in cc)
  edge_of (j ∷ is) [] a i h at = absurd h
  edge_of (j ∷ is) (e ∷ es) zero i h at = (e, inl refl, subst (λ (n : ℕ). IsGroupAt n e) (let f : Some j ≡ Some i = at in cc) h.0)
  edge_of (j ∷ is) (e ∷ es) (suc a) i h at = let p = edge_of is es a i h.1 at in (p.0, inr p.1, p.2)

  one_group : (i j : ℕ) (e f : Edge) → IsGroupAt i e → IsGroupAt j f → InGroupOf P E e.outer f.outer → i ≡ j
  one_group i j e f h g way = same_square_parts sides groups i j h.group g.group f.outer are h.at g.at ((group_squares i e h f.outer).1 way) g.here

  Rising : List ℕ → Type 0
  Rising is = (a b i j : ℕ) → a < b → slice_get is a ≡ Some i → slice_get is b ≡ Some j → i < j

  rest_rising : (i : ℕ) (is : List ℕ) → Rising (i ∷ is) → Rising is
  unfolding Rising
  rest_rising i is h a b j k lt e f = h (suc a) (suc b) j k (omega arith) e f

  head_differs : (i j a : ℕ) (is : List ℕ) → Rising (i ∷ is) → slice_get is a ≡ Some j → i ≡ j → ⊥
  unfolding Rising
  head_differs i j a is h e z = let lt = h zero (suc a) i j (omega arith) refl e in omega (arith, lt, z)

  one_edge : (is : List ℕ) (es : List Edge) → Rising is → Pairs is es → (e f : Edge) → IsListed e es → IsListed f es → InGroupOf P E e.outer f.outer → e ≡ f
  one_edge [] [] r h e f l m way = absurd l
  one_edge [] (x ∷ es) r h e f l m way = absurd h
  one_edge (i ∷ is) [] r h e f l m way = absurd h
  one_edge (i ∷ is) (x ∷ es) r h e f (inl le) (inl lf) way = le ∙ sym lf
  one_edge (i ∷ is) (x ∷ es) r h e f (inl le) (inr lf) way =
      let p = pair_of is es f h.1 lf in
      absurd (head_differs i p.1 p.0 is r p.2 (one_group i p.1 e f (subst (λ (y : Edge). IsGroupAt i y) (sym le) h.0) p.3 way))
  one_edge (i ∷ is) (x ∷ es) r h e f (inr le) (inl lf) way =
      let p = pair_of is es e h.1 le in
      absurd (head_differs i p.1 p.0 is r p.2 (sym (one_group p.1 i e f p.3 (subst (λ (y : Edge). IsGroupAt i y) (sym lf) h.0) way)))
  one_edge (i ∷ is) (x ∷ es) r h e f (inr le) (inr lf) way = one_edge is es (rest_rising i is r) h.1 e f le lf way

  edges_apart : (is : List ℕ) (es : List Edge) → Rising is → Pairs is es → AreApart es
  edges_apart [] [] r h = tt
  edges_apart [] (x ∷ es) r h = absurd h
  edges_apart (i ∷ is) [] r h = absurd h
  edges_apart (i ∷ is) (x ∷ es) r h = (
    (λ l. let p = pair_of is es x h.1 l in head_differs i p.1 p.0 is r p.2 (one_group i p.1 x x h.0 p.3 (stays (IsStep Side) x.outer x.outer refl))),
    edges_apart is es (rest_rising i is r) h.1,
  )

  outer_side : (e : Edge) → IsWideOf P E e → Side e.outer
  outer_side e h = record {
    ring = record { close = record { square = e.inner; in_part = h.border.inside; around = beside_around e.inner e.outer h.border.edge }; outside = h.border.outside };
    sd = h.sd;
  }

  found_edge : (es : List Edge) → Pairs kept es → (e : Edge) → IsWideOf P E e → (f : Edge) × IsListed f es × InGroupOf P E e.outer f.outer
  found_edge es pairs e wide =
      let place = are.found e.outer ((beside e.outer).1 (outer_side e wide)) in
      let meet : Meet place.1 touched = (e.outer, place.3, (touching e.outer).1 (e, wide, refl)) in
      let k = hold.found place.0 place.1 place.2 meet in
      let f = edge_of kept es k.0 place.0 pairs k.1 in
      let same : f.2.group ≡ place.1 = (let g : Some f.2.group ≡ Some place.1 = sym f.2.at ∙ place.2 in cc) in
      (f.0, f.1, turned_group f.0.outer e.outer ((group_squares place.0 f.0 f.2 e.outer).0 (subst (λ (s : List Rect). in_set s e.outer) (sym same) place.3)))
    where
      turned_group : (a b : Square) → InGroupOf P E a b → InGroupOf P E b a
      turned_group a b h = back (IsStep Side) (step_back Side) a b h

  are_groups : (es : List Edge) → Pairs kept es → AreGroupsOf P E es
  unfolding Rising
  are_groups es pairs = record {
    each = λ e l. (pair_of kept es e pairs l).3.wide;
    found = λ e wide. found_edge es pairs e wide;
    one = λ e f l m way. one_edge kept es hold.rising pairs e f l m way;
    apart = edges_apart kept es hold.rising pairs;
  }

  pairs_long : (is : List ℕ) (es : List Edge) → Pairs is es → length es ≡ length is
  pairs_long [] [] h = refl
  pairs_long [] (e ∷ es) h = absurd h
  pairs_long (i ∷ is) [] h = absurd h
  pairs_long (i ∷ is) (e ∷ es) h = ap (λ (n : ℕ). suc n) (pairs_long is es h.1)

  -- any number of groups
  pub all_groups : (es : List Edge) × AreGroupsOf P E es × (length es ≡ length kept)
  all_groups = let p = edges_of kept group_at in (p.0, are_groups p.0 p.1, pairs_long kept p.0 p.1)

  -- two
  pub record AreTwo (i j : ℕ) : Type 0 where
    pub source : Edge
    pub drain : Edge
    pub groups_two : AreGroupsOf P E (source ∷ (drain ∷ []))
    pub first : IsGroupAt i source
    pub second : IsGroupAt j drain
    pub rising : i < j

  pub two_groups : (i j : ℕ) → kept ≡ i ∷ (j ∷ []) → AreTwo i j
  two_groups i j is =
      let at_i : slice_get kept 0 ≡ Some i = ap (λ (k : List ℕ). slice_get k 0) is in
      let at_j : slice_get kept 1 ≡ Some j = ap (λ (k : List ℕ). slice_get k 1) is in
      let e = group_at 0 i at_i in
      let f = group_at 1 j at_j in
      let pairs : Pairs kept (e.0 ∷ (f.0 ∷ [])) = subst (λ (k : List ℕ). Pairs k (e.0 ∷ (f.0 ∷ []))) (sym is) (e.1, (f.1, tt)) in
      record { source = e.0; drain = f.0; groups_two = are_groups (e.0 ∷ (f.0 ∷ [])) pairs; first = e.1; second = f.1; rising = hold.rising 0 1 i j (omega arith) at_i at_j }
