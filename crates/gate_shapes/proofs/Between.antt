-- A rectangle between two: its ends are two groups, so it is a good gate.
use Rattle.std.proofs.Common.{◌≡◌, ◌⊎◌, ◌↔◌, inl, inr, ℕ, zero, suc, ◌<◌, List, [], ◌∷◌, Some, None, Bool, true, refl, sym, subst, arith}
use Rattle.std.specs.Prelude.{slice_get}
use Rattle.std.proofs.lemmas.Int.{ints}
use Rattle.geo_base.specs.Rects.{IsRect}
use Rattle.geo_base.specs.declared.shapes.Rect.{Rect}
use Rattle.geo_base.specs.declared.shapes.Square.{Square}
use Rattle.plain_netlist.specs.Chains.{IsChain}
use Rattle.rect_sets.proofs.Splitting.{IsInside}
use Rattle.flat_layout.specs.Parts.{AllOn, IsLeast, IsStep, InPart, InSideOf}
use Rattle.flat_layout.specs.Plane.{SharesEdge, IsSquareBefore}
use Rattle.gate_shapes.specs.Borders.{IsBorder}
use Rattle.gate_shapes.specs.PartLists.{AreParts}
use Rattle.gate_shapes.specs.Plain.{corner}
use Rattle.gate_shapes.specs.Sets.{in_set}
use Rattle.gate_shapes.specs.Shapes.{AreKept, IsGood, sheets_of}
use Rattle.gate_shapes.specs.declared.shape.GateForm.{GateForm}
use Rattle.flat_laws.proofs.Squares.{edge_back}
use Rattle.gate_shapes.proofs.Joined.{walk}
use Rattle.gate_shapes.proofs.Judging.{AreJudged, good_law}
use Rattle.gate_shapes.proofs.PartsOf.{least_of, one_least}
use Rattle.gate_shapes.proofs.Strips.{one_has, has_one, two_have, has_first, has_second}

corner_inside : (r : Rect) → IsRect r → IsInside r (corner r)
corner_inside r h = let w = h.wide in let t = h.high in record { x1 = omega (arith, ints); x2 = w; y1 = omega (arith, ints); y2 = t }

least_one : (r : Rect) → IsRect r → IsLeast (in_set (r ∷ [])) (corner r)
least_one r good = least_of r [] (tt, tt) (λ s l. elim l [ inl e ↦ subst (λ (t : Rect). IsRect t) (sym e) good | inr n ↦ absurd n ])

module _ (a b : Rect) (good_a : IsRect a) (good_b : IsRect b) (apart : (p q : Square) → IsInside a p → IsInside b q → SharesEdge p q → ⊥) where
  abbrev both : List Rect
  both = a ∷ (b ∷ [])

  abbrev S : Square → Type 0
  S = in_set both

  stays_first : (p q : Square) (via : List Square) → IsInside a p → IsChain (IsStep S) p via q → IsInside a q
  stays_first p q [] h chain = subst (λ (v : Square). IsInside a v) chain h
  stays_first p q (x ∷ via) h chain = elim (two_have a b x chain.0.to) [
    | inl here ↦ stays_first x q via here chain.1
    | inr there ↦ absurd (apart p x h there chain.0.edge)
  ]

  stays_second : (p q : Square) (via : List Square) → IsInside b p → IsChain (IsStep S) p via q → IsInside b q
  stays_second p q [] h chain = subst (λ (v : Square). IsInside b v) chain h
  stays_second p q (x ∷ via) h chain = elim (two_have a b x chain.0.to) [
    | inl there ↦ absurd (apart x p there h (edge_back p x chain.0.edge))
    | inr here ↦ stays_second x q via here chain.1
  ]

  first_part : (q : Square) → in_set (a ∷ []) q ↔ InPart S (corner a) q
  first_part q = (
    (λ e. record { from = has_first a b (corner a) (corner_inside a good_a); joined = walk both a (corner a) q (inl refl) (corner_inside a good_a) (one_has a q e) }),
    (λ h. has_one a q (stays_first (corner a) q h.joined.via (corner_inside a good_a) h.joined.chain)),
  )

  second_part : (q : Square) → in_set (b ∷ []) q ↔ InPart S (corner b) q
  second_part q = (
    (λ e. record { from = has_second a b (corner b) (corner_inside b good_b); joined = walk both b (corner b) q (inr (inl refl)) (corner_inside b good_b) (one_has b q e) }),
    (λ h. has_one b q (stays_second (corner b) q h.joined.via (corner_inside b good_b) h.joined.chain)),
  )

  abbrev groups : List (List Rect)
  groups = (a ∷ []) ∷ ((b ∷ []) ∷ [])

  part_at : (i : ℕ) (part : List Rect) → slice_get groups i ≡ Some part → ((i ≡ 0) × (part ≡ a ∷ [])) ⊎ ((i ≡ 1) × (part ≡ b ∷ []))
  part_at zero part e = inl (refl, let f : Some (a ∷ []) ≡ Some part = e in cc)
  part_at (suc zero) part e = inr (refl, let f : Some (b ∷ []) ≡ Some part = e in cc)
  part_at (suc (suc i)) part e = absurd (let f : None ≡ Some part = e in cc)

  least_at : (r : Rect) (part : List Rect) (s : Square) → IsRect r → part ≡ r ∷ [] → IsLeast (in_set part) s → s ≡ corner r
  least_at r part s good e h = one_least (in_set (r ∷ [])) s (corner r) (subst (λ (l : List Rect). IsLeast (in_set l) s) e h) (least_one r good)

  two_parts : IsSquareBefore (corner a) (corner b) → AreParts both groups
  two_parts before = record {
    each = λ i part e. elim (part_at i part e) [
      | inl f ↦ (corner a, record { least = subst (λ (l : List Rect). IsLeast (in_set l) (corner a)) (sym f.1) (least_one a good_a); same = λ q. subst (λ (l : List Rect). in_set l q ↔ InPart S (corner a) q) (sym f.1) (first_part q) })
      | inr f ↦ (corner b, record { least = subst (λ (l : List Rect). IsLeast (in_set l) (corner b)) (sym f.1) (least_one b good_b); same = λ q. subst (λ (l : List Rect). in_set l q ↔ InPart S (corner b) q) (sym f.1) (second_part q) })
    ];
    found = λ q e. elim (two_have a b q e) [
      | inl h ↦ (0, a ∷ [], refl, has_one a q h)
      | inr h ↦ (1, b ∷ [], refl, has_one b q h)
    ];
    order = λ i j one other s t lt e f ls lt'. elim (part_at i one e) [
      | inl g ↦ elim (part_at j other f) [
        | inl k ↦ let z = g.0 in let y = k.0 in absurd (omega (arith, z, y, lt))
        | inr k ↦ subst (λ (v : Square). IsSquareBefore v t) (sym (least_at a one s good_a g.1 ls)) (subst (λ (v : Square). IsSquareBefore (corner a) v) (sym (least_at b other t good_b k.1 lt')) before)
      ]
      | inr g ↦ elim (part_at j other f) [
        | inl k ↦ let z = g.0 in let y = k.0 in absurd (omega (arith, z, y, lt))
        | inr k ↦ let z = g.0 in let y = k.0 in absurd (omega (arith, z, y, lt))
      ]
    ];
  }

  abbrev places : List ℕ
  places = 0 ∷ (1 ∷ [])

  place_at : (n i : ℕ) → slice_get places n ≡ Some i → ((n ≡ 0) × (i ≡ 0)) ⊎ ((n ≡ 1) × (i ≡ 1))
  place_at zero i e = inl (refl, let f : Some 0 ≡ Some i = e in cc)
  place_at (suc zero) i e = inr (refl, let f : Some 1 ≡ Some i = e in cc)
  place_at (suc (suc n)) i e = absurd (let f : None ≡ Some i = e in cc)

  both_kept : AreKept groups both places
  both_kept = record {
    each = λ n i e. elim (place_at n i e) [
      | inl h ↦ (a ∷ [], subst (λ (k : ℕ). slice_get groups k ≡ Some (a ∷ [])) (sym h.1) refl, (corner a, has_one a (corner a) (corner_inside a good_a), has_first a b (corner a) (corner_inside a good_a)))
      | inr h ↦ (b ∷ [], subst (λ (k : ℕ). slice_get groups k ≡ Some (b ∷ [])) (sym h.1) refl, (corner b, has_one b (corner b) (corner_inside b good_b), has_second a b (corner b) (corner_inside b good_b)))
    ];
    found = λ i group e m. elim (part_at i group e) [
      | inl f ↦ (0, subst (λ (k : ℕ). slice_get places 0 ≡ Some k) (sym f.0) refl)
      | inr f ↦ (1, subst (λ (k : ℕ). slice_get places 1 ≡ Some k) (sym f.0) refl)
    ];
    rising = λ m n i j lt e f. elim (place_at m i e) [
      | inl h ↦ elim (place_at n j f) [
        | inl k ↦ let z = h.0 in let y = k.0 in absurd (omega (arith, z, y, lt))
        | inr k ↦ let z = h.1 in let y = k.1 in omega (arith, z, y)
      ]
      | inr h ↦ elim (place_at n j f) [
        | inl k ↦ let z = h.0 in let y = k.0 in absurd (omega (arith, z, y, lt))
        | inr k ↦ let z = h.0 in let y = k.0 in absurd (omega (arith, z, y, lt))
      ]
    ];
  }

  -- a part with these two ends along its sides, on their conductors
  pub two_ends : (part ends on_ends on_gate on_bulk : List Rect) (loose : Bool) (f : GateForm) → ((q : Square) → in_set both q ↔ InSideOf (in_set part) (in_set ends) q)
      → IsBorder part ends (record { wide = f.twice_w; long = f.twice_l; touched = both }) → IsSquareBefore (corner a) (corner b) → 0 < f.twice_l → f.source ≡ corner a → f.drain ≡ corner b
      → AllOn (in_set part) (in_set on_gate) → AllOn (in_set (a ∷ [])) (in_set on_ends) → AllOn (in_set (b ∷ [])) (in_set on_ends) → (loose ≡ true → AllOn (in_set part) (in_set on_bulk))
      → IsGood (sheets_of ends on_ends on_gate on_bulk loose) (in_set part) f
  two_ends part ends on_ends on_gate on_bulk loose f beside border before some es ed gate source drain bulk =
      let they : AreJudged part ends both both groups places 0 1 (a ∷ []) (b ∷ []) = record {
        beside = beside;
        touching = border.touched;
        are = two_parts before;
        hold = both_kept;
        is = refl;
        at_i = refl;
        at_j = refl;
      } in
      good_law they on_ends on_gate on_bulk loose f.twice_w f.twice_l border.wide border.long
      f.source f.drain (gate, (source, drain), bulk, some)
      (subst (λ (s : Square). IsLeast (in_set (a ∷ [])) s) (sym es) (least_one a good_a))
      (subst (λ (s : Square). IsLeast (in_set (b ∷ [])) s) (sym ed) (least_one b good_b))
