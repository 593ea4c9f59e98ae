-- What the four arrays bring, as squares that have siblings.
use Rattle.std.proofs.Common.{◌≡◌, ◌⊎◌, inl, inr, ℕ, ◌<◌, ◌-◌, ◌*◌, true, false, ◌&&◌, ◌||◌, List, [], ◌∷◌, ◌++◌, sym, ◌∙◌, ap, subst}
use Rattle.std.proofs.lemmas.Bool.{and_parts, and_from, or_cases, or_left, or_right}
use Rattle.geo_base.specs.Motions.{moved_square}
use Rattle.geo_base.specs.Rects.{has, moved_rect, IsRect}
use Rattle.geo_base.specs.Laws.{IsUndone}
use Rattle.geo_base.proofs.Spans.{moved_rect-has}
use Rattle.geo_base.specs.declared.layer.LayerKey.{LayerKey}
use Rattle.geo_base.specs.declared.motion.Motion.{Motion}
use Rattle.geo_base.specs.declared.shapes.Rect.{Rect}
use Rattle.geo_base.specs.declared.shapes.Square.{Square}
use Rattle.rect_sets.specs.Rects.{covers}
use Rattle.flat_layout.specs.Layout.{Some_of}
use Rattle.cell_graph.specs.declared.cells.Place.{Place}
use Rattle.cell_graph.specs.Linked.{Linked, motion_at}
use Rattle.cell_context.proofs.Collecting.{covers_append}
use Rattle.deep_laws.specs.Zones.{IsFromSibling}
use Rattle.zone_phase.specs.Pulls.{IsSome, Adds, OnRects, OnRectsIn, Beside, BesideIn, AreCovering, Why}
use Rattle.zone_phase.specs.Siblings.{ahead, all_columns, back, row_siblings, siblings, IsBroughtBy, IsBroughtTo, Brings, SomeBring}
use Rattle.zone_phase.proofs.Around.{begun, sibling}
use Rattle.zone_phase.proofs.Joining.{joined}

-- what no array brings, and what one more brings
no_more : (d : Linked) (key : LayerKey) (w : Rect) (old : List Rect) → SomeBring d [] key w old old
no_more d key w old s = ((λ e. inl e), (λ h. elim h [ inl e ↦ e | inr g ↦ absurd g.1 ]))

one_more : (d : Linked) (v : Place) (vs : List Place) (key : LayerKey) (w : Rect) (old mid new : List Rect) → Brings d v key w old mid → SomeBring d vs key w mid new → SomeBring d (v ∷ vs) key w old new
one_more d v vs key w old mid new first rest s = (
  λ e. elim ((rest s).0 e) [
    | inr g ↦ inr (g.0, inr g.1)
    | inl f ↦ elim ((first s).0 f) [ inl o ↦ inl o | inr g ↦ inr (g.0, inl g.1) ]
  ],
  λ h. elim h [
    | inl o ↦ (rest s).1 (inl ((first s).1 (inl o)))
    | inr g ↦ elim g.1 [ inl b ↦ (rest s).1 (inl ((first s).1 (inr (g.0, b)))) | inr c ↦ (rest s).1 (inr (g.0, c)) ]
  ],
)

-- the other elements of a row
pub row_brings : (d : Linked) (p : Place) (key : LayerKey) (w : Rect) (t0 t1 t2 : List Rect)
    → Brings d (begun p 0 0 1 0 1 (p.columns - 1)) key w t0 t1
    → Brings d (begun p 0 0 0 (p.columns - 1) 1 (p.columns - 1)) key w t1 t2
    → SomeBring d (row_siblings p) key w t0 t2
row_brings d p key w t0 t1 t2 b1 b2 =
    let left = begun p 0 0 0 (p.columns - 1) 1 (p.columns - 1) in
    one_more d (begun p 0 0 1 0 1 (p.columns - 1)) (left ∷ []) key w t0 t1 t2 b1 (one_more d left [] key w t1 t2 t2 b2 (no_more d key w t2))

-- the four arrays
pub others_bring : (d : Linked) (p : Place) (key : LayerKey) (w : Rect) (t0 t1 t2 t3 : List Rect)
    → Brings d (all_columns p (ahead 1 (p.rows - 1))) key w t0 t1
    → Brings d (all_columns p (back (p.rows - 1) (p.rows - 1))) key w t1 t2
    → SomeBring d (row_siblings p) key w t2 t3
    → SomeBring d (siblings p) key w t0 t3
others_bring d p key w t0 t1 t2 t3 b1 b2 b3 =
    let below = all_columns p (back (p.rows - 1) (p.rows - 1)) in
    one_more d (all_columns p (ahead 1 (p.rows - 1))) (below ∷ row_siblings p) key w t0 t1 t3 b1 (one_more d below (row_siblings p) key w t1 t2 t3 b2 b3)

module _ (d : Linked) (p : Place) (key : LayerKey) (w : Rect) (t0 t1 : List Rect) (none : t0 ≡ []) (brought : SomeBring d (siblings p) key w t0 t1) (q : Square) where
  by : (up down right left rows columns : ℕ) → IsBroughtTo d (begun p up down right left rows columns) key (moved_square (motion_at p 0 0) q) → IsBroughtBy d p key q (begun p up down right left rows columns)
  by up down right left rows columns b = record { row = b.row; column = b.column; row_in = b.row_in; column_in = b.column_in; square = b.square; flat = b.flat; image = b.image }

  to : (up down right left rows columns : ℕ) → IsBroughtBy d p key q (begun p up down right left rows columns) → IsBroughtTo d (begun p up down right left rows columns) key (moved_square (motion_at p 0 0) q)
  to up down right left rows columns b = record { row = b.row; column = b.column; row_in = b.row_in; column_in = b.column_in; square = b.square; flat = b.flat; image = b.image }

  some_by : Some_of (λ v. IsBroughtTo d v key (moved_square (motion_at p 0 0) q)) (siblings p) → Some_of (IsBroughtBy d p key q) (siblings p)
  some_by (inl b) = inl (by 1 0 0 (p.columns - 1) (p.rows - 1) (2 * p.columns - 1) b)
  some_by (inr (inl b)) = inr (inl (by 0 (p.rows - 1) 0 (p.columns - 1) (p.rows - 1) (2 * p.columns - 1) b))
  some_by (inr (inr (inl b))) = inr (inr (inl (by 0 0 1 0 1 (p.columns - 1) b)))
  some_by (inr (inr (inr (inl b)))) = inr (inr (inr (inl (by 0 0 0 (p.columns - 1) 1 (p.columns - 1) b))))
  some_by (inr (inr (inr (inr b)))) = absurd b

  some_to : Some_of (IsBroughtBy d p key q) (siblings p) → Some_of (λ v. IsBroughtTo d v key (moved_square (motion_at p 0 0) q)) (siblings p)
  some_to (inl b) = inl (to 1 0 0 (p.columns - 1) (p.rows - 1) (2 * p.columns - 1) b)
  some_to (inr (inl b)) = inr (inl (to 0 (p.rows - 1) 0 (p.columns - 1) (p.rows - 1) (2 * p.columns - 1) b))
  some_to (inr (inr (inl b))) = inr (inr (inl (to 0 0 1 0 1 (p.columns - 1) b)))
  some_to (inr (inr (inr (inl b)))) = inr (inr (inr (inl (to 0 0 0 (p.columns - 1) 1 (p.columns - 1) b))))
  some_to (inr (inr (inr (inr b)))) = absurd b

  pub to_sibling : covers t1 (moved_square (motion_at p 0 0) q) ≡ true → Some_of (IsBroughtBy d p key q) (siblings p)
  to_sibling e = elim ((brought (moved_square (motion_at p 0 0) q)).0 e) [
    | inr b ↦ some_by b.1
    | inl o ↦ let f : false ≡ true = subst (λ l. covers l (moved_square (motion_at p 0 0) q) ≡ true) none o in absurd (let z : ⊥ = cc in z)
  ]

  pub of_sibling : has w (moved_square (motion_at p 0 0) q) ≡ true → Some_of (IsBroughtBy d p key q) (siblings p) → covers t1 (moved_square (motion_at p 0 0) q) ≡ true
  of_sibling h b = (brought (moved_square (motion_at p 0 0) q)).1 (inr (h, some_to b))

-- the images moved back onto the first element are the squares that have siblings
pub siblings_add : (d : Linked) (p : Place) (key : LayerKey) (g w : Rect) (first back : Motion) (t0 t1 m0 more old new : List Rect) → 0 < p.rows → 0 < p.columns → IsRect g → t0 ≡ [] → m0 ≡ []
    → first ≡ motion_at p 0 0 → w ≡ moved_rect (motion_at p 0 0) g → IsUndone first back
    → SomeBring d (siblings p) key w t0 t1
    → ((s : Square) → covers more (moved_square back s) ≡ (covers m0 (moved_square back s) || (covers t1 s && has g (moved_square back s)))) → new ≡ old ++ more
    → Adds p g (λ row column q. IsFromSibling d p row column key q) old new
siblings_add d p key g w first back t0 t1 m0 more old new some_rows some_columns some none none' is at undone brought images e q = (to, from)
  where
    here : covers more q ≡ (covers t1 (moved_square (motion_at p 0 0) q) && has g q)
    here =
        let u = undone.squares q in
        let x = images (moved_square first q) in
        ap (covers more) (sym u) ∙ x ∙ ap (λ l. covers l (moved_square back (moved_square first q)) || (covers t1 (moved_square first q) && has g (moved_square back (moved_square first q)))) none'
        ∙ ap (λ s. covers t1 (moved_square first q) && has g s) u ∙ ap (λ (m : Motion). covers t1 (moved_square m q) && has g q) is

    all : covers new q ≡ (covers old q || covers more q)
    all = ap (λ l. covers l q) e ∙ covers_append old more q

    to : covers new q ≡ true → (covers old q ≡ true) ⊎ IsSome p g (λ row column q. IsFromSibling d p row column key q) q
    to f = elim (or_cases (covers old q) (covers more q) (sym all ∙ f)) [
      | inl h ↦ inl h
      | inr h ↦
          let i : (covers t1 (moved_square (motion_at p 0 0) q) && has g q) ≡ true = sym here ∙ h in
          let s = (sibling d p key q some_rows some_columns).1 (to_sibling d p key w t0 t1 none brought q ((and_parts (covers t1 (moved_square (motion_at p 0 0) q)) (has g q) i).0)) in
          inr (record { row = s.row; column = s.column; row_in = s.row_in; column_in = s.column_in; inner = (and_parts (covers t1 (moved_square (motion_at p 0 0) q)) (has g q) i).1; holds = s.sibling })
    ]

    from : (covers old q ≡ true) ⊎ IsSome p g (λ row column q. IsFromSibling d p row column key q) q → covers new q ≡ true
    from (inl h) = all ∙ or_left (covers old q) (covers more q) h
    from (inr s) =
        let b = (sibling d p key q some_rows some_columns).0 (record { row = s.row; column = s.column; row_in = s.row_in; column_in = s.column_in; sibling = s.holds }) in
        let inside : has w (moved_square (motion_at p 0 0) q) ≡ true = subst (λ x. has x (moved_square (motion_at p 0 0) q) ≡ true) (sym at) (moved_rect-has (motion_at p 0 0) g q some ∙ s.inner) in
        let t = of_sibling d p key w t0 t1 none brought q inside b in
        all ∙ or_right (covers old q) (covers more q) (here ∙ and_from (covers t1 (moved_square (motion_at p 0 0) q)) (has g q) t s.inner)

-- the three kinds together
pub reference_adds : (d : Linked) (zone windows : List Rect) (parent index : ℕ) (key : LayerKey) (p : Place) (g : Rect) (o1 o2 o3 o4 : List Rect) → AreCovering p g windows
    → Adds p g (OnRectsIn windows p zone) o1 o2 → Adds p g (BesideIn windows d parent index key p) o2 o3 → Adds p g (λ row column q. IsFromSibling d p row column key q) o3 o4 → Adds p g (Why zone d parent index key p) o1 o4
reference_adds d zone windows parent index key p g o1 o2 o3 o4 covering a b c =
    joined p g (λ row column q. OnRects p zone row column q ⊎ Beside d parent index key p row column q) (λ row column q. IsFromSibling d p row column key q) (Why zone d parent index key p) o1 o3 o4
    (λ row column q i j h. (
      (λ x. elim x [ inl z ↦ inl (inl z) | inr y ↦ elim y [ inl o ↦ inl (inr o) | inr s ↦ inr s ] ]),
      (λ x. elim x [ inl y ↦ elim y [ inl z ↦ inl z | inr o ↦ inr (inl o) ] | inr s ↦ inr (inr s) ]),
    ))
    (joined p g (OnRectsIn windows p zone) (BesideIn windows d parent index key p) (λ row column q. OnRects p zone row column q ⊎ Beside d parent index key p row column q) o1 o2 o3
    (λ row column q i j h. (
      (λ x. elim x [ inl z ↦ inl (covering row column q i j h, z) | inr o ↦ inr (covering row column q i j h, o) ]),
      (λ x. elim x [ inl z ↦ inl z.1 | inr o ↦ inr o.1 ]),
    ))
    a b)
    c
