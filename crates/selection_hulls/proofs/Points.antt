-- The points of hulls with further selections: each was one before, or is a corner of a square close
-- to the drawn hull.
use Rattle.std.proofs.Common.{◌≡◌, ◌⊎◌, inl, inr, ℕ, zero, suc, ◌+◌, ◌≤◌, true, not, List, [], ◌∷◌, ◌++◌, map, Option, Some, slice_get, refl, sym, ◌∙◌, ap, subst}
use Rattle.std.specs.Global.{Vec}
use Rattle.base_laws.proofs.Items.{map_from, map_to, one_entry}
use Rattle.geo_base.specs.Motions.{moved_point, moved_square}
use Rattle.geo_base.specs.declared.layer.LayerKey.{LayerKey}
use Rattle.geo_base.specs.declared.motion.Motion.{Motion}
use Rattle.geo_base.specs.declared.shapes.Point.{Point}
use Rattle.geo_base.specs.declared.shapes.Square.{Square}
use Rattle.plain_netlist.proofs.Members.{listed}
use Rattle.rect_sets.specs.Rects.{CanonicalLaw, IsCanonical, covers}
use Rattle.flat_layout.specs.Layout as flat
use Rattle.flat_layout.specs.Layout.{IsOwn, Some_of}
use Rattle.flat_layout.specs.Plane.{IsCorner, IsIn}
use Rattle.cell_graph.specs.Drafts.{AreAllResolved, HasNoRepeat, IsCorner as IsRectCorner, IsElementOf, IsLink, IsNamed, IsOwnPoint, IsPartOf, IsPointBy}
use Rattle.cell_graph.specs.Grown.{IsInGrown}
use Rattle.cell_graph.specs.Layering.{AreDraftsOf, AreFurther, IsDraftOf, cell_names, has_key, other_layers}
use Rattle.cell_graph.specs.Linked.{IsSound, IsStep, Linked, cell_at, hull_of, motion_at, places_at, plain, plain_cell, plain_layer}
use Rattle.cell_graph.specs.declared.cells.CellPart.{CellPart}
use Rattle.cell_graph.specs.declared.cells.OwnLayer.{OwnLayer}
use Rattle.cell_graph.specs.declared.cells.Place.{Place}
use Rattle.cell_graph.specs.declared.cells.RawText.{RawText}
use Rattle.cell_graph.specs.declared.drafts.CellDraft.{CellDraft}
use Rattle.cell_graph.proofs.Bridge.{all_at, covers_some}
use Rattle.cell_graph.proofs.Growing.{grown_up, wider_grown}
use Rattle.cell_graph.proofs.Hulls.{among_some, element_from, element_to, some_among}
use Rattle.cell_graph.proofs.Resolving.{at_too}
use Rattle.rule_text.specs.Reaches.{MOST_REACH}
use Rattle.select_laws.specs.Staged.{IsKeyOf, Stage}
use Rattle.staged_designs.specs.Depths.{AreFound, stage_keys}
use Rattle.staged_designs.proofs.Mixed.{some_either, some_passed, some_right}
use Rattle.staged_layouts.specs.Staged.{AreFresh, IsStagedCell, IsStagedDesign}
use Rattle.staged_layouts.proofs.Stages.{reached_back}
use Rattle.selection_hulls.proofs.Corners.{moved_corner, rects_corner}
use Rattle.selection_hulls.proofs.Near.{AreShort, IsHeld, name_held}

abbrev HasCorner : Point → OwnLayer → Type 0
HasCorner p l = Some_of (λ r. IsRectCorner r p) l.set

mapped_some : {A B : Type 0} (f : A → B) (P : B → Type 0) (xs : List A) → Some_of (λ x. P (f x)) xs → Some_of P (map f xs)
mapped_some f P [] h = h
mapped_some f P (x ∷ xs) (inl h) = inl h
mapped_some f P (x ∷ xs) (inr h) = inr (mapped_some f P xs h)

-- an own square of a layer of a cell
own_square : (m : Linked) (i : ℕ) (part : CellPart) (layers more : List OwnLayer) (k : ℕ) (l : OwnLayer) (q : Square) → cell_at m i ≡ Some part → part.layers.items ≡ layers ++ more → slice_get more k ≡ Some l → covers l.set q ≡ true
    → IsOwn (plain m) i l.key q
own_square m i part layers more k l q at are there h =
    let here : Some_of (λ (x : OwnLayer). (x.key ≡ l.key) × Some_of (IsIn q) x.set) (layers ++ more) =
    some_right (λ (x : OwnLayer). (x.key ≡ l.key) × Some_of (IsIn q) x.set) layers more
    (among_some (λ (x : OwnLayer). (x.key ≡ l.key) × Some_of (IsIn q) x.set) more k l there (refl, covers_some l.set q h)) in (
      plain_cell part,
      map_to plain_cell m.cells i part at,
      mapped_some plain_layer (λ (x : flat.Layer). (x.key ≡ l.key) × Some_of (IsIn q) x.rects) part.layers.items (subst (λ (ls : List OwnLayer). Some_of (λ (x : OwnLayer). (x.key ≡ l.key) × Some_of (IsIn q) x.set) ls) (sym are) here),
    )

module _ (d : Linked) (sound : IsSound d) (k : ℕ) where
  -- a corner of a square of the cell's hull, grown by k
  pub record IsByHull (i : ℕ) (p : Point) : Type 0 where
    pub square : Square
    pub held : IsInGrown k (hull_of (cell_at d i)) square
    pub corner : IsCorner p square

  -- the corners of these layers' rectangles are such
  by_layer : (rects : CanonicalLaw) (i : ℕ) (l : OwnLayer) (p : Point) → IsCanonical l.set → ((q : Square) → covers l.set q ≡ true → IsInGrown k (hull_of (cell_at d i)) q) → HasCorner p l → IsByHull i p
  by_layer rects i l p canonical held h =
      let c = rects_corner l.set p (rects l.set canonical) h in
      record { square = c.0; held = held c.0 c.1; corner = c.2 }

  -- an element takes such a point to one
  by_step : (i to index row column : ℕ) (place : Place) (motion : Motion) (p q : Point) → IsStep d i index row column place → place.cell ≡ to → motion_at place row column ≡ motion → moved_point motion q ≡ p → IsByHull to q → IsByHull i p
  by_step i to index row column place motion p q step cell is image h =
      let there : IsInGrown k (hull_of (cell_at d place.cell)) h.square = subst (λ c. IsInGrown k (hull_of (cell_at d c)) h.square) (sym cell) h.held in
      let corner : IsCorner (moved_point motion q) (moved_square motion h.square) = moved_corner motion q h.square h.corner in
      record {
        square = moved_square motion h.square;
        held = subst (λ (v : Motion). IsInGrown k (hull_of (cell_at d i)) (moved_square v h.square)) is (grown_up k d i index row column place h.square sound step there);
        corner = subst (λ (v : Point). IsCorner v (moved_square motion h.square)) image corner;
      }

module _ (d : Linked) (sound : IsSound d) (rects : CanonicalLaw) (cells : List CellDraft) (top : Option (List ℕ)) (link : IsLink cells top d)
    (n k : ℕ) (le : n ≤ k) (ss : List Stage) (m : Linked) (staged : IsStagedDesign ss d m) (held : IsHeld d n (plain m))
    (ts : List Stage) (further : List (Vec OwnLayer)) (are : AreFurther m.cells (stage_keys ts) further) (found : AreFound m ts further) (fresh : AreFresh m ts further)
    (short : AreShort ts) (on : (j : ℕ) (s : Stage) → slice_get ts j ≡ Some s → n + MOST_REACH ≤ k)
    (drafts : List CellDraft) (made : AreDraftsOf m.cells (stage_keys ts) further drafts) where
  -- a draft, the cell that it comes from, and that cell as it was drawn
  record IsAt (i : ℕ) (draft : CellDraft) : Type 0 where
    old : CellDraft
    drawn : CellPart
    part : CellPart
    layers : Vec OwnLayer
    old_at : slice_get cells i ≡ Some old
    drawn_at : cell_at d i ≡ Some drawn
    part_at : cell_at m i ≡ Some part
    more : slice_get further i ≡ Some layers
    linked : IsPartOf cells i old drawn
    cell : IsStagedCell ss drawn part
    is : IsDraftOf (cell_names m.cells) (stage_keys ts) layers.items part draft

  at : (i : ℕ) (draft : CellDraft) → slice_get drafts i ≡ Some draft → IsAt i draft
  at i draft there =
      let p = at_too drafts m.cells i draft made.count there in
      let l = at_too m.cells further i p.0 (sym are.count) p.1 in
      let c = at_too m.cells d.cells i p.0 staged.count p.1 in
      let o = at_too d.cells cells i c.0 link.count c.1 in
      record {
        old = o.0;
        drawn = c.0;
        part = p.0;
        layers = l.0;
        old_at = o.1;
        drawn_at = c.1;
        part_at = p.1;
        more = l.1;
        linked = link.each i o.0 c.0 o.1 c.1;
        cell = staged.cells i c.0 p.0 c.1 p.1;
        is = made.each i l.0 p.0 draft l.1 p.1 there;
      }

  -- names and elements

  named_back : (i : ℕ) (name : List ℕ) → IsNamed drafts name i → IsNamed cells name i
  named_back i name h =
      let a = at i h.cell h.there in
      record { cell = a.old; there = a.old_at; named = sym a.linked.name ∙ sym a.cell.name ∙ sym a.is.name ∙ h.named }

  no_repeat : HasNoRepeat drafts
  no_repeat i h = link.sound.once i (record { name = h.name; here = named_back i h.name h.here; earlier = h.earlier; before = h.before; there = named_back h.earlier h.name h.there })

  named_at : (i : ℕ) (name : List ℕ) → slice_get (cell_names m.cells) i ≡ Some name → IsNamed drafts name i
  named_at i name e =
      let c = map_from (λ (c : CellPart). c.name) m.cells i name e in
      let r = at_too m.cells drafts i c.0 (sym made.count) c.1 in
      let a = at i r.0 r.1 in
      let same = one_entry (cell_at m i) a.part c.0 a.part_at c.1 in
      record { cell = r.0; there = r.1; named = a.is.name ∙ ap (λ (c : CellPart). c.name) same ∙ c.2 }

  resolved : (i : ℕ) (draft : CellDraft) (a : IsAt i draft) → AreAllResolved drafts draft.refs.items a.part.places.items
  resolved i draft a = record {
    count = sym a.is.refs.count;
    each = λ j r p at_r at_p.
        let is = a.is.refs.each j p r at_p at_r in
        record {
          names = named_at p.cell r.cell is.named;
          motion = sym is.motion;
          columns = sym is.columns;
          rows = sym is.rows;
          column_step = sym is.column_step;
          row_step = sym is.row_step;
        };
  }

  record IsElement (i : ℕ) (motion : Motion) (to : ℕ) : Type 0 where
    index : ℕ
    row : ℕ
    column : ℕ
    place : Place
    step : IsStep d i index row column place
    cell : place.cell ≡ to
    is : motion_at place row column ≡ motion
    old : IsElementOf cells i motion to

  element : (i : ℕ) (motion : Motion) (to : ℕ) → IsElementOf drafts i motion to → IsElement i motion to
  element i motion to h =
      let a = at i h.has.cell h.has.there in
      let e = element_from drafts i h.has.cell a.part.places.items motion to no_repeat h.has.there (resolved i h.has.cell a) h in
      let there : slice_get a.drawn.places.items e.index ≡ Some e.place = subst (λ (ps : List Place). slice_get ps e.index ≡ Some e.place) a.cell.places e.there in
      let old = element_to cells i a.old a.drawn.places.items e.index e.place e.row e.column a.old_at a.linked.places there e.in_rows e.in_columns in
      record {
        index = e.index;
        row = e.row;
        column = e.column;
        place = e.place;
        step = record { there = subst (λ (o : Option CellPart). slice_get (places_at o) e.index ≡ Some e.place) (sym a.drawn_at) there; row_in = e.in_rows; column_in = e.in_columns };
        cell = e.cell_is;
        is = e.is;
        old = subst (λ (v : Motion). IsElementOf cells i v to) e.is (subst (λ c. IsElementOf cells i (motion_at e.place e.row e.column) c) e.cell_is old);
      }

  -- layers

  abbrev Close : ℕ → Point → Type 0
  Close i p = IsByHull d sound k i p

  -- of selections before
  earlier : (i : ℕ) (draft : CellDraft) (a : IsAt i draft) (p : Point) → Some_of (HasCorner p) a.cell.further → Close i p
  earlier i draft a p h =
      let s = some_among (HasCorner p) a.cell.further h in
      let l = s.1 in
      let key : slice_get (stage_keys ss) s.0 ≡ Some l.key = subst (λ (ks : List LayerKey). slice_get ks s.0 ≡ Some l.key) a.cell.keys (map_to (λ (x : OwnLayer). x.key) a.cell.further s.0 l s.2) in
      let t = map_from (λ (x : Stage). x.key) ss s.0 l.key key in
      let is : IsKeyOf ss l.key = among_some (λ (x : Stage). x.key ≡ l.key) ss s.0 t.0 t.1 t.2 in
      by_layer d sound k rects i l p (all_at (λ (x : OwnLayer). IsCanonical x.set) a.cell.further s.0 l a.cell.canonical s.2)
      (λ q covered.
      let own = own_square m i a.part a.drawn.layers.items a.cell.further s.0 l q a.part_at a.cell.layers s.2 covered in
      wider_grown n k (hull_of (cell_at d i)) q le (held.own i l.key q (staged.only i l.key q is own) own))
      s.3

  -- of those that are added
  added : (i : ℕ) (draft : CellDraft) (a : IsAt i draft) (p : Point) → Some_of (HasCorner p) a.layers.items → Close i p
  added i draft a p h =
      let s = some_among (HasCorner p) a.layers.items h in
      let l = s.1 in
      let key : slice_get (stage_keys ts) s.0 ≡ Some l.key = subst (λ (ks : List LayerKey). slice_get ks s.0 ≡ Some l.key) (are.each i a.layers a.more) (map_to (λ (x : OwnLayer). x.key) a.layers.items s.0 l s.2) in
      let t = map_from (λ (x : Stage). x.key) ts s.0 l.key key in
      by_layer d sound k rects i l p (all_at (λ (x : OwnLayer). IsCanonical x.set) a.layers.items s.0 l (fresh.canonical i a.layers a.more) s.2)
      (λ q covered.
      let reached = fresh.reached i a.layers l q a.more (listed a.layers.items s.0 l s.2) covered in
      let chosen = (found.each i s.0 a.layers l t.0 reached a.more s.2 t.1 q).0 covered in
      wider_grown (n + MOST_REACH) k (hull_of (cell_at d i)) q (on s.0 t.0 t.1)
      (name_held d sound n (plain m) held i t.0.select.region q (reached_back ss (plain d) (plain m) staged.staged i reached) (short s.0 t.0 t.1) chosen.own.whole.is))
      s.3

  -- points

  by_layers : (i : ℕ) (draft : CellDraft) (a : IsAt i draft) (p : Point) → Some_of (HasCorner p) draft.layers.items → IsOwnPoint cells i p ⊎ Close i p
  by_layers i draft a p h =
      elim (some_either (HasCorner p) (other_layers (stage_keys ts) a.part.layers.items) a.layers.items (subst (λ (ls : List OwnLayer). Some_of (HasCorner p) ls) a.is.layers h)) [
        | inl before ↦
            let kept = some_passed (HasCorner p) (λ (l : OwnLayer). not (has_key (stage_keys ts) l.key)) a.part.layers.items before in
            elim (some_either (HasCorner p) a.drawn.layers.items a.cell.further (subst (λ (ls : List OwnLayer). Some_of (HasCorner p) ls) a.cell.layers kept)) [
              | inl old ↦ inl (inl (a.old, a.old_at, subst (λ (ls : List OwnLayer). Some_of (HasCorner p) ls) a.linked.layers old))
              | inr more ↦ inr (earlier i draft a p more)
            ]
        | inr new ↦ inr (added i draft a p new)
      ]

  own_point : (i : ℕ) (p : Point) → IsOwnPoint drafts i p → IsOwnPoint cells i p ⊎ Close i p
  own_point i p (inl (draft, there, h)) = by_layers i draft (at i draft there) p h
  own_point i p (inr (inl (draft, there, h))) =
      let a = at i draft there in
      let same = a.is.texts ∙ a.cell.texts ∙ a.linked.texts in
      inl (inr (inl (a.old, a.old_at, subst (λ (ts : List RawText). Some_of (λ t. t.at ≡ p) ts) same h)))
  own_point i p (inr (inr (motion, to, e, origin))) = inl (inr (inr (motion, to, (element i motion to e).old, origin)))

  pub hull_point : (j i : ℕ) (p : Point) → IsPointBy drafts j i p → IsPointBy cells j i p ⊎ Close i p
  hull_point zero i p h = own_point i p h
  hull_point (suc j) i p (motion, to, e, q, rest, image) =
      let x = element i motion to e in
      elim (hull_point j to q rest) [
        | inl old ↦ inl (motion, to, x.old, q, old, image)
        | inr close ↦ inr (by_step d sound k i to x.index x.row x.column x.place motion p q x.step x.cell x.is image close)
      ]
