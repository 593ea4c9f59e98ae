-- The drafts of one library: but for where their lists stand, they are the same.
use Rattle.std.proofs.Common.{◌≡◌, inl, inr, ℕ, zero, suc, ◌<◌, List, [], ◌∷◌, map, length, Option, Some, None, slice_get, refl, sym, ap, subst, ◌∙◌, arith}
use Rattle.std.specs.List.{AllByRecursion}
use Rattle.std.proofs.lemmas.List.Elements.{recursion_from_All}
use Rattle.geo_base.specs.declared.layer.LayerKey.{LayerKey}
use Rattle.geo_base.specs.declared.motion.Motion.{Motion}
use Rattle.geo_base.specs.declared.shapes.Point.{Point}
use Rattle.geo_base.specs.declared.shapes.Rect.{Rect}
use Rattle.rect_sets.specs.Rects.{OneListLaw}
use Rattle.flat_layout.specs.Layout.{Some_of}
use Rattle.gds_elements.specs.Meaning.{Shape, Text, Ref, Cell}
use Rattle.cell_graph.specs.declared.cells.OwnLayer.{OwnLayer}
use Rattle.cell_graph.specs.declared.cells.RawText.{RawText}
use Rattle.cell_graph.specs.declared.drafts.DraftRef.{DraftRef}
use Rattle.cell_graph.specs.declared.drafts.CellDraft.{CellDraft}
use Rattle.cell_graph.specs.declared.drafts.LinkFault.{LinkFault}
use Rattle.cell_graph.specs.declared.drafts.LinkFault.TheVariants.{TooManyCells, DuplicateCell, NoSuchCell, Cycle, TooDeep, NoTop, TopUnclear, CoordinateRange, NoMemory}
use Rattle.cell_graph.specs.Chains.{IsOnCycle, IsTooDeep, IsFirst}
use Rattle.cell_graph.specs.Drafts.{IsNamed, IsMissing, HasRef, Refers, IsRepeat, IsLoose, IsFirstLoose, IsRoot, IsTop, HasNoTop, HasTwoTops, IsElementOf, IsCorner, IsOwnPoint, IsPointBy, IsFar, IsEarlier, IsFirstFar, HasFew, HasNoRepeat, HasNoLoose, HasNoCycle, HasNoDeep, IsFirstNamed, AreSound, IsFault}
use Rattle.cell_graph.proofs.Resolving.{cycle_too, deep_too, height_too}
use Rattle.gds_layout.specs.Shapes.{shapes_cover}
use Rattle.gds_layout.specs.Drafts.{IsLayerOf, text_of, ref_of, IsDraftOf, AreDraftsOf}

-- ---- one structure

layer_same : (lists : OneListLaw) (shapes : List Shape) (l m : OwnLayer) → l.key ≡ m.key → IsLayerOf shapes l → IsLayerOf shapes m → l ≡ m
layer_same lists shapes l m key x y =
    let set : l.set ≡ m.set = lists l.set m.set x.canonical y.canonical (λ s. x.squares s ∙ ap (λ (k : LayerKey). shapes_cover shapes k s) key ∙ sym (y.squares s)) in
    ap (λ (k : LayerKey). let a : OwnLayer = record { key = k; set = l.set } in a) key ∙ ap (λ (rs : List Rect). let a : OwnLayer = record { key = m.key; set = rs } in a) set

layers_same : (lists : OneListLaw) (shapes : List Shape) (ls ms : List OwnLayer) → map (λ (l : OwnLayer). l.key) ls ≡ map (λ (l : OwnLayer). l.key) ms
    → AllByRecursion (IsLayerOf shapes) ls → AllByRecursion (IsLayerOf shapes) ms → ls ≡ ms
layers_same lists shapes [] [] e x y = refl
layers_same lists shapes (l ∷ ls) [] e x y = absurd cc
layers_same lists shapes [] (m ∷ ms) e x y = absurd cc
layers_same lists shapes (l ∷ ls) (m ∷ ms) e x y =
    let key : l.key ≡ m.key = cc in
    let rest : map (λ (l : OwnLayer). l.key) ls ≡ map (λ (l : OwnLayer). l.key) ms = cc in
    ap (λ (k : OwnLayer). k ∷ ls) (layer_same lists shapes l m key x.0 y.0) ∙ ap (λ (ks : List OwnLayer). m ∷ ks) (layers_same lists shapes ls ms rest x.1 y.1)

refs_same : (xs ys : List DraftRef) → map ref_of xs ≡ map ref_of ys → xs ≡ ys
refs_same [] [] e = refl
refs_same (x ∷ xs) [] e = absurd cc
refs_same [] (y ∷ ys) e = absurd cc
refs_same (x ∷ xs) (y ∷ ys) e =
    let first : ref_of x ≡ ref_of y = cc in
    let rest : map ref_of xs ≡ map ref_of ys = cc in
    let one : x ≡ y = ap (λ (r : Ref). let d : DraftRef = record { cell = r.cell; motion = r.motion; columns = r.columns; rows = r.rows; column_step = r.column_step; row_step = r.row_step } in d) first in
    ap (λ (z : DraftRef). z ∷ xs) one ∙ ap (λ (zs : List DraftRef). y ∷ zs) (refs_same xs ys rest)

-- the drafts of one structure
pub record IsSameDraft (a b : CellDraft) : Type 0 where
  pub name : a.name ≡ b.name
  pub layers : a.layers.items ≡ b.layers.items
  pub texts : map text_of a.texts.items ≡ map text_of b.texts.items
  pub refs : a.refs.items ≡ b.refs.items

draft_same : (lists : OneListLaw) (c : Cell) (a b : CellDraft) → IsDraftOf c a → IsDraftOf c b → IsSameDraft a b
draft_same lists c a b x y = record {
  name = x.name ∙ sym y.name;
  layers = layers_same lists c.shapes a.layers.items b.layers.items (x.layers.keys ∙ sym y.layers.keys)
      (recursion_from_All (IsLayerOf c.shapes) a.layers.items x.layers.each) (recursion_from_All (IsLayerOf c.shapes) b.layers.items y.layers.each);
  texts = x.texts ∙ sym y.texts;
  refs = refs_same a.refs.items b.refs.items (x.refs ∙ sym y.refs);
}

-- ---- all structures

-- each cell of the one list stands in the other
abbrev pub AreIn : List CellDraft → List CellDraft → Type 0
AreIn cells ds = (i : ℕ) (c : CellDraft) → slice_get cells i ≡ Some c → (d : CellDraft) × (slice_get ds i ≡ Some d) × IsSameDraft c d

pub are_in : (lists : OneListLaw) (vs : List Cell) (cells ds : List CellDraft) → AreDraftsOf vs cells → AreDraftsOf vs ds → AreIn cells ds
are_in lists [] [] ds x y i c e = absurd cc
are_in lists [] (a ∷ cells) ds x y i c e = absurd x
are_in lists (v ∷ vs) [] ds x y i c e = absurd x
are_in lists (v ∷ vs) (a ∷ cells) [] x y i c e = absurd y
are_in lists (v ∷ vs) (a ∷ cells) (b ∷ ds) x y zero c e =
    let same : a ≡ c = cc in (b, refl, draft_same lists v c b (subst (λ (z : CellDraft). IsDraftOf v z) same x.0) y.0)
are_in lists (v ∷ vs) (a ∷ cells) (b ∷ ds) x y (suc i) c e = are_in lists vs cells ds x.1 y.1 i c e

pub same_count : (vs : List Cell) (ds : List CellDraft) → AreDraftsOf vs ds → length ds ≡ length vs
same_count [] [] x = refl
same_count [] (b ∷ ds) x = absurd x
same_count (v ∷ vs) [] x = absurd x
same_count (v ∷ vs) (b ∷ ds) x = ap (λ (n : ℕ). suc n) (same_count vs ds x.1)

-- ---- what is found in the one list is found in the other

text_at : (P : Point → Type 0) (xs ys : List RawText) → map text_of xs ≡ map text_of ys → Some_of (λ t. P t.at) xs → Some_of (λ t. P t.at) ys
text_at P [] ys e h = absurd h
text_at P (x ∷ xs) [] e h = absurd cc
text_at P (x ∷ xs) (y ∷ ys) e (inl h) =
    let first : text_of x ≡ text_of y = cc in
    inl (subst P (ap (λ (t : Text). t.at) first) h)
text_at P (x ∷ xs) (y ∷ ys) e (inr h) = let rest : map text_of xs ≡ map text_of ys = cc in inr (text_at P xs ys rest h)

module _ (cells ds : List CellDraft) (to : AreIn cells ds) where
  pub named : (name : List ℕ) (i : ℕ) → IsNamed cells name i → IsNamed ds name i
  named name i h = let d = to i h.cell h.there in record { cell = d.0; there = d.1; named = sym d.2.name ∙ h.named }

  has_ref : (i k : ℕ) (r : DraftRef) → HasRef cells i k r → HasRef ds i k r
  has_ref i k r h = let d = to i h.cell h.there in record { cell = d.0; there = d.1; ref = subst (λ (rs : List DraftRef). slice_get rs k ≡ Some r) d.2.refs h.ref }

  refers : (i j : ℕ) → Refers cells i j → Refers ds i j
  refers i j h = record { number = h.number; ref = h.ref; has = has_ref i h.number h.ref h.has; names = named h.ref.cell j h.names }

  repeat : (i : ℕ) → IsRepeat cells i → IsRepeat ds i
  repeat i h = record { name = h.name; here = named h.name i h.here; earlier = h.earlier; before = h.before; there = named h.name h.earlier h.there }

  element : (i : ℕ) (m : Motion) (j : ℕ) → IsElementOf cells i m j → IsElementOf ds i m j
  element i m j h = record {
    number = h.number;
    ref = h.ref;
    has = has_ref i h.number h.ref h.has;
    names = named h.ref.cell j h.names;
    row = h.row;
    column = h.column;
    row_in = h.row_in;
    column_in = h.column_in;
    is = h.is;
  }

  own_point : (i : ℕ) (p : Point) → IsOwnPoint cells i p → IsOwnPoint ds i p
  own_point i p (inl (c, e, h)) =
      let d = to i c e in
      inl (d.0, d.1, subst (λ (ls : List OwnLayer). Some_of (λ l. Some_of (λ r. IsCorner r p) l.set) ls) d.2.layers h)
  own_point i p (inr (inl (c, e, h))) = let d = to i c e in inr (inl (d.0, d.1, text_at (λ (q : Point). q ≡ p) c.texts.items d.0.texts.items d.2.texts h))
  own_point i p (inr (inr (m, j, h, o))) = inr (inr (m, j, element i m j h, o))

  point_by : (n i : ℕ) (p : Point) → IsPointBy cells n i p → IsPointBy ds n i p
  point_by zero i p h = own_point i p h
  point_by (suc n) i p (m, j, h, q, by, is) = (m, j, element i m j h, q, point_by n j q by, is)

  pub hull_point : (i : ℕ) (p : Point) → ((n : ℕ) × IsPointBy cells n i p) → (n : ℕ) × IsPointBy ds n i p
  hull_point i p (n, h) = (n, point_by n i p h)

  far : (i : ℕ) → IsFar cells i → IsFar ds i
  far i (p, h, out) = (p, hull_point i p h, out)

-- ---- and what isn't found

pub inside : (cells : List CellDraft) (i : ℕ) → i < length cells → (c : CellDraft) × (slice_get cells i ≡ Some c)
inside [] i lt = absurd (omega (arith, lt))
inside (c ∷ cells) zero lt = (c, refl)
inside (c ∷ cells) (suc i) lt = inside cells i (omega (arith, lt))

first_too : (P Q : ℕ → Type 0) → ((i : ℕ) → P i → Q i) → ((i : ℕ) → Q i → P i) → (i : ℕ) → IsFirst P i → IsFirst Q i
first_too P Q to back i h = record { here = to i h.here; before = λ j lt q. h.before j lt (back j q) }

module _ (cells ds : List CellDraft) (count : length cells ≡ length ds) (to : AreIn cells ds) (back : AreIn ds cells) where
  missing : (name : List ℕ) → IsMissing cells name → IsMissing ds name
  missing name h i n = h i (named ds cells back name i n)

  loose_back : (i k : ℕ) → IsLoose ds i k → IsLoose cells i k
  loose_back i k (r, has, none) = (r, has_ref ds cells back i k r has, λ j n. none j (named cells ds to r.cell j n))

  first_loose : (name : List ℕ) → IsFirstLoose cells name → IsFirstLoose ds name
  first_loose name h = record {
    cell = h.cell;
    number = h.number;
    ref = h.ref;
    has = has_ref cells ds to h.cell h.number h.ref h.has;
    names = h.names;
    missing = missing name h.missing;
    cells_before = λ i k lt l. h.cells_before i k lt (loose_back i k l);
    refs_before = λ k lt l. h.refs_before k lt (loose_back h.cell k l);
  }

  first_named : (P Q : ℕ → Type 0) → ((i : ℕ) → P i → Q i) → ((i : ℕ) → Q i → P i) → (name : List ℕ) → IsFirstNamed cells P name → IsFirstNamed ds Q name
  first_named P Q f g name (i, n, h) = (i, named cells ds to name i n, first_too P Q f g i h)

  root : (i : ℕ) → IsRoot cells i → IsRoot ds i
  root i h = record { there = subst (λ (n : ℕ). i < n) count h.there; free = λ k r. h.free k (refers ds cells back k i r) }

  root_back : (i : ℕ) → IsRoot ds i → IsRoot cells i
  root_back i h = record { there = subst (λ (n : ℕ). i < n) (sym count) h.there; free = λ k r. h.free k (refers cells ds to k i r) }

  pub top_too : (top : Option (List ℕ)) (i : ℕ) → IsTop cells top i → IsTop ds top i
  top_too None i h = (root i h.0, λ j r. h.1 j (root_back j r))
  top_too (Some name) i h = named cells ds to name i h

  none_too : (xs ys : List CellDraft) → length xs ≡ length ys → xs ≡ [] → ys ≡ []
  none_too xs [] e h = refl
  none_too xs (y ∷ ys) e h = let f : length xs ≡ 0 = ap (λ (zs : List CellDraft). length zs) h in absurd (omega (arith, e, f))

  no_top : (top : Option (List ℕ)) → HasNoTop cells top → HasNoTop ds top
  no_top None h = none_too cells ds count h
  no_top (Some name) h = missing name h

  two_tops : (top : Option (List ℕ)) (i j : ℕ) → HasTwoTops cells top i j → HasTwoTops ds top i j
  two_tops None i j h = record {
    first = first_too (IsRoot cells) (IsRoot ds) root root_back i h.first;
    next = record { here = (h.next.here.0, root j h.next.here.1); before = λ k lt r. h.next.before k lt (r.0, root_back k r.1) };
  }
  two_tops (Some name) i j h = absurd h

  earlier_back : (i j : ℕ) → IsEarlier ds i j → IsEarlier cells i j
  earlier_back i j h = record {
    height_i = h.height_i;
    height_j = h.height_j;
    of_i = height_too (Refers ds) (Refers cells) (refers ds cells back) (refers cells ds to) i h.height_i h.of_i;
    of_j = height_too (Refers ds) (Refers cells) (refers ds cells back) (refers cells ds to) j h.height_j h.of_j;
    before = h.before;
  }

  first_far : (name : List ℕ) → IsFirstFar cells name → IsFirstFar ds name
  first_far name h = record {
    cell = h.cell;
    named = named cells ds to name h.cell h.named;
    far = far cells ds to h.cell h.far;
    before = λ i e f. h.before i (earlier_back i h.cell e) (far ds cells back i f);
  }

  few : HasFew cells → HasFew ds
  few h = omega (arith, h, count)

  once : HasNoRepeat cells → HasNoRepeat ds
  once h i r = h i (repeat ds cells back i r)

  resolved : HasNoLoose cells → HasNoLoose ds
  resolved h i k l = h i k (loose_back i k l)

  no_cycle : HasNoCycle cells → HasNoCycle ds
  no_cycle h i c = h i (cycle_too (Refers ds) (Refers cells) (refers ds cells back) i c)

  no_deep : HasNoDeep cells → HasNoDeep ds
  no_deep h i c = h i (deep_too (Refers ds) (Refers cells) (refers ds cells back) i c)

  sound : AreSound cells → AreSound ds
  sound h = record { few = few h.few; once = once h.once; resolved = resolved h.resolved; no_cycle = no_cycle h.no_cycle; no_deep = no_deep h.no_deep }

  pub fault_too : (top : Option (List ℕ)) (f : LinkFault) → IsFault cells top f → IsFault ds top f
  fault_too top TooManyCells h = omega (arith, h, count)
  fault_too top (DuplicateCell name) h = (few h.0, first_named (IsRepeat cells) (IsRepeat ds) (repeat cells ds to) (repeat ds cells back) name h.1)
  fault_too top (NoSuchCell name) h = (few h.0, once h.1, first_loose name h.2)
  fault_too top (Cycle name) h = (
    few h.0,
    once h.1,
    resolved h.2,
    first_named (IsOnCycle (Refers cells)) (IsOnCycle (Refers ds)) (cycle_too (Refers cells) (Refers ds) (refers cells ds to)) (cycle_too (Refers ds) (Refers cells) (refers ds cells back)) name h.3,
  )
  fault_too top (TooDeep name) h = (
    few h.0,
    once h.1,
    resolved h.2,
    no_cycle h.3,
    first_named (IsTooDeep (Refers cells)) (IsTooDeep (Refers ds)) (deep_too (Refers cells) (Refers ds) (refers cells ds to)) (deep_too (Refers ds) (Refers cells) (refers ds cells back)) name h.4,
  )
  fault_too top NoTop h = (sound h.0, no_top top h.1)
  fault_too top (TopUnclear one other) (s, i, j, a, b, h) = (sound s, i, j, named cells ds to one i a, named cells ds to other j b, two_tops top i j h)
  fault_too top (CoordinateRange name) (s, (i, t), h) = (sound s, (i, top_too top i t), first_far name h)
  fault_too top NoMemory h = tt
