-- Two designs that stand for one library.
use Rattle.std.proofs.Common.{◌≡◌, ℕ, ◌<◌, List, [], ◌∷◌, length, slice_get, Some, refl, sym, ap, subst, ◌∙◌, arith}
use Rattle.base_laws.proofs.Items.{item_at}
use Rattle.std.proofs.lemmas.Option.{slice_get_within}
use Rattle.geo_base.specs.declared.layer.LayerKey.{LayerKey}
use Rattle.geo_base.specs.declared.shapes.Square.{Square}
use Rattle.flat_layout.specs.Arrays.{Reference, places_of}
use Rattle.flat_layout.specs.Layout.{Design, Place, IsOwn, IsPlaced, Takes}
use Rattle.gds_elements.specs.Meaning.{Cell, Library, Ref}
use Rattle.layout_shapes.specs.Writable.{placing}
use Rattle.shapes_file.specs.Flat.{AreArrays, HasNoRepeat, IsHierarchyOf, OneHierarchyLaw}

one_list : (cells : List Cell) → HasNoRepeat cells → (refs : List Ref) (a b : List Reference) → AreArrays cells refs a → AreArrays cells refs b → a ≡ b
one_list cells once [] [] [] h g = refl
one_list cells once [] [] (y ∷ b) h g = absurd g
one_list cells once [] (x ∷ a) b h g = absurd h
one_list cells once (r ∷ refs) [] b h g = absurd h
one_list cells once (r ∷ refs) (x ∷ a) [] h g = absurd g
one_list cells once (r ∷ refs) (x ∷ a) (y ∷ b) h g =
    let cell = once r.cell h.0.0 g.0.0 h.0.1 g.0.1 in
    let same : x ≡ y = h.0.2 ∙ ap (λ (i : ℕ). placing i r) cell ∙ sym g.0.2 in
    ap (λ (z : Reference). z ∷ a) same ∙ ap (λ (zs : List Reference). y ∷ zs) (one_list cells once refs a b h.1 g.1)

placed_same : (w : Library) (name : List ℕ) (d e : Design) → IsHierarchyOf w name d → IsHierarchyOf w name e → (i n : ℕ) (p : Place) → IsPlaced d i n p → IsPlaced e i n p
placed_same w name d e hd he i n p h =
    let lt = slice_get_within d.cells i h.0 h.1 in
    let in_w : i < length w.cells = (let count = hd.count in omega (arith, lt, count)) in
    let in_e : i < length e.cells = (let count = he.count in omega (arith, in_w, count)) in
    let c = item_at w.cells i in_w in
    let f = item_at e.cells i in_e in
    let one = hd.places i c.0 h.0 c.1 h.1 in
    let two = he.places i c.0 f.0 c.1 f.1 in
    let same : h.0.places ≡ f.0.places = one.2 ∙ ap places_of (one_list w.cells hd.once c.0.refs one.0 two.0 one.1 two.1) ∙ sym two.2 in
    (f.0, f.1, subst (λ (ps : List Place). slice_get ps n ≡ Some p) same h.2)

takes_same : (w : Library) (name : List ℕ) (d e : Design) → IsHierarchyOf w name d → IsHierarchyOf w name e → (path : List ℕ) (i j : ℕ) (s q : Square) → Takes d i path j s q → Takes e i path j s q
takes_same w name d e hd he [] i j s q t = t
takes_same w name d e hd he (n ∷ path) i j s q t = (t.0, placed_same w name d e hd he i n t.0 t.1, t.2, takes_same w name d e hd he path t.0.cell j s t.2 t.3, t.4)

own_same : (w : Library) (name : List ℕ) (d e : Design) → IsHierarchyOf w name d → IsHierarchyOf w name e → (i : ℕ) (key : LayerKey) (q : Square) → IsOwn d i key q → IsOwn e i key q
own_same w name d e hd he i key q h =
    let lt = slice_get_within d.cells i h.0 h.1 in
    let c = item_at w.cells i (let count = hd.count in omega (arith, lt, count)) in
    (he.own i c.0 key q c.1).1 ((hd.own i c.0 key q c.1).0 h)

pub law : OneHierarchyLaw
law w name d e hd he key q h =
    let top = hd.once name d.top e.top hd.top he.top in
    record {
      path = h.path;
      end = h.end;
      square = h.square;
      takes = subst (λ (i : ℕ). Takes e i h.path h.end h.square q) top (takes_same w name d e hd he h.path d.top h.end h.square q h.takes);
      own = own_same w name d e hd he h.end key h.square h.own;
    }
