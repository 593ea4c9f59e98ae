-- The cells of a staged layout.
use Rattle.std.proofs.Common.{◌≡◌, ◌↔◌, inl, inr, ℕ, Bool, true, false, List, [], ◌∷◌, ◌++◌, map, length, Option, Some, slice_get, refl, sym, ◌∙◌, ap, subst}
use Rattle.std.proofs.lemmas.List.{map-append}
use Rattle.base_laws.proofs.Items.{map_to, one_entry, one_list}
use Rattle.base_laws.proofs.Lists.{map_count}
use Rattle.geo_base.specs.declared.layer.LayerKey.{LayerKey}
use Rattle.geo_base.specs.declared.shapes.Rect.{Rect}
use Rattle.geo_base.specs.declared.shapes.Square.{Square}
use Rattle.plain_netlist.specs.Lists.{AreApart, IsListed}
use Rattle.rect_sets.specs.Rects.{IsCanonical, OneListLaw, covers}
use Rattle.flat_layout.specs.Arrays.{places_of}
use Rattle.flat_layout.specs.Layout as flat
use Rattle.flat_layout.specs.Layout.{IsOwn}
use Rattle.cell_graph.specs.Laws.{OwnLaw}
use Rattle.cell_graph.specs.Linked.{IsSound, Linked, cell_at, layer_keys, own_of, own_rects, plain, plain_layer, plain_text, reference}
use Rattle.cell_graph.specs.declared.cells.CellPart.{CellPart}
use Rattle.cell_graph.specs.declared.cells.OwnLayer.{OwnLayer}
use Rattle.cell_graph.specs.declared.cells.Place.{Place}
use Rattle.cell_graph.proofs.Bridge.{all_at, key_is, key_same}
use Rattle.cell_graph.proofs.LayeredNames.{key_listed, own_at, own_past}
use Rattle.gds_layout.specs.Once.{contents}
use Rattle.select_laws.specs.Staged.{Stage}
use Rattle.staged_designs.specs.Depths.{stage_keys}
use Rattle.staged_layouts.specs.Staged.{IsStagedCell}

-- ---- the rectangles of a further layer

listed_behind : (xs ys : List OwnLayer) (key : LayerKey) → IsListed key (layer_keys ys) → IsListed key (layer_keys (xs ++ ys))
listed_behind [] ys key h = h
listed_behind (x ∷ xs) ys key h = inr (listed_behind xs ys key h)

-- of layers of different keys each is its key's
rects_behind : (xs ys : List OwnLayer) (j : ℕ) (u : OwnLayer) → AreApart (layer_keys (xs ++ ys)) → slice_get ys j ≡ Some u → own_rects (xs ++ ys) u.key ≡ u.set
rects_behind [] ys j u apart e = own_at ys j u apart e
rects_behind (x ∷ xs) ys j u apart e = elim (key_is x.key u.key) [
  | inl same ↦ absurd (apart.0 (subst (λ (k : LayerKey). IsListed k (layer_keys (xs ++ ys))) (sym (key_same x.key u.key same)) (listed_behind xs ys u.key (key_listed ys j u e))))
  | inr other ↦ own_past x (xs ++ ys) u.key other ∙ rects_behind xs ys j u apart.1 e
]

-- and they cover the cell's own squares
further_own : OwnLaw → (d : Linked) → IsSound d → (stages : List Stage) (i : ℕ) (c p : CellPart) (s : IsStagedCell stages c p) → cell_at d i ≡ Some p → (j : ℕ) (u : OwnLayer) → slice_get s.further j ≡ Some u → (q : Square)
    → IsOwn (plain d) i u.key q ↔ (covers u.set q ≡ true)
further_own law d sound stages i c p s at j u there q =
    let apart : AreApart (layer_keys (c.layers.items ++ s.further)) = subst (λ (ls : List OwnLayer). AreApart (layer_keys ls)) s.layers (sound.each i p at).apart in
    let same : own_of (cell_at d i) u.key ≡ u.set =
    ap (λ (o : Option CellPart). own_of o u.key) at ∙ ap (λ (ls : List OwnLayer). own_rects ls u.key) s.layers ∙ rects_behind c.layers.items s.further j u apart there in
    let own = law d sound i u.key q in (
      (λ h. subst (λ (rs : List Rect). covers rs q ≡ true) same (own.0 h)),
      (λ e. own.1 (subst (λ (rs : List Rect). covers rs q ≡ true) (sym same) e)),
    )

-- ---- two staged cells

agree : (a b : Bool) → (a ≡ true → b ≡ true) → (b ≡ true → a ≡ true) → a ≡ b
agree true true f g = refl
agree true false f g = sym (f refl)
agree false true f g = g refl
agree false false f g = refl

one_layer : (u v : OwnLayer) → u.key ≡ v.key → u.set ≡ v.set → u ≡ v
one_layer u v e f =
    ap (λ (k : LayerKey). let l : OwnLayer = record { key = k; set = u.set } in l) e
    ∙ ap (λ (rs : List Rect). let l : OwnLayer = record { key = v.key; set = rs } in l) f

contents_same : (x y : CellPart) → x.name ≡ y.name → map plain_layer x.layers.items ≡ map plain_layer y.layers.items → map plain_text x.texts.items ≡ map plain_text y.texts.items → x.places.items ≡ y.places.items → contents x ≡ contents y
contents_same x y name layers texts places =
    ap (λ (n : List ℕ). let f : flat.Cell = record { name = n; layers = map plain_layer x.layers.items; texts = map plain_text x.texts.items; places = places_of (map reference x.places.items) } in (f, x.places.items)) name
    ∙ ap (λ (ls : List flat.Layer). let f : flat.Cell = record { name = y.name; layers = ls; texts = map plain_text x.texts.items; places = places_of (map reference x.places.items) } in (f, x.places.items)) layers
    ∙ ap (λ (ts : List flat.Text). let f : flat.Cell = record { name = y.name; layers = map plain_layer y.layers.items; texts = ts; places = places_of (map reference x.places.items) } in (f, x.places.items)) texts
    ∙ ap (λ (ps : List Place). let f : flat.Cell = record { name = y.name; layers = map plain_layer y.layers.items; texts = map plain_text y.texts.items; places = places_of (map reference ps) } in (f, ps)) places

module _ (own : OwnLaw) (lists : OneListLaw) (stages : List Stage) (d e : Linked) (one : IsSound d) (two : IsSound e) (i : ℕ) (c b x y : CellPart) (s : IsStagedCell stages c x) (t : IsStagedCell stages b y) (at : cell_at d i ≡ Some x) (there : cell_at e i ≡ Some y)
    (same : (key : LayerKey) (q : Square) → IsOwn (plain e) i key q ↔ IsOwn (plain d) i key q) where
  one_set : (j : ℕ) (u v : OwnLayer) → slice_get s.further j ≡ Some u → slice_get t.further j ≡ Some v → u ≡ v
  one_set j u v at_u at_v =
      let P : OwnLayer → Type 0 = λ l. IsCanonical l.set in
      let key : u.key ≡ v.key = one_entry (slice_get (stage_keys stages) j) u.key v.key
      (subst (λ (ks : List LayerKey). slice_get ks j ≡ Some u.key) s.keys (map_to (λ (l : OwnLayer). l.key) s.further j u at_u))
      (subst (λ (ks : List LayerKey). slice_get ks j ≡ Some v.key) t.keys (map_to (λ (l : OwnLayer). l.key) t.further j v at_v)) in
      let set : u.set ≡ v.set = lists u.set v.set (all_at P s.further j u s.canonical at_u) (all_at P t.further j v t.canonical at_v)
      (λ q.
      let mine = further_own own d one stages i c x s at j u at_u q in
      let theirs = subst (λ (k : LayerKey). IsOwn (plain e) i k q ↔ (covers v.set q ≡ true)) (sym key) (further_own own e two stages i b y t there j v at_v q) in
      let both = same u.key q in
      agree (covers u.set q) (covers v.set q) (λ h. theirs.0 (both.1 (mine.1 h))) (λ h. mine.0 (both.0 (theirs.1 h)))) in
      one_layer u v key set

  one_further : s.further ≡ t.further
  one_further = one_list s.further t.further
      (sym (map_count (λ (l : OwnLayer). l.key) s.further) ∙ ap (λ (ks : List LayerKey). length ks) (s.keys ∙ sym t.keys) ∙ map_count (λ (l : OwnLayer). l.key) t.further)
      one_set

  pub one_cell : contents c ≡ contents b → contents x ≡ contents y
  one_cell h = contents_same x y
      (s.name ∙ ap (λ (z : flat.Cell × List Place). z.0.name) h ∙ sym t.name)
      (ap (map plain_layer) s.layers
      ∙ map-append plain_layer c.layers.items s.further
      ∙ ap (λ (ls : List flat.Layer). ls ++ map plain_layer s.further) (ap (λ (z : flat.Cell × List Place). z.0.layers) h)
      ∙ ap (λ (ls : List OwnLayer). map plain_layer b.layers.items ++ map plain_layer ls) one_further
      ∙ sym (map-append plain_layer b.layers.items t.further)
      ∙ ap (map plain_layer) (sym t.layers))
      (ap (map plain_text) s.texts ∙ ap (λ (z : flat.Cell × List Place). z.0.texts) h ∙ ap (map plain_text) (sym t.texts))
      (s.places ∙ ap (λ (z : flat.Cell × List Place). z.1) h ∙ sym t.places)
