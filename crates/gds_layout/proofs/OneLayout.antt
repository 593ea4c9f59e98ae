-- Bytes are read as one layout.
use Rattle.std.proofs.Common.{◌≡◌, ◌⊎◌, inl, inr, ℕ, ◌+◌, ◌-◌, ◌*◌, ◌^◌, ◌<◌, ◌≤◌, List, [], ◌∷◌, map, length, Option, Some, None, refl, sym, ap, subst, ◌∙◌, arith}
use Rattle.std.proofs.lemmas.Bool.{cases_lt}
use Rattle.std.proofs.Math.Nat.{mul-le-mul_right}
use Rattle.fixed_num.specs.Real.{IsNearest, whole}
use Rattle.gds_elements.specs.Data.{real_in, unit_in}
use Rattle.base_laws.proofs.Lists.{map_count}
use Rattle.base_laws.proofs.Items.{one_list, map_from}
use Rattle.geo_base.specs.declared.motion.Motion.{Motion}
use Rattle.geo_base.specs.declared.shapes.Point.{Point}
use Rattle.rect_sets.specs.Rects.{OneListLaw}
use Rattle.flat_layout.specs.Layout as flat
use Rattle.flat_layout.specs.Arrays.{places_of}
use Rattle.gds_elements.specs.Meaning.{Library, Text}
use Rattle.gds_elements.specs.Once.{OneLibraryLaw}
use Rattle.cell_graph.specs.declared.cells.OwnLayer.{OwnLayer}
use Rattle.cell_graph.specs.declared.cells.RawText.{RawText}
use Rattle.cell_graph.specs.declared.cells.Place.{Place}
use Rattle.cell_graph.specs.declared.cells.CellPart.{CellPart}
use Rattle.cell_graph.specs.declared.drafts.DraftRef.{DraftRef}
use Rattle.cell_graph.specs.declared.drafts.CellDraft.{CellDraft}
use Rattle.cell_graph.specs.Linked.{Linked, plain_layer, plain_text, reference}
use Rattle.cell_graph.specs.Drafts.{IsNamed, IsTop, HasNoRepeat, IsLink, IsPartOf, IsResolved, AreAllResolved}
use Rattle.cell_graph.proofs.Resolving.{at_too, one_named}
use Rattle.gds_layout.specs.declared.layout.Header.{Header}
use Rattle.gds_layout.specs.declared.layout.Layout.{Layout}
use Rattle.gds_layout.specs.Drafts.{text_of}
use Rattle.gds_layout.specs.Layouts.{IsHeaderOf, IsLayoutOf}
use Rattle.gds_layout.specs.Once.{IsSameHeader, IsSameLayout, OneLayoutLaw, contents}
use Rattle.gds_layout.proofs.SameDrafts.{AreIn, IsSameDraft, are_in, same_count, named, top_too}

-- ---- references

one_place : (ds : List CellDraft) → HasNoRepeat ds → (r : DraftRef) (p q : Place) → IsResolved ds r p → (IsNamed ds r.cell q.cell) → q.motion ≡ r.motion → q.columns ≡ r.columns → q.rows ≡ r.rows
    → q.column_step ≡ r.column_step → q.row_step ≡ r.row_step → p ≡ q
one_place ds once r p q x name motion columns rows column_step row_step =
    let cell = one_named ds once r.cell p.cell q.cell x.names name in
    let a : p.motion ≡ q.motion = x.motion ∙ sym motion in
    let b : p.columns ≡ q.columns = x.columns ∙ sym columns in
    let c : p.rows ≡ q.rows = x.rows ∙ sym rows in
    let d : p.column_step ≡ q.column_step = x.column_step ∙ sym column_step in
    let e : p.row_step ≡ q.row_step = x.row_step ∙ sym row_step in
    ap (λ (n : ℕ). let z : Place = record { cell = n; motion = p.motion; columns = p.columns; rows = p.rows; column_step = p.column_step; row_step = p.row_step } in z) cell
    ∙ ap (λ (n : Motion). let z : Place = record { cell = q.cell; motion = n; columns = p.columns; rows = p.rows; column_step = p.column_step; row_step = p.row_step } in z) a
    ∙ ap (λ (n : ℕ). let z : Place = record { cell = q.cell; motion = q.motion; columns = n; rows = p.rows; column_step = p.column_step; row_step = p.row_step } in z) b
    ∙ ap (λ (n : ℕ). let z : Place = record { cell = q.cell; motion = q.motion; columns = q.columns; rows = n; column_step = p.column_step; row_step = p.row_step } in z) c
    ∙ ap (λ (n : Point). let z : Place = record { cell = q.cell; motion = q.motion; columns = q.columns; rows = q.rows; column_step = n; row_step = p.row_step } in z) d
    ∙ ap (λ (n : Point). let z : Place = record { cell = q.cell; motion = q.motion; columns = q.columns; rows = q.rows; column_step = q.column_step; row_step = n } in z) e

one_places : (cells ds : List CellDraft) → AreIn ds cells → HasNoRepeat cells → (refs : List DraftRef) (ps qs : List Place) → AreAllResolved cells refs ps → AreAllResolved ds refs qs → ps ≡ qs
one_places cells ds back once refs ps qs x y = one_list ps qs (x.count ∙ sym y.count) (
    λ k p q a b.
    let r = at_too ps refs k p x.count a in
    let there = x.each k r.0 p r.1 a in
    let too = y.each k r.0 q r.1 b in
    one_place cells once r.0 p q there (named ds cells back r.0.cell q.cell too.names) too.motion too.columns too.rows too.column_step too.row_step)

-- ---- cells

one_texts : (xs ys : List RawText) → map text_of xs ≡ map text_of ys → map plain_text xs ≡ map plain_text ys
one_texts [] [] e = refl
one_texts (x ∷ xs) [] e = absurd cc
one_texts [] (y ∷ ys) e = absurd cc
one_texts (x ∷ xs) (y ∷ ys) e =
    let first : text_of x ≡ text_of y = cc in
    let rest : map text_of xs ≡ map text_of ys = cc in
    ap (λ (t : Text). let u : flat.Text = record { key = t.key; at = t.at; string = t.text } in u ∷ map plain_text xs) first
    ∙ ap (λ (us : List flat.Text). plain_text y ∷ us) (one_texts xs ys rest)

same_cell : (a b : CellPart) → a.name ≡ b.name → a.layers.items ≡ b.layers.items → map plain_text a.texts.items ≡ map plain_text b.texts.items → a.places.items ≡ b.places.items → contents a ≡ contents b
same_cell a b name layers texts places =
    ap (λ (n : List ℕ). let c : flat.Cell = record { name = n; layers = map plain_layer a.layers.items; texts = map plain_text a.texts.items; places = places_of (map reference a.places.items) } in (c, a.places.items)) name
    ∙ ap (λ (ls : List OwnLayer). let c : flat.Cell = record { name = b.name; layers = map plain_layer ls; texts = map plain_text a.texts.items; places = places_of (map reference a.places.items) } in (c, a.places.items)) layers
    ∙ ap (λ (ts : List flat.Text). let c : flat.Cell = record { name = b.name; layers = map plain_layer b.layers.items; texts = ts; places = places_of (map reference a.places.items) } in (c, a.places.items)) texts
    ∙ ap (λ (ps : List Place). let c : flat.Cell = record { name = b.name; layers = map plain_layer b.layers.items; texts = map plain_text b.texts.items; places = places_of (map reference ps) } in (c, ps)) places

part_same : (cells ds : List CellDraft) → AreIn ds cells → HasNoRepeat cells → (i : ℕ) (c d : CellDraft) (p q : CellPart) → IsSameDraft c d → IsPartOf cells i c p → IsPartOf ds i d q → contents p ≡ contents q
part_same cells ds back once i c d p q same x y = same_cell p q
    (x.name ∙ same.name ∙ sym y.name)
    (x.layers ∙ same.layers ∙ sym y.layers)
    (ap (map plain_text) x.texts ∙ one_texts c.texts.items d.texts.items same.texts ∙ ap (map plain_text) (sym y.texts))
    (one_places cells ds back once c.refs.items p.places.items q.places.items x.places (subst (λ (rs : List DraftRef). AreAllResolved ds rs q.places.items) (sym same.refs) y.places))

cells_same : (cells ds : List CellDraft) (top : Option (List ℕ)) (l m : Linked) → length cells ≡ length ds → AreIn cells ds → AreIn ds cells → IsLink cells top l → IsLink ds top m → map contents l.cells ≡ map contents m.cells
cells_same cells ds top l m count to back x y = one_list (map contents l.cells) (map contents m.cells)
    (map_count contents l.cells ∙ x.count ∙ count ∙ sym y.count ∙ sym (map_count contents m.cells))
    (λ k a b p q.
    let one = map_from contents l.cells k a p in
    let two = map_from contents m.cells k b q in
    let c = at_too l.cells cells k one.0 x.count one.1 in
    let d = to k c.0 c.1 in
    sym one.2
    ∙ part_same cells ds back x.sound.once k c.0 d.0 one.0 two.0 d.2 (x.each k c.0 one.0 c.1 one.1) (y.each k d.0 two.0 d.1 two.1)
    ∙ two.2)

-- ---- the top

one_top : (ds : List CellDraft) → HasNoRepeat ds → (top : Option (List ℕ)) (i j : ℕ) → IsTop ds top i → IsTop ds top j → i ≡ j
one_top ds once None i j x y = y.1 i x.0
one_top ds once (Some name) i j x y = one_named ds once name i j x y

-- ---- the database unit

-- a value has one nearest whole number
not_below : (s w j k : ℕ) → j < k → 2 * w < (2 * j + 1) * s → (2 * k - 1) * s ≤ 2 * w → ⊥
not_below s w j k lt high low =
    let less : 2 * j + 1 ≤ 2 * k - 1 = omega (arith, lt) in
    let wide = mul-le-mul_right s less in
    omega (arith, wide, high, low)

one_nearest : (w j k : ℕ) → IsNearest w j → IsNearest w k → j ≡ k
one_nearest w j k a b = by (cases_lt j k) (cases_lt k j)
  where
    by : (j < k) ⊎ (k ≤ j) → (k < j) ⊎ (j ≤ k) → j ≡ k
    by (inl lt) q = absurd (not_below (16 ^ 78) (w * 10 ^ 12) j k lt (let h = a.high in omega (arith, h)) (let h = b.low in omega (arith, h)))
    by (inr le) (inl lt) = absurd (not_below (16 ^ 78) (w * 10 ^ 12) k j lt (let h = b.high in omega (arith, h)) (let h = a.low in omega (arith, h)))
    by (inr le) (inr ge) = omega (arith, le, ge)

-- ---- layouts

header_same : (v : Library) (a b : Header) → IsHeaderOf v a → IsHeaderOf v b → IsSameHeader a b
header_same v a b x y = record {
  version = x.version ∙ sym y.version;
  dates = x.dates ∙ sym y.dates;
  name = x.name ∙ sym y.name;
  units = x.units ∙ sym y.units;
  unit = one_nearest (whole (real_in (unit_in v.units))) a.unit_pm b.unit_pm x.unit.nearest y.unit.nearest;
}

layout_same : OneListLaw → (v : Library) (top : Option (List ℕ)) (l m : Layout) → IsLayoutOf v top l → IsLayoutOf v top m → IsSameLayout l m
layout_same lists v top l m x y =
    let to = are_in lists v.cells x.drafts y.drafts x.drafted y.drafted in
    let back = are_in lists v.cells y.drafts x.drafts y.drafted x.drafted in
    let count : length x.drafts ≡ length y.drafts = same_count v.cells x.drafts x.drafted ∙ sym (same_count v.cells y.drafts y.drafted) in
    record {
      header = header_same v l.header m.header x.header y.header;
      dates = x.cell_dates ∙ sym y.cell_dates;
      cells = cells_same x.drafts y.drafts top l.design m.design count to back x.linked y.linked;
      top = one_top y.drafts y.linked.sound.once top l.design.top m.design.top (top_too x.drafts y.drafts count to back top l.design.top x.linked.tops) y.linked.tops;
    }

pub one_layout : OneListLaw → OneLibraryLaw → OneLayoutLaw
one_layout lists libraries bytes top l m x y =
    layout_same lists x.library top l m x.layout (subst (λ (v : Library). IsLayoutOf v top m) (libraries bytes y.library x.library y.accepted x.accepted) y.layout)
