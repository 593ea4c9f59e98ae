-- All layers of a layout that was read are ones that a stream may have: their numbers have 16 bits.
use Rattle.std.proofs.Common.{◌≡◌, ◌⊎◌, inl, inr, ℕ, zero, suc, ◌+◌, ◌*◌, ◌<◌, ◌^◌, Bool, true, false, ◌==◌, ◌||◌, List, [], ◌∷◌, ◌++◌, length, slice_get, slice_index, Option, Some, None, cond, sym, subst, arith}
use Rattle.std.specs.List.{AllByRecursion, list_any}
use Rattle.std.proofs.lemmas.Option.{slice_get_within}
use Rattle.base_laws.proofs.Items.{item_at}
use Rattle.geo_base.specs.Layers.{IsStreamKey, is_same_key}
use Rattle.geo_base.specs.declared.layer.LayerKey.{LayerKey}
use Rattle.plain_netlist.specs.Lists.{IsListed}
use Rattle.cell_graph.specs.Linked.{cell_at, layer_keys}
use Rattle.cell_graph.specs.declared.cells.CellPart.{CellPart}
use Rattle.cell_graph.specs.declared.cells.OwnLayer.{OwnLayer}
use Rattle.cell_graph.specs.declared.drafts.CellDraft.{CellDraft}
use Rattle.gds_records.specs.Records.{IsBytes, NoRecords, Records, ◌▸◌}
use Rattle.gds_records.specs.Kinds.{BGNEXTN, BGNSTR, BOUNDARY, BOX, BOXTYPE, DATATYPE, ENDEL, ENDEXTN, ENDSTR, LAYER, PATH, PATHTYPE, STRNAME, TEXTTYPE, WIDTH}
use Rattle.gds_elements.specs.Bounds.{is_bound}
use Rattle.gds_elements.specs.Data.{exactly, is_empty, long, number, trimmed}
use Rattle.gds_elements.specs.Faults.{Passes}
use Rattle.gds_elements.specs.Meaning.{Boundary, Cell, Form, Library, Shape, box_form, cell_part, cells_of, found, is_cell_bound, key_of, open_cells, open_points, open_shapes, opened, part, path_form, refs_of, shapes_of, texts_of, type_part}
use Rattle.gds_layout.specs.Drafts.{AreDraftsOf}
use Rattle.gds_layout.specs.Layouts.{IsRead}
use Rattle.gds_layout.specs.Shapes.{keys_behind, with_key}
use Rattle.gds_layout.specs.declared.layout.Layout.{Layout}

-- ---- numbers of two bytes

found_bytes : (wanted bound : ℕ → Bool) (rs : Records) → Passes rs → IsBytes (found wanted bound rs)
found_bytes wanted bound NoRecords h = λ i. omega arith
found_bytes wanted bound (before ▸ r) h = by (wanted r.kind) (bound r.kind) (found_bytes wanted bound before h.0)
  where
    by : (a b : Bool) → IsBytes (found wanted bound before) → IsBytes (cond a r.body (cond b [] (found wanted bound before)))
    by true b rest = h.1.bytes
    by false true rest = λ i. omega arith
    by false false rest = rest

two_bytes : (bytes : List ℕ) → IsBytes bytes → number bytes < 2 ^ 16
two_bytes bytes h = by (length bytes == 2)
  where
    by : (b : Bool) → cond b (slice_index bytes 0 * 256 + slice_index bytes 1) 0 < 2 ^ 16
    by true = let a = h 0 in let b = h 1 in omega (arith, a, b)
    by false = omega arith

-- ---- shapes of a stream

abbrev IsShort : Shape → Type 0
IsShort s = IsStreamKey s.key

shorts_on : (xs ys : List Shape) → AllByRecursion IsShort xs → AllByRecursion IsShort ys → AllByRecursion IsShort (xs ++ ys)
shorts_on [] ys f g = g
shorts_on (x ∷ xs) ys f g = (f.0, shorts_on xs ys f.1 g)

key_short : (rs : Records) → Passes rs → IsStreamKey (key_of rs)
key_short rs h = record {
  layer = two_bytes (part LAYER rs) (found_bytes (λ k. k == LAYER) is_bound rs h);
  datatype = two_bytes (type_part rs) (found_bytes (λ k. k == DATATYPE || k == TEXTTYPE || k == BOXTYPE) is_bound rs h);
}

open_short : (rs : Records) → Passes rs → AllByRecursion IsShort (open_shapes rs)
open_short rs h = by (opened rs == BOUNDARY) (opened rs == PATH) (opened rs == BOX)
  where
    key : LayerKey
    key = key_of rs

    one : (f : Form) → AllByRecursion IsShort (record { key = key; form = f } ∷ [])
    one f = (key_short rs h, tt)

    by : (a b c : Bool) → AllByRecursion IsShort (cond a (record { key = key; form = Boundary (open_points rs) } ∷ [])
        (cond b (record { key = key; form = path_form (number (part PATHTYPE rs)) (long (part WIDTH rs)) (long (part BGNEXTN rs)) (long (part ENDEXTN rs)) (open_points rs) } ∷ [])
        (cond c (record { key = key; form = box_form (open_points rs) } ∷ []) [])))
    by true b c = one (Boundary (open_points rs))
    by false true c = one (path_form (number (part PATHTYPE rs)) (long (part WIDTH rs)) (long (part BGNEXTN rs)) (long (part ENDEXTN rs)) (open_points rs))
    by false false true = one (box_form (open_points rs))
    by false false false = tt

shapes_short : (rs : Records) → Passes rs → AllByRecursion IsShort (shapes_of rs)
shapes_short NoRecords h = tt
shapes_short (before ▸ r) h = by (is_cell_bound r.kind) (r.kind == ENDEL) (shapes_short before h.0)
  where
    by : (a b : Bool) → AllByRecursion IsShort (shapes_of before) → AllByRecursion IsShort (cond a [] (cond b (shapes_of before ++ open_shapes before) (shapes_of before)))
    by true b rest = tt
    by false true rest = shorts_on (shapes_of before) (open_shapes before) rest (open_short before h.0)
    by false false rest = rest

-- ---- structures of a stream

abbrev AreShort : Cell → Type 0
AreShort c = AllByRecursion IsShort c.shapes

cells_on : (xs ys : List Cell) → AllByRecursion AreShort xs → AllByRecursion AreShort ys → AllByRecursion AreShort (xs ++ ys)
cells_on [] ys f g = g
cells_on (x ∷ xs) ys f g = (f.0, cells_on xs ys f.1 g)

open_cell_short : (rs : Records) → Passes rs → AllByRecursion AreShort (open_cells rs)
open_cell_short rs h = by (is_empty (trimmed (cell_part STRNAME rs)))
  where
    cell : Cell
    cell = record { dates = exactly 24 (cell_part BGNSTR rs); name = trimmed (cell_part STRNAME rs); shapes = shapes_of rs; texts = texts_of rs; refs = refs_of rs }

    by : (b : Bool) → AllByRecursion AreShort (cond b [] (cell ∷ []))
    by true = tt
    by false = (shapes_short rs h, tt)

cells_short : (rs : Records) → Passes rs → AllByRecursion AreShort (cells_of rs)
cells_short NoRecords h = tt
cells_short (before ▸ r) h = by (r.kind == ENDSTR) (cells_short before h.0)
  where
    by : (b : Bool) → AllByRecursion AreShort (cells_of before) → AllByRecursion AreShort (cond b (cells_of before ++ open_cells before) (cells_of before))
    by true rest = cells_on (cells_of before) (open_cells before) rest (open_cell_short before h.0)
    by false rest = rest

-- ---- the layers of a cell

with_short : (keys : List LayerKey) (key k : LayerKey) → IsListed k (with_key keys key) → IsListed k keys ⊎ (k ≡ key)
with_short keys key k = by (list_any (is_same_key key) keys)
  where
    pushed : (xs : List LayerKey) → IsListed k (xs ++ key ∷ []) → IsListed k xs ⊎ (k ≡ key)
    pushed [] (inl e) = inr e
    pushed [] (inr h) = absurd h
    pushed (x ∷ xs) (inl e) = inl (inl e)
    pushed (x ∷ xs) (inr h) = elim (pushed xs h) [ inl g ↦ inl (inr g) | inr e ↦ inr e ]

    by : (b : Bool) → IsListed k (cond b keys (keys ++ key ∷ [])) → IsListed k keys ⊎ (k ≡ key)
    by true h = inl h
    by false h = pushed keys h

behind_short : (shapes : List Shape) (keys : List LayerKey) → AllByRecursion IsShort shapes → ((k : LayerKey) → IsListed k keys → IsStreamKey k) → (k : LayerKey) → IsListed k (keys_behind keys shapes) → IsStreamKey k
behind_short [] keys all short k h = short k h
behind_short (s ∷ shapes) keys all short k h =
    behind_short shapes (with_key keys s.key) all.1
    (λ j g. elim (with_short keys s.key j g) [ inl old ↦ short j old | inr same ↦ subst (λ (x : LayerKey). IsStreamKey x) (sym same) all.0 ]) k h

draft_short : (cells : List Cell) (ds : List CellDraft) (i : ℕ) (d : CellDraft) → AllByRecursion AreShort cells → AreDraftsOf cells ds → slice_get ds i ≡ Some d → (k : LayerKey) → IsListed k (layer_keys d.layers.items) → IsStreamKey k
draft_short [] [] i d all h e k l = absurd (let f : None ≡ Some d = e in let z : ⊥ = cc in z)
draft_short (c ∷ cells) [] i d all h e k l = absurd h
draft_short [] (x ∷ ds) i d all h e k l = absurd h
draft_short (c ∷ cells) (x ∷ ds) zero d all h e k l =
    let same : x ≡ d = cc in
    let keys = h.0.layers.keys in
    behind_short c.shapes [] all.0 (λ j g. absurd g) k (subst (λ (ks : List LayerKey). IsListed k ks) keys (subst (λ (y : CellDraft). IsListed k (layer_keys y.layers.items)) (sym same) l))
draft_short (c ∷ cells) (x ∷ ds) (suc i) d all h e k l = draft_short cells ds i d all.1 h.1 e k l

-- of each cell that was read
pub stream_keys : (bytes : List ℕ) (top : Option (List ℕ)) (l : Layout) → IsRead bytes top l → (i : ℕ) (c : CellPart) → cell_at l.design i ≡ Some c → (k : LayerKey) → IsListed k (layer_keys c.layers.items) → IsStreamKey k
stream_keys bytes top l h i c at k listed =
    let of = h.layout in
    let within = slice_get_within l.design.cells i c at in
    let draft = item_at of.drafts i (let count = of.linked.count in omega (arith, within, count)) in
    let part = of.linked.each i draft.0 c draft.1 at in
    let passes = h.accepted.2.passes in
    let all = subst (λ (v : Library). AllByRecursion AreShort v.cells) h.accepted.4 (cells_short h.accepted.0 passes) in
    draft_short h.library.cells of.drafts i draft.0 all of.drafted draft.1 k (subst (λ (ls : List OwnLayer). IsListed k (layer_keys ls)) part.layers listed)
