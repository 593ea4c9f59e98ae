-- The header, the dates, the names and the references of a layout that was read are those of its
-- stream.
use Rattle.std.proofs.Common.{◌≡◌, ℕ, zero, suc, List, [], ◌∷◌, length, get_or, Option, Some, slice_get, refl, sym, ap, subst, ◌∙◌, arith}
use Rattle.base_laws.proofs.Lists.{map_count}
use Rattle.base_laws.proofs.Items.{item_at, map_to}
use Rattle.std.specs.List.{All, AllByRecursion}
use Rattle.std.proofs.lemmas.Option.{slice_get-get_or, slice_get_within}
use Rattle.std.proofs.lemmas.List.Elements.{recursion_from_All, All-map}
use Rattle.gds_elements.specs.Meaning.{Ref, Cell, Library}
use Rattle.gds_elements.specs.Data.{has_unit}
use Rattle.cell_graph.specs.declared.cells.Place.{Place}
use Rattle.cell_graph.specs.declared.cells.CellPart.{CellPart}
use Rattle.cell_graph.specs.declared.drafts.DraftRef.{DraftRef}
use Rattle.cell_graph.specs.declared.drafts.CellDraft.{CellDraft}
use Rattle.cell_graph.specs.Linked.{Linked, cell_at}
use Rattle.cell_graph.specs.Drafts.{IsLink, IsPartOf, IsResolved}
use Rattle.gds_layout.specs.declared.layout.Layout.{Layout}
use Rattle.gds_layout.specs.Drafts.{IsDraftOf, AreDraftsOf, ref_of as drafted_ref}
use Rattle.gds_layout.specs.Layouts.{IsLayoutOf}
use Rattle.gds_shapes.specs.Data.{IsData, IsText, IsNamed}
use Rattle.gds_shapes.specs.References.{FitsReference}
use Rattle.gds_shapes.specs.Accepted.{ReadHeadingLaw, ReadReferencesLaw, ReadLaw, IsRead as IsReadCell}
use Rattle.layout_shapes.specs.Written.{name_of, ref_of}
use Rattle.layout_shapes.specs.Writable.{IsWritableCell}
use Rattle.shapes_file.specs.Read.{FitsStreamLaw}
use Rattle.shapes_file.proofs.Linked.{heights, one_name, reached_in}

-- ---- lists

each_at : {A : Type 0} (P : A → Type 0) (xs : List A) (k : ℕ) (x : A) → AllByRecursion P xs → slice_get xs k ≡ Some x → P x
each_at P [] k x h e = absurd cc
each_at P (y ∷ xs) zero x h e = let same : y ≡ x = cc in subst (λ z. P z) same h.0
each_at P (y ∷ xs) (suc k) x h e = each_at P xs k x h.1 e

-- ---- structures and their drafts

same_count : (cells : List Cell) (ds : List CellDraft) → AreDraftsOf cells ds → length ds ≡ length cells
same_count [] [] h = refl
same_count (c ∷ cells) [] h = absurd h
same_count [] (d ∷ ds) h = absurd h
same_count (c ∷ cells) (d ∷ ds) h = ap (λ (n : ℕ). suc n) (same_count cells ds h.1)

structure_at : (cells : List Cell) (ds : List CellDraft) (i : ℕ) (d : CellDraft) → AreDraftsOf cells ds → slice_get ds i ≡ Some d → (c : Cell) × (slice_get cells i ≡ Some c) × IsDraftOf c d
structure_at [] [] i d h e = absurd cc
structure_at (c ∷ cells) [] i d h e = absurd h
structure_at [] (x ∷ ds) i d h e = absurd h
structure_at (c ∷ cells) (x ∷ ds) zero d h e = let same : x ≡ d = cc in (c, refl, subst (λ (y : CellDraft). IsDraftOf c y) same h.0)
structure_at (c ∷ cells) (x ∷ ds) (suc i) d h e = structure_at cells ds i d h.1 e

-- ---- references

-- a place is the draft's reference, by the name of the cell that it names
ref_is : (ds : List CellDraft) (top : Option (List ℕ)) (d : Linked) (r : DraftRef) (p : Place) → IsLink ds top d → IsResolved ds r p → ref_of d p ≡ drafted_ref r
ref_is ds top d r p link res =
    let n = res.names in
    let at = item_at d.cells p.cell (let in_drafts = slice_get_within ds p.cell n.cell n.there in let count = link.count in omega (arith, in_drafts, count)) in
    let part = link.each p.cell n.cell at.0 n.there at.1 in
    let name : name_of (cell_at d p.cell) ≡ r.cell = ap name_of at.1 ∙ part.name ∙ n.named in
    rw (name, res.motion, res.columns, res.rows, res.column_step, res.row_step) refl

place_fits : (ds : List CellDraft) (top : Option (List ℕ)) (d : Linked) (c : Cell) (draft : CellDraft) (part : CellPart) (i : ℕ) → IsLink ds top d → IsDraftOf c draft → IsPartOf ds i draft part → All FitsReference c.refs
    → (k : ℕ) (p : Place) → slice_get part.places.items k ≡ Some p → FitsReference (ref_of d p)
place_fits ds top d c draft part i link drafted is fits k p e =
    let within = slice_get_within part.places.items k p e in
    let at = item_at draft.refs.items k (let count = is.places.count in omega (arith, within, count)) in
    let res = is.places.each k at.0 p at.1 e in
    let here : slice_get c.refs k ≡ Some (drafted_ref at.0) = sym (ap (λ (rs : List Ref). slice_get rs k) drafted.refs) ∙ map_to drafted_ref draft.refs.items k at.0 at.1 in
    subst (λ (r : Ref). FitsReference r) (sym (ref_is ds top d at.0 p link res)) (each_at FitsReference c.refs k (drafted_ref at.0) (recursion_from_All FitsReference c.refs fits) here)

-- ---- the layout

cell_writable : (v : Library) (top : Option (List ℕ)) (l : Layout) (h : IsLayoutOf v top l) → All (λ cell. IsReadCell v cell) v.cells → All (λ cell. All FitsReference cell.refs) v.cells
    → (i : ℕ) (part : CellPart) → slice_get l.design.cells i ≡ Some part → IsWritableCell l.design part
cell_writable v top l h read fits i part e =
    let within = slice_get_within l.design.cells i part e in
    let at = item_at h.drafts i (let count = h.linked.count in omega (arith, within, count)) in
    let s = structure_at v.cells h.drafts i at.0 h.drafted at.1 in
    let is = h.linked.each i at.0 part at.1 e in
    let P : Cell → Type 0 = λ cell. IsReadCell v cell in
    let F : Cell → Type 0 = λ cell. All FitsReference cell.refs in
    let named = (each_at P v.cells i s.0 (recursion_from_All P v.cells read) s.1).cell_name in
    let all = each_at F v.cells i s.0 (recursion_from_All F v.cells fits) s.1 in
    record {
      name = subst (λ (name : List ℕ). IsNamed name) (sym (is.name ∙ s.2.name)) named;
      refs = λ k q lt. place_fits h.drafts top l.design s.0 at.0 part i h.linked s.2 is all k (get_or part.places.items k q) (slice_get-get_or part.places.items k q lt);
    }

pub read_back : ReadHeadingLaw → ReadReferencesLaw → ReadLaw → FitsStreamLaw
read_back headings references cells bytes top l h =
    let v = h.library in
    let of = h.layout in
    let link = of.linked in
    let heading = headings bytes v h.accepted in
    let read = cells bytes v h.accepted in
    record {
      room = record {
        heading = record {
          version = subst (λ (b : List ℕ). IsData 2 b) (sym of.header.version) heading.version;
          dates = subst (λ (b : List ℕ). IsData 24 b) (sym of.header.dates) heading.dates;
          name = subst (λ (b : List ℕ). IsText b) (sym of.header.name) heading.name;
          units = subst (λ (b : List ℕ). IsData 16 b) (sym of.header.units) heading.units;
          unit = ap (λ (b : List ℕ). has_unit b) of.header.units ∙ heading.unit;
        };
        count = ap (λ (ds : List (List ℕ)). length ds) of.cell_dates ∙ map_count (λ (c : Cell). c.dates) v.cells ∙ sym (same_count v.cells of.drafts of.drafted) ∙ sym of.linked.count;
        dates = subst (λ (ds : List (List ℕ)). All (IsData 24) ds) (sym of.cell_dates) (All-map (IsData 24) (λ (c : Cell). c.dates) v.cells (λ k q lt. (read k q lt).cell_dates));
        each = cell_writable v top l of read (references bytes v h.accepted);
      };
      names = λ j k a b e. one_name of.drafts top l.design j k link (reached_in of.drafts top l.design j link a) (reached_in of.drafts top l.design k link b) e;
      heights = heights of.drafts top l.design link;
    }
