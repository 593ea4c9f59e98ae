-- The written stream is accepted, as the library of the written cells.
use Rattle.std.proofs.Common.{◌≡◌, ℕ, ◌+◌, ◌%◌, ◌^◌, ◌<◌, Bool, true, false, cond, List, [], ◌∷◌, ◌++◌, length, replicate, Option, Some, None, refl, sym, ap, subst, ◌∙◌, append_assoc, arith, eq-eqb}
use Rattle.std.specs.Prelude.{◌==◌, map, IsTrue}
use Rattle.std.specs.List.{All, flat_map}
use Rattle.std.proofs.lemmas.List.{append-nil}
use Rattle.std.proofs.lemmas.List.Elements.{All-head, All-tail}
use Rattle.gds_records.specs.Records.{IsRecord, is_listed, Records, NoRecords, ◌▸◌, bytes_of, followed_by_all}
use Rattle.gds_records.specs.Kinds.{HEADER, BGNLIB, LIBNAME, UNITS, ENDLIB, BGNSTR, STRNAME, ENDSTR}
use Rattle.gds_grammar.specs.Pattern.{Pattern, after_any}
use Rattle.gds_grammar.specs.Order.{left_after}
use Rattle.gds_elements.specs.Data.{exactly, is_empty, trimmed}
use Rattle.gds_elements.specs.Meaning.{Shape, Text, Ref, Cell, Library, opened, cell_by, open_cells, library_of, single}
use Rattle.gds_elements.specs.Faults.{fault_of, Passes}
use Rattle.gds_elements.specs.Reading.{rec}
use Rattle.gds_shapes.specs.Data.{bare, filled, numbers, string, IsData}
use Rattle.gds_shapes.specs.References.{is_single, placement, array, reference, reference_read, FitsReference}
use Rattle.gds_shapes.specs.Stream.{Heading, Drawn, layer, structure, stream, library_bytes}
use Rattle.gds_shapes.specs.Accepted.{IsHeading, FitsCell, WrittenLaw, layer_shapes, cell_read}
use Rattle.gds_shapes.proofs.Bodies.{Filled, string_filled}
use Rattle.gds_shapes.proofs.Joined.{bytes_more}
use Rattle.gds_shapes.proofs.Context.{inside, between, InCell, Between, passes_next, shut_finished, goes_on, shut_passes, shut_content, bare_record, followed-append}
use Rattle.gds_shapes.proofs.InCell.{layers_more}
use Rattle.gds_shapes.proofs.Placements.{string_record as named_record, name_back, name_plain, placement_more}
use Rattle.gds_shapes.proofs.ArrayMore.{array_more}

data_record : (kind form size : ℕ) (body : List ℕ) → IsTrue (is_listed kind) → form < 256 → size % 2 ≡ 0 → size + 4 < 2 ^ 16 → IsData size body → IsRecord (rec kind form body)
data_record kind form size body h f e s d =
    record { kind = h; form = f; even = ap (λ (n : ℕ). n % 2) d.whole ∙ e; short = let w = d.whole in omega (arith, w, s); bytes = d.bytes }

string_record : (kind : ℕ) (text : List ℕ) → IsTrue (is_listed kind) → Filled (filled text) text → IsRecord (string kind text)
string_record kind text h f = record { kind = h; form = omega arith; even = f.even; short = f.short; bytes = f.bytes }

exact : (n : ℕ) (body : List ℕ) → length body ≡ n → exactly n body ≡ body
exact n body h = ap (λ (b : Bool). cond b body (replicate n 0)) (eq-eqb _ _ h)

-- ---- references

reference_more : (h : Heading) (cells : List Cell) (cell : Drawn) (shapes : List Shape) (refs : List Ref) (rs : Records) (f : Ref) → FitsReference f → InCell h cells cell shapes refs rs
    → InCell h cells cell shapes (refs ++ reference_read f ∷ []) (followed_by_all rs (reference f))
reference_more h cells cell shapes refs rs f fits s = by_test (is_single f)
  where
    by_test : (b : Bool) → InCell h cells cell shapes (refs ++ cond b (single f.cell f.motion) f ∷ []) (followed_by_all rs (cond b (placement f) (array f)))
    by_test true = placement_more h cells cell shapes refs rs f fits s
    by_test false = array_more h cells cell shapes refs rs f fits s

references_more : (h : Heading) (cells : List Cell) (cell : Drawn) (shapes : List Shape) (refs : List Ref) (rs : Records) (fs : List Ref) → All FitsReference fs → InCell h cells cell shapes refs rs
    → InCell h cells cell shapes (refs ++ map reference_read fs) (followed_by_all rs (flat_map reference fs))
references_more h cells cell shapes refs rs [] all s = let P : List Ref → Type 0 = λ xs. InCell h cells cell shapes xs rs in subst P (sym (append-nil refs)) s
references_more h cells cell shapes refs rs (f ∷ fs) all s =
    let more = reference_more h cells cell shapes refs rs f (All-head FitsReference f fs all) s in
    let rest = references_more h cells cell shapes (refs ++ reference_read f ∷ []) (followed_by_all rs (reference f)) fs (All-tail FitsReference f fs all) more in
    let P : List Ref → Type 0 = λ xs. InCell h cells cell shapes xs (followed_by_all (followed_by_all rs (reference f)) (flat_map reference fs)) in
    let Q : Records → Type 0 = λ qs. InCell h cells cell shapes (refs ++ reference_read f ∷ map reference_read fs) qs in
    subst Q (sym (followed-append rs (reference f) (flat_map reference fs))) (subst P (append_assoc refs (reference_read f ∷ []) (map reference_read fs)) rest)

-- ---- a cell

-- the records up to the cell's name
abbrev begun : Records → Drawn → Records
begun rs cell = rs ▸ numbers BGNSTR cell.dates ▸ string STRNAME cell.name

begin : (h : Heading) (cells : List Cell) (cell : Drawn) (rs : Records) → FitsCell cell → Between h cells rs → InCell h cells cell [] [] (begun rs cell)
begin h cells cell rs fits s =
    let b = rs ▸ numbers BGNSTR cell.dates in
    let left_b : left_after b ≡ after_any BGNSTR between = ap (λ (ps : List Pattern). after_any BGNSTR ps) s.left in
    let pass_b : fault_of rs (numbers BGNSTR cell.dates) ≡ None =
    passes_next rs (numbers BGNSTR cell.dates) (shut_finished rs BGNSTR s.shut) (goes_on rs BGNSTR between s.left refl) (ap (λ (n : ℕ). n == 24) fits.dates.whole) (shut_content BGNSTR (opened rs) [] 0 0 cell.dates s.shut refl) in
    let pass_n : fault_of b (string STRNAME cell.name) ≡ None = passes_next b (string STRNAME cell.name) refl (goes_on b STRNAME _ left_b refl) (name_plain cell.name fits.name) (shut_content STRNAME (opened rs) [] 0 0 (filled cell.name) s.shut refl) in
    record {
      left = ap (λ (ps : List Pattern). after_any STRNAME ps) left_b;
      shut = s.shut;
      head = record {
        passes = ((s.head.passes, data_record BGNSTR 2 24 cell.dates refl (omega arith) refl (omega arith) fits.dates, pass_b), named_record STRNAME cell.name refl fits.name, pass_n);
        version = s.head.version;
        dates = s.head.dates;
        name = s.head.name;
        units = s.head.units;
        cells_are = s.head.cells_are;
      };
      body = record { dates = refl; name = refl; shapes_are = refl; texts = refl; refs_are = refl };
    }

same_cell : (d n d' n' : List ℕ) (s s' : List Shape) (t : List Text) (r r' : List Ref) → d ≡ d' → n ≡ n' → is_empty n' ≡ false → s ≡ s' → t ≡ [] → r ≡ r'
    → (let one : Cell = record { dates = d'; name = n'; shapes = s'; texts = []; refs = r' } in cell_by d n s t r ≡ one ∷ [])
same_cell d n d' n' s s' t r r' e f g h i j = rw (e, f, h, i, j, g) refl

end : (h : Heading) (cells : List Cell) (cell : Drawn) (rs : Records) → FitsCell cell → InCell h cells cell (flat_map layer_shapes cell.layers) (map reference_read cell.refs) rs
    → Between h (cells ++ cell_read cell ∷ []) (rs ▸ bare ENDSTR)
end h cells cell rs fits s =
    let pass : fault_of rs (bare ENDSTR) ≡ None = passes_next rs (bare ENDSTR) (shut_finished rs ENDSTR s.shut) (goes_on rs ENDSTR inside s.left refl) refl (shut_passes ENDSTR (opened rs) [] 0 0 s.shut refl) in
    let one : open_cells rs ≡ cell_read cell ∷ [] =
    same_cell _ _ cell.dates cell.name _ (flat_map layer_shapes cell.layers) _ _ (map reference_read cell.refs) (ap (λ (bs : List ℕ). exactly 24 bs) s.body.dates ∙ exact 24 cell.dates fits.dates.whole)
    (ap trimmed s.body.name ∙ name_back cell.name fits.name) fits.name.named s.body.shapes_are s.body.texts s.body.refs_are in
    record {
      left = ap (λ (ps : List Pattern). after_any ENDSTR ps) s.left;
      shut = s.shut;
      head = record {
        passes = (s.head.passes, bare_record ENDSTR refl, pass);
        version = s.head.version;
        dates = s.head.dates;
        name = s.head.name;
        units = s.head.units;
        cells_are = ap (λ (cs : List Cell). cs ++ open_cells rs) s.head.cells_are ∙ ap (λ (cs : List Cell). cells ++ cs) one;
      };
    }

cell_more : (h : Heading) (cells : List Cell) (cell : Drawn) (rs : Records) → FitsCell cell → Between h cells rs → Between h (cells ++ cell_read cell ∷ []) (followed_by_all rs (structure cell))
cell_more h cells cell rs fits s =
    let start = begun rs cell in
    let refs = flat_map reference cell.refs in
    let layers = flat_map layer cell.layers in
    let with_refs = references_more h cells cell [] [] start cell.refs fits.refs (begin h cells cell rs fits s) in
    let with_layers = layers_more h cells cell [] (map reference_read cell.refs) (followed_by_all start refs) cell.layers fits.layers with_refs in
    let last = end h cells cell (followed_by_all (followed_by_all start refs) layers) fits with_layers in
    let P : Records → Type 0 = λ qs. Between h (cells ++ cell_read cell ∷ []) qs in
    let whole : followed_by_all rs (structure cell) ≡ followed_by_all (followed_by_all start refs) layers ▸ bare ENDSTR =
    followed-append start (refs ++ layers) (bare ENDSTR ∷ []) ∙ ap (λ (qs : Records). qs ▸ bare ENDSTR) (followed-append start refs layers) in
    subst P (sym whole) last

cells_more : (h : Heading) (cells : List Cell) (more : List Drawn) (rs : Records) → All FitsCell more → Between h cells rs → Between h (cells ++ map cell_read more) (followed_by_all rs (flat_map structure more))
cells_more h cells [] rs all s = let P : List Cell → Type 0 = λ cs. Between h cs rs in subst P (sym (append-nil cells)) s
cells_more h cells (cell ∷ more) rs all s =
    let one = cell_more h cells cell rs (All-head FitsCell cell more all) s in
    let rest = cells_more h (cells ++ cell_read cell ∷ []) more (followed_by_all rs (structure cell)) (All-tail FitsCell cell more all) one in
    let P : List Cell → Type 0 = λ cs. Between h cs (followed_by_all (followed_by_all rs (structure cell)) (flat_map structure more)) in
    let Q : Records → Type 0 = λ qs. Between h (cells ++ cell_read cell ∷ map cell_read more) qs in
    subst Q (sym (followed-append rs (structure cell) (flat_map structure more))) (subst P (append_assoc cells (cell_read cell ∷ []) (map cell_read more)) rest)

-- ---- the library

unit_passes : (b : Bool) (n : Option ℕ) → b ≡ true → cond b None n ≡ None
unit_passes b n e = rw e refl

-- the records up to the units
abbrev headed : Heading → Records
headed h = NoRecords ▸ numbers HEADER h.version ▸ numbers BGNLIB h.dates ▸ string LIBNAME h.name ▸ rec UNITS 5 h.units

headed_passes : (h : Heading) → IsHeading h → Passes (headed h)
headed_passes h is =
    let a = NoRecords ▸ numbers HEADER h.version in
    let b = a ▸ numbers BGNLIB h.dates in
    let c = b ▸ string LIBNAME h.name in
    let name = string_filled h.name is.name.short is.name.bytes in
    let pass_a : fault_of NoRecords (numbers HEADER h.version) ≡ None = passes_next NoRecords (numbers HEADER h.version) refl refl (ap (λ (n : ℕ). n == 2) is.version.whole) refl in
    let pass_b : fault_of a (numbers BGNLIB h.dates) ≡ None = passes_next a (numbers BGNLIB h.dates) refl refl (ap (λ (n : ℕ). n == 24) is.dates.whole) refl in
    let pass_c : fault_of b (string LIBNAME h.name) ≡ None = passes_next b (string LIBNAME h.name) refl refl refl refl in
    let pass_d : fault_of c (rec UNITS 5 h.units) ≡ None = passes_next c (rec UNITS 5 h.units) refl refl (ap (λ (n : ℕ). n == 16) is.units.whole) (unit_passes _ (Some 13) is.unit) in (
      (
        ((tt, data_record HEADER 2 2 h.version refl (omega arith) refl (omega arith) is.version, pass_a), data_record BGNLIB 2 24 h.dates refl (omega arith) refl (omega arith) is.dates, pass_b),
        string_record LIBNAME h.name refl name,
        pass_c,
      ),
      data_record UNITS 5 16 h.units refl (omega arith) refl (omega arith) is.units,
      pass_d,
    )

first_between : (h : Heading) → IsHeading h → Between h [] (headed h)
first_between h is = record {
  left = refl;
  shut = refl;
  head = record { passes = headed_passes h is; version = refl; dates = refl; name = refl; units = refl; cells_are = refl };
}

abbrev made : List ℕ → List ℕ → List ℕ → List ℕ → List Cell → Library
made v d n u c = record { version = v; dates = d; name = n; units = u; cells = c }

same_library : (v d n u v' d' n' u' : List ℕ) (c c' : List Cell) → v ≡ v' → d ≡ d' → n ≡ n' → u ≡ u' → c ≡ c' → made v d n u c ≡ made v' d' n' u' c'
same_library v d n u v' d' n' u' c c' e f g h i = rw (e, f, g, h, i) refl

means : (h : Heading) (cells : List Cell) (rs : Records) → IsHeading h → Between h cells rs → library_of (rs ▸ bare ENDLIB) ≡ made h.version h.dates h.name h.units cells
means h cells rs is s =
    let name = string_filled h.name is.name.short is.name.bytes in
    same_library _ _ _ _ h.version h.dates h.name h.units _ cells
    (ap (λ (bs : List ℕ). exactly 2 bs) s.head.version ∙ exact 2 h.version is.version.whole)
    (ap (λ (bs : List ℕ). exactly 24 bs) s.head.dates ∙ exact 24 h.dates is.dates.whole)
    (ap trimmed s.head.name ∙ name.same ∙ is.name.trimmed)
    (ap (λ (bs : List ℕ). exactly 16 bs) s.head.units ∙ exact 16 h.units is.units.whole)
    s.head.cells_are

pub law : WrittenLaw
law h cells is all =
    let start = headed h in
    let body = flat_map structure cells in
    let rs = followed_by_all start body in
    let s = cells_more h [] cells start all (first_between h is) in
    let pass : fault_of rs (bare ENDLIB) ≡ None = passes_next rs (bare ENDLIB) (shut_finished rs ENDLIB s.shut) (goes_on rs ENDLIB between s.left refl) refl (shut_passes ENDLIB (opened rs) [] 0 0 s.shut refl) in
    let same : followed_by_all NoRecords (stream h cells) ≡ rs ▸ bare ENDLIB = followed-append start body (bare ENDLIB ∷ []) in
    let bytes : library_bytes h cells ≡ bytes_of (rs ▸ bare ENDLIB) = sym (bytes_more NoRecords (stream h cells)) ∙ ap (λ (qs : Records). bytes_of qs) same in
    (rs ▸ bare ENDLIB, [], record { whole = bytes ∙ sym (append-nil (bytes_of (rs ▸ bare ENDLIB))); passes = (s.head.passes, bare_record ENDLIB refl, pass) }, refl, means h (map cell_read cells) rs is s)
