-- An array more in an open cell.
use Rattle.std.proofs.Common.{◌≡◌, ℕ, Bool, true, false, cond, List, [], ◌∷◌, ◌++◌, Option, Some, None, refl, sym, ap, subst, ◌∙◌, arith}
use Rattle.std.specs.Prelude.{◌==◌, ◌||◌, ◌&&◌, not}
use Rattle.std.specs.Int.{w16, to_be_bytes}
use Rattle.std.specs.List.{flat_map}
use Rattle.std.proofs.lemmas.List.{append-nil}
use Rattle.geo_base.specs.declared.motion.Turn.{Turn}
use Rattle.geo_base.specs.declared.shapes.Point.{Point}
use Rattle.gds_records.specs.Records.{IsRecord, Records, ◌▸◌, followed_by_all}
use Rattle.gds_records.specs.Kinds.{SREF, AREF, PATH, SNAME, COLROW, XY, ANGLE, ENDEL}
use Rattle.gds_grammar.specs.Pattern.{Pattern, after_any}
use Rattle.gds_grammar.specs.Order.{left_after, is_empty}
use Rattle.gds_elements.specs.Data as read
use Rattle.gds_elements.specs.Meaning.{Shape, Ref, Cell, opened, last_kind, columns_of, rows_of, part, text_part, is_mirrored, quarters, turn_of, motion_of, open_points, open_refs, refs_by}
use Rattle.gds_elements.specs.Bounds.{is_line}
use Rattle.gds_elements.specs.Faults.{content_fault, fault_of}
use Rattle.gds_shapes.specs.Data.{bare, filled, string, point_bytes, IsNamed}
use Rattle.gds_shapes.specs.References.{IsCount, start, column_end, row_end, points, counts, turning, FitsReference}
use Rattle.gds_shapes.specs.References as r
use Rattle.gds_shapes.specs.Stream.{Heading, Drawn}
use Rattle.gds_shapes.proofs.Bodies.{number_bytes, joined}
use Rattle.gds_shapes.proofs.Context.{inside, InCell, passes_next, no_line, shut_finished, goes_on, shut_passes, bare_record, head_more, body_more, head_end, body_end, followed-append}
use Rattle.gds_shapes.proofs.Turnings.{Named, IsTurnPlace, turning_more, any_none}
use Rattle.gds_shapes.proofs.Steps.{multiple, goes, stepped_back, first_side, second_side, columns_back, rows_back, is_counted}
use Rattle.gds_shapes.proofs.Placements.{one_record, named_left, string_record, name_back, name_plain, points_record, same_point, shapes_none, texts_none}

aref_named : (h : Heading) (cells : List Cell) (cell : Drawn) (shapes : List Shape) (refs : List Ref) (rs : Records) (name : List ℕ) → IsNamed name → InCell h cells cell shapes refs rs
    → Named h cells cell shapes refs AREF (named_left AREF) (filled name) (rs ▸ bare AREF ▸ string SNAME name)
aref_named h cells cell shapes refs rs name n s =
    let b = rs ▸ bare AREF in
    let left_b : left_after b ≡ after_any AREF inside = ap (λ (ps : List Pattern). after_any AREF ps) s.left in
    let pass_b : fault_of rs (bare AREF) ≡ None = passes_next rs (bare AREF) (shut_finished rs AREF s.shut) (goes_on rs AREF inside s.left refl) refl (shut_passes AREF (opened rs) [] 0 0 s.shut refl) in
    let pass_n : fault_of b (string SNAME name) ≡ None = passes_next b (string SNAME name) refl (goes_on b SNAME _ left_b refl) (name_plain name n) refl in
    record {
      head = head_more h cells b (string SNAME name) refl (head_more h cells rs (bare AREF) refl s.head (bare_record AREF refl) pass_b) (string_record SNAME name refl n) pass_n;
      body = body_more cell shapes refs b (string SNAME name) refl (body_more cell shapes refs rs (bare AREF) refl s.body);
      opened_is = refl;
      finished = λ k. refl;
      name_is = refl;
      no_strans = refl;
      no_angle = refl;
      left_is = ap (λ (ps : List Pattern). after_any SNAME ps) left_b;
    }

counts_record : (columns rows : ℕ) → IsRecord (counts columns rows)
counts_record columns rows = record { kind = refl; form = omega arith; even = refl; short = omega arith; bytes = joined (to_be_bytes w16 columns) (to_be_bytes w16 rows) (number_bytes columns) (number_bytes rows) }

counted : (a b : Bool) → a ≡ true → b ≡ true → (let none : Option ℕ = None in cond (a && b) none (Some 12)) ≡ None
counted a b e f = rw (e, f) refl

counts_pass : (start : ℕ) (so_far : List Point) (c k columns rows : ℕ) → IsCount columns → IsCount rows → content_fault start so_far c k COLROW (counts columns rows).body ≡ None
counts_pass start so_far c k columns rows f g =
    let some_columns = f.fits in
    let some_rows = g.fits in
    let back = columns_back columns rows (omega (arith, some_columns)) in
    let back_rows = rows_back columns rows (omega (arith, some_rows)) in
    counted _ _ (ap (λ (n : ℕ). read.is_count n) back ∙ is_counted columns f) (ap (λ (n : ℕ). read.is_count n) back_rows ∙ is_counted rows g)

divides : (a b : Bool) → a ≡ true → b ≡ true → (let none : Option ℕ = None in cond (not (a && b)) (Some 12) none) ≡ None
divides a b e f = rw (e, f) refl

-- the three points of an array pass
abbrev three : Ref → List ℕ
three r = flat_map point_bytes (start r ∷ column_end r ∷ row_end r ∷ [])

points_pass : (so_far : List Point) (f : Ref) → FitsReference f → content_fault AREF so_far f.columns f.rows XY (three f) ≡ None
points_pass so_far f fits =
    divides _ _ (ap (λ (p : Point). read.goes_into f.columns p) (first_side (start f) (row_end f) f.columns f.column_step fits.long.start fits.long.column_end) ∙ goes f.columns f.column_step fits.columns.some)
    (ap (λ (p : Point). read.goes_into f.rows p) (second_side (start f) (column_end f) f.rows f.row_step fits.long.start fits.long.row_end) ∙ goes f.rows f.row_step fits.rows.some)

by_parts : (start : ℕ) (name : List ℕ) (turn : Turn) (at : Point) (columns rows : ℕ) (a b : Point) (f : Ref) → start ≡ AREF → name ≡ f.cell → read.is_empty f.cell ≡ false → turn ≡ f.motion.turn
    → (let p : Point = record { x = f.motion.dx; y = f.motion.dy } in at ≡ p) → columns ≡ f.columns → rows ≡ f.rows → a ≡ multiple f.columns f.column_step → b ≡ multiple f.rows f.row_step
    → read.step (multiple f.columns f.column_step) f.columns ≡ f.column_step → read.step (multiple f.rows f.row_step) f.rows ≡ f.row_step
    → refs_by start name (motion_of turn at) columns rows a b ≡ f ∷ []
by_parts start name turn at columns rows a b f e1 e2 e3 e4 e5 e6 e7 e8 e9 e10 e11 = rw (e1, e2, e3, e4, e5, e6, e7, e8, e9, e10, e11) refl

pub array_more : (h : Heading) (cells : List Cell) (cell : Drawn) (shapes : List Shape) (refs : List Ref) (rs : Records) (f : Ref) → FitsReference f → InCell h cells cell shapes refs rs
    → InCell h cells cell shapes (refs ++ f ∷ []) (followed_by_all rs (r.array f))
array_more h cells cell shapes refs rs f fits s =
    let n = aref_named h cells cell shapes refs rs f.cell fits.cell s in
    let rs_n = rs ▸ bare AREF ▸ string SNAME f.cell in
    let left_c = after_any COLROW (named_left AREF) in
    let left_x = after_any XY left_c in
    let place : IsTurnPlace (named_left AREF) left_c COLROW = record { strans = refl; angle = refl; none = refl; one = refl; both = refl } in
    let t = turning_more h cells cell shapes refs AREF COLROW (named_left AREF) left_c (filled f.cell) rs_n f.motion.turn place n in
    let rs_t = followed_by_all rs_n (turning f.motion.turn) in
    let colrow = counts f.columns f.rows in
    let rs_c = rs_t ▸ colrow in
    let next_c : not (is_empty (after_any COLROW (left_after rs_t))) ≡ true = ap (λ (ps : List Pattern). not (is_empty ps)) t.left_is in
    let pass_c : fault_of rs_t colrow ≡ None = passes_next rs_t colrow (no_line (opened rs_t) AREF (last_kind rs_t) (open_points rs_t) refl t.opened_is COLROW) next_c refl (counts_pass (opened rs_t) (open_points rs_t) (columns_of rs_t) (rows_of rs_t) f.columns f.rows fits.columns fits.rows) in
    let head_c = head_more h cells rs_t colrow refl t.head (counts_record f.columns f.rows) pass_c in
    let body_c = body_more cell shapes refs rs_t colrow refl t.body in
    let some_columns = fits.columns.fits in
    let some_rows = fits.rows.fits in
    let columns_c : columns_of rs_c ≡ f.columns = columns_back f.columns f.rows (omega (arith, some_columns)) in
    let rows_c : rows_of rs_c ≡ f.rows = rows_back f.columns f.rows (omega (arith, some_rows)) in
    let opened_c : opened rs_c ≡ AREF = t.opened_is in
    let xy = points (start f ∷ column_end f ∷ row_end f ∷ []) in
    let rs_x = rs_c ▸ xy in
    let next_x : not (is_empty (after_any XY (left_after rs_c))) ≡ true = ap (λ (ps : List Pattern). not (is_empty (after_any XY ps))) t.left_is in
    let content : content_fault (opened rs_c) (open_points rs_c) (columns_of rs_c) (rows_of rs_c) XY (three f) ≡ None =
    ap (λ (k : ℕ). content_fault k (open_points rs_c) (columns_of rs_c) (rows_of rs_c) XY (three f)) opened_c ∙ ap (λ (k : ℕ). content_fault AREF (open_points rs_c) k (rows_of rs_c) XY (three f)) columns_c
    ∙ ap (λ (k : ℕ). content_fault AREF (open_points rs_c) f.columns k XY (three f)) rows_c ∙ points_pass (open_points rs_c) f fits in
    let pass_x : fault_of rs_c xy ≡ None = passes_next rs_c xy refl next_x refl content in
    let head_x = head_more h cells rs_c xy refl head_c (points_record (start f ∷ column_end f ∷ row_end f ∷ []) refl (omega arith)) pass_x in
    let body_x = body_more cell shapes refs rs_c xy refl body_c in
    let left_xs : left_after rs_x ≡ left_x = ap (λ (ps : List Pattern). after_any XY ps) t.left_is in
    let pass_e : fault_of rs_x (bare ENDEL) ≡ None = passes_next rs_x (bare ENDEL) (no_line (opened rs_x) AREF XY (open_points rs_x) refl t.opened_is ENDEL) (goes_on rs_x ENDEL left_x left_xs refl) refl (any_none (opened rs_x == PATH) (opened rs_x == SREF || opened rs_x == AREF)) in
    let opened_x : opened rs_x ≡ AREF = t.opened_is in
    let one : open_refs rs_x ≡ f ∷ [] =
    by_parts (opened rs_x) (read.trimmed (text_part rs_x)) (turn_of (is_mirrored rs_x) (quarters (part ANGLE rs_x))) (read.first_of (open_points rs_x)) (columns_of rs_x) (rows_of rs_x) (read.side (part XY rs_x) 8) (read.side (part XY rs_x) 16) f
    opened_x (ap (λ (text : List ℕ). read.trimmed text) t.name_is ∙ name_back f.cell fits.cell) fits.cell.named t.turn_is (ap (λ (ps : List Point). read.first_of ps) (one_record (opened rs_c) (open_points rs_c) (read.points_of (three f)) (ap (λ (k : ℕ). is_line k) opened_c)) ∙ same_point (start f) fits.long.start) columns_c rows_c
    (first_side (start f) (row_end f) f.columns f.column_step fits.long.start fits.long.column_end) (second_side (start f) (column_end f) f.rows f.row_step fits.long.start fits.long.row_end)
    (stepped_back f.columns f.column_step fits.columns.some) (stepped_back f.rows f.row_step fits.rows.some) in
    let whole : followed_by_all rs (r.array f) ≡ rs_x ▸ bare ENDEL = followed-append rs_n (turning f.motion.turn) (colrow ∷ xy ∷ bare ENDEL ∷ []) in
    let P : List Shape → Type 0 = λ xs. InCell h cells cell xs (refs ++ f ∷ []) (rs_x ▸ bare ENDEL) in
    let Q : Records → Type 0 = λ qs. InCell h cells cell shapes (refs ++ f ∷ []) qs in
    subst Q (sym whole) (subst P (append-nil shapes) record {
      left = ap (λ (ps : List Pattern). after_any ENDEL ps) left_xs;
      shut = refl;
      head = head_end h cells rs_x head_x pass_e;
      body = body_end cell shapes refs rs_x [] (f ∷ []) body_x (shapes_none AREF rs_x opened_x refl refl refl) (texts_none AREF rs_x opened_x refl) one;
    })
