-- A single placement more in an open cell.
use Rattle.std.proofs.Common.{◌≡◌, ℕ, ◌+◌, ◌%◌, ◌^◌, ◌<◌, Bool, true, false, cond, List, [], ◌∷◌, ◌++◌, length, None, refl, sym, ap, subst, ◌∙◌, arith, ℤ}
use Rattle.std.specs.Prelude.{◌==◌, ◌||◌, not, IsTrue}
use Rattle.std.specs.List.{flat_map}
use Rattle.std.proofs.lemmas.List.{append-nil}
use Rattle.geo_base.specs.Near.{IsLongPoint}
use Rattle.geo_base.specs.declared.layer.LayerKey.{LayerKey}
use Rattle.geo_base.specs.declared.motion.Motion.{Motion}
use Rattle.geo_base.specs.declared.motion.Turn.{Turn}
use Rattle.geo_base.specs.declared.shapes.Point.{Point}
use Rattle.gds_records.specs.Records.{IsRecord, is_listed, Records, ◌▸◌, followed_by_all}
use Rattle.gds_records.specs.Kinds.{SREF, AREF, TEXT, BOUNDARY, PATH, BOX, SNAME, XY, ANGLE, ENDEL, PATHTYPE, WIDTH, BGNEXTN, ENDEXTN}
use Rattle.gds_grammar.specs.Pattern.{Pattern, after_any}
use Rattle.gds_grammar.specs.Order.{left_after, is_empty}
use Rattle.gds_elements.specs.Data as read
use Rattle.gds_elements.specs.Meaning.{gathered, Shape, Ref, Cell, opened, last_kind, columns_of, rows_of, part, text_part, key_of, is_mirrored, quarters, turn_of, motion_of, single, open_points, open_shapes, open_texts, open_refs, shapes_by, texts_by, refs_by}
use Rattle.gds_elements.specs.Faults.{content_fault, fault_of, is_unfinished}
use Rattle.gds_elements.specs.Bounds.{is_line}
use Rattle.gds_shapes.specs.Data.{bare, filled, string, long_bytes, point_bytes, IsNamed}
use Rattle.gds_shapes.specs.References.{start, points, placement, turning, FitsReference}
use Rattle.gds_shapes.specs.Stream.{Heading, Drawn}
use Rattle.gds_shapes.proofs.Bodies.{string_filled, points_fit, same_long}
use Rattle.gds_shapes.proofs.Context.{inside, InCell, passes_next, no_line, shut_finished, goes_on, shut_passes, bare_record, head_more, body_more, head_end, body_end, followed-append}
use Rattle.gds_shapes.proofs.Turnings.{Named, IsTurnPlace, turning_more, any_none}

pub string_record : (kind : ℕ) (text : List ℕ) → IsTrue (is_listed kind) → IsNamed text → IsRecord (string kind text)
string_record kind text h n =
    let f = string_filled text n.text.short n.text.bytes in
    record { kind = h; form = omega arith; even = f.even; short = f.short; bytes = f.bytes }

pub name_back : (name : List ℕ) → IsNamed name → read.trimmed (filled name) ≡ name
name_back name n = let f = string_filled name n.text.short n.text.bytes in f.same ∙ n.text.trimmed

-- a name passes
pub name_plain : (name : List ℕ) → IsNamed name → not (read.is_empty (read.trimmed (filled name))) ≡ true
name_plain name n = ap (λ (text : List ℕ). not (read.is_empty text)) (name_back name n) ∙ ap not n.named

-- ---- the beginning of a reference

-- what the grammar leaves behind a reference's name
abbrev pub named_left : ℕ → List Pattern
named_left kind = after_any SNAME (after_any kind inside)

sref_named : (h : Heading) (cells : List Cell) (cell : Drawn) (shapes : List Shape) (refs : List Ref) (rs : Records) (name : List ℕ) → IsNamed name → InCell h cells cell shapes refs rs
    → Named h cells cell shapes refs SREF (named_left SREF) (filled name) (rs ▸ bare SREF ▸ string SNAME name)
sref_named h cells cell shapes refs rs name n s =
    let b = rs ▸ bare SREF in
    let left_b : left_after b ≡ after_any SREF inside = ap (λ (ps : List Pattern). after_any SREF ps) s.left in
    let pass_b : fault_of rs (bare SREF) ≡ None = passes_next rs (bare SREF) (shut_finished rs SREF s.shut) (goes_on rs SREF inside s.left refl) refl (shut_passes SREF (opened rs) [] 0 0 s.shut refl) in
    let pass_n : fault_of b (string SNAME name) ≡ None = passes_next b (string SNAME name) refl (goes_on b SNAME _ left_b refl) (name_plain name n) refl in
    record {
      head = head_more h cells b (string SNAME name) refl (head_more h cells rs (bare SREF) refl s.head (bare_record SREF refl) pass_b) (string_record SNAME name refl n) pass_n;
      body = body_more cell shapes refs b (string SNAME name) refl (body_more cell shapes refs rs (bare SREF) refl s.body);
      opened_is = refl;
      finished = λ k. refl;
      name_is = refl;
      no_strans = refl;
      no_angle = refl;
      left_is = ap (λ (ps : List Pattern). after_any SNAME ps) left_b;
    }

-- ---- a single placement

pub points_record : (ps : List Point) → length (flat_map point_bytes ps) % 2 ≡ 0 → length (flat_map point_bytes ps) + 4 < 2 ^ 16 → IsRecord (points ps)
points_record ps e s = record { kind = refl; form = omega arith; even = e; short = s; bytes = points_fit ps }

pub same_point : (p : Point) → IsLongPoint p → (let q : Point = record { x = read.coordinate (long_bytes p.x) 0; y = read.coordinate (long_bytes p.y) 0 } in q) ≡ p
same_point p l = rw (same_long p.x l.x, same_long p.y l.y) refl

-- the points of an element that is no line are those of its record
pub one_record : (start : ℕ) (so_far points : List Point) → is_line start ≡ false → gathered start so_far points ≡ points
one_record start so_far points e = ap (λ (b : Bool). cond b (so_far ++ points) points) e

no_shape : (start : ℕ) (key : LayerKey) (path_type : ℕ) (width begin end : ℤ) (ps : List Point) → (start == BOUNDARY) ≡ false → (start == PATH) ≡ false → (start == BOX) ≡ false → shapes_by start key path_type width begin end ps ≡ []
no_shape start key path_type width begin end ps e f g = rw (e, f, g) refl

no_text : (start : ℕ) (key : LayerKey) (at : Point) (text : List ℕ) → (start == TEXT) ≡ false → texts_by start key at text ≡ []
no_text start key at text e = rw e refl

-- a reference is no shape and no text
pub shapes_none : (start : ℕ) (rs : Records) → opened rs ≡ start → (start == BOUNDARY) ≡ false → (start == PATH) ≡ false → (start == BOX) ≡ false → open_shapes rs ≡ []
shapes_none start rs e f g i =
    ap (λ (k : ℕ). shapes_by k (key_of rs) (read.number (part PATHTYPE rs)) (read.long (part WIDTH rs)) (read.long (part BGNEXTN rs)) (read.long (part ENDEXTN rs)) (open_points rs)) e
    ∙ no_shape start (key_of rs) (read.number (part PATHTYPE rs)) (read.long (part WIDTH rs)) (read.long (part BGNEXTN rs)) (read.long (part ENDEXTN rs)) (open_points rs) f g i

pub texts_none : (start : ℕ) (rs : Records) → opened rs ≡ start → (start == TEXT) ≡ false → open_texts rs ≡ []
texts_none start rs e f = ap (λ (k : ℕ). texts_by k (key_of rs) (read.first_of (open_points rs)) (read.trimmed (text_part rs))) e ∙ no_text start (key_of rs) (read.first_of (open_points rs)) (read.trimmed (text_part rs)) f

single_by : (start : ℕ) (name n : List ℕ) (turn : Turn) (at : Point) (columns rows : ℕ) (a b : Point) (motion : Motion) → start ≡ SREF → name ≡ n → read.is_empty n ≡ false → turn ≡ motion.turn
    → (let p : Point = record { x = motion.dx; y = motion.dy } in at ≡ p) → refs_by start name (motion_of turn at) columns rows a b ≡ single n motion ∷ []
single_by start name n turn at columns rows a b motion e f g i j = rw (e, f, g, i, j) refl

pub placement_more : (h : Heading) (cells : List Cell) (cell : Drawn) (shapes : List Shape) (refs : List Ref) (rs : Records) (r : Ref) → FitsReference r → InCell h cells cell shapes refs rs
    → InCell h cells cell shapes (refs ++ single r.cell r.motion ∷ []) (followed_by_all rs (placement r))
placement_more h cells cell shapes refs rs r fits s =
    let n = sref_named h cells cell shapes refs rs r.cell fits.cell s in
    let rs_n = rs ▸ bare SREF ▸ string SNAME r.cell in
    let place : IsTurnPlace (named_left SREF) (after_any XY (named_left SREF)) XY = record { strans = refl; angle = refl; none = refl; one = refl; both = refl } in
    let t = turning_more h cells cell shapes refs SREF XY (named_left SREF) (after_any XY (named_left SREF)) (filled r.cell) rs_n r.motion.turn place n in
    let rs_t = followed_by_all rs_n (turning r.motion.turn) in
    let body = flat_map point_bytes (start r ∷ []) in
    let xy = points (start r ∷ []) in
    let rs_x = rs_t ▸ xy in
    let second : is_unfinished (opened rs_t) (last_kind rs_t) (open_points rs_t) XY ≡ false = no_line (opened rs_t) SREF (last_kind rs_t) (open_points rs_t) refl t.opened_is XY in
    let next : not (is_empty (after_any XY (left_after rs_t))) ≡ true = ap (λ (ps : List Pattern). not (is_empty ps)) t.left_is in
    let content : content_fault (opened rs_t) (open_points rs_t) (columns_of rs_t) (rows_of rs_t) XY body ≡ None = ap (λ (k : ℕ). content_fault k (open_points rs_t) (columns_of rs_t) (rows_of rs_t) XY body) t.opened_is in
    let pass_x : fault_of rs_t xy ≡ None = passes_next rs_t xy second next refl content in
    let head_x = head_more h cells rs_t xy refl t.head (points_record (start r ∷ []) refl (omega arith)) pass_x in
    let body_x = body_more cell shapes refs rs_t xy refl t.body in
    let pass_e : fault_of rs_x (bare ENDEL) ≡ None = passes_next rs_x (bare ENDEL) (no_line (opened rs_x) SREF XY (open_points rs_x) refl t.opened_is ENDEL) (goes_on rs_x ENDEL (after_any XY (named_left SREF)) t.left_is refl) refl (any_none (opened rs_x == PATH) (opened rs_x == SREF || opened rs_x == AREF)) in
    let opened_x : opened rs_x ≡ SREF = t.opened_is in
    let one : open_refs rs_x ≡ single r.cell r.motion ∷ [] =
    single_by (opened rs_x) (read.trimmed (text_part rs_x)) r.cell (turn_of (is_mirrored rs_x) (quarters (part ANGLE rs_x))) (read.first_of (open_points rs_x)) (columns_of rs_x) (rows_of rs_x) (read.side (part XY rs_x) 8) (read.side (part XY rs_x) 16) r.motion opened_x (ap (λ (text : List ℕ). read.trimmed text) t.name_is ∙ name_back r.cell fits.cell) fits.cell.named t.turn_is (ap (λ (ps : List Point). read.first_of ps) (one_record (opened rs_t) (open_points rs_t) (read.points_of body) (ap (λ (k : ℕ). is_line k) t.opened_is)) ∙ same_point (start r) fits.long.start) in
    let whole : followed_by_all rs (placement r) ≡ rs_x ▸ bare ENDEL = followed-append rs_n (turning r.motion.turn) (xy ∷ bare ENDEL ∷ []) in
    let P : List Shape → Type 0 = λ xs. InCell h cells cell xs (refs ++ single r.cell r.motion ∷ []) (rs_x ▸ bare ENDEL) in
    let Q : Records → Type 0 = λ qs. InCell h cells cell shapes (refs ++ single r.cell r.motion ∷ []) qs in
    subst Q (sym whole) (subst P (append-nil shapes) record {
      left = ap (λ (ps : List Pattern). after_any ENDEL ps) t.left_is;
      shut = refl;
      head = head_end h cells rs_x head_x pass_e;
      body = body_end cell shapes refs rs_x [] (single r.cell r.motion ∷ []) body_x (shapes_none SREF rs_x opened_x refl refl refl) (texts_none SREF rs_x opened_x refl) one;
    })
