-- What stands behind records: the library's heading and cells so far, and the open cell's content.
use Rattle.std.proofs.Common.{◌≡◌, ℕ, Bool, true, false, cond, List, [], ◌∷◌, ◌++◌, None, refl, ap, ◌∙◌, arith}
use Rattle.std.proofs.lemmas.Bool.{not-true, or_from}
use Rattle.std.specs.Prelude.{◌==◌, ◌&&◌, not, IsTrue}
use Rattle.std.proofs.lemmas.List.{append-nil}
use Rattle.gds_records.specs.Records.{Rec, IsRecord, is_listed, Records, ◌▸◌, followed_by_all}
use Rattle.gds_grammar.specs.Pattern.{Pattern, after_any}
use Rattle.gds_grammar.specs.Left.{left_of}
use Rattle.gds_grammar.specs.Order.{left_after, is_empty, can_go_on}
use Rattle.gds_grammar.specs.declared.place.Place.TheVariants.{InCell as InCellPlace, Cells}
use Rattle.gds_records.specs.Kinds.{HEADER, BGNLIB, LIBNAME, UNITS, BGNSTR, STRNAME, ENDSTR, ENDEL, XY}
use Rattle.gds_elements.specs.Meaning.{Shape, Ref, Cell, opened, last_kind, open_points, columns_of, rows_of, head_part, cell_part, is_cell_bound, open_shapes, open_texts, open_refs, shapes_of, texts_of, refs_of, cells_of, open_cells}
use Rattle.gds_elements.specs.Faults.{are_complete, is_unfinished, is_plain, content_fault, fault_of, Passes}
use Rattle.gds_elements.proofs.Passing.{passes}
use Rattle.geo_base.specs.declared.shapes.Point.{Point}
use Rattle.gds_shapes.specs.Data.{bare, filled, number}
use Rattle.gds_shapes.specs.Stream.{Heading, Drawn}
use Rattle.gds_shapes.proofs.Bodies.{number_bytes}

-- what the grammar leaves inside a cell, and between cells
abbrev pub inside : List Pattern
inside = left_of InCellPlace ∷ []

abbrev pub between : List Pattern
between = left_of Cells ∷ []

-- the records pass, and begin with the heading; these cells are whole
pub record Head (h : Heading) (cells : List Cell) (rs : Records) : Type 0 where
  pub passes : Passes rs
  pub version : head_part HEADER rs ≡ h.version
  pub dates : head_part BGNLIB rs ≡ h.dates
  pub name : head_part LIBNAME rs ≡ filled h.name
  pub units : head_part UNITS rs ≡ h.units
  pub cells_are : cells_of rs ≡ cells

-- the open cell has these shapes and references, and no texts
pub record Body (cell : Drawn) (shapes : List Shape) (refs : List Ref) (rs : Records) : Type 0 where
  pub dates : cell_part BGNSTR rs ≡ cell.dates
  pub name : cell_part STRNAME rs ≡ filled cell.name
  pub shapes_are : shapes_of rs ≡ shapes
  pub texts : texts_of rs ≡ []
  pub refs_are : refs_of rs ≡ refs

-- between elements of a cell
pub record InCell (h : Heading) (cells : List Cell) (cell : Drawn) (shapes : List Shape) (refs : List Ref) (rs : Records) : Type 0 where
  pub left : left_after rs ≡ inside
  pub shut : opened rs ≡ 0
  pub head : Head h cells rs
  pub body : Body cell shapes refs rs

-- between cells
pub record Between (h : Heading) (cells : List Cell) (rs : Records) : Type 0 where
  pub left : left_after rs ≡ between
  pub shut : opened rs ≡ 0
  pub head : Head h cells rs

-- ---- a record passes

pub passes_next : (before : Records) (r : Rec) → is_unfinished (opened before) (last_kind before) (open_points before) r.kind ≡ false → can_go_on before r.kind ≡ true → is_plain r.kind r.form r.body ≡ true
    → content_fault (opened before) (open_points before) (columns_of before) (rows_of before) r.kind r.body ≡ None → fault_of before r ≡ None
passes_next before r e f g h = passes before r f e g h

-- an element that needs no more points is never unfinished
enough : (a b c : Bool) → c ≡ true → ((a && b) && not c) ≡ false
enough true true c e = rw e refl
enough true false c e = refl
enough false b c e = refl

pub never_unfinished : (start last : ℕ) (points : List Point) (kind : ℕ) → are_complete start points ≡ true → is_unfinished start last points kind ≡ false
never_unfinished start last points kind e = enough (last == XY) (not (kind == XY)) (are_complete start points) e

-- nor is one of another kind than a boundary or a path
pub no_line : (start kind last : ℕ) (points : List Point) → are_complete kind points ≡ true → start ≡ kind → (k : ℕ) → is_unfinished start last points k ≡ false
no_line start kind last points e is k = never_unfinished start last points k (ap (λ (n : ℕ). are_complete n points) is ∙ e)

pub goes_on : (before : Records) (kind : ℕ) (left : List Pattern) → left_after before ≡ left → not (is_empty (after_any kind left)) ≡ true → can_go_on before kind ≡ true
goes_on before kind left e h = ap (λ (ps : List Pattern). not (is_empty (after_any kind ps))) e ∙ h

-- no part of an element that isn't open has a fault
pub shut_passes : (kind start : ℕ) (so_far : List Point) (columns rows : ℕ) → start ≡ 0 → content_fault 0 so_far columns rows kind [] ≡ None → content_fault start so_far columns rows kind [] ≡ None
shut_passes kind start so_far columns rows e h = ap (λ (k : ℕ). content_fault k so_far columns rows kind []) e ∙ h

pub shut_content : (kind start : ℕ) (so_far : List Point) (columns rows : ℕ) (body : List ℕ) → start ≡ 0 → content_fault 0 so_far columns rows kind body ≡ None → content_fault start so_far columns rows kind body ≡ None
shut_content kind start so_far columns rows body e h = ap (λ (k : ℕ). content_fault k so_far columns rows kind body) e ∙ h

pub shut_finished : (rs : Records) (kind : ℕ) → opened rs ≡ 0 → is_unfinished (opened rs) (last_kind rs) (open_points rs) kind ≡ false
shut_finished rs kind e = no_line (opened rs) 0 (last_kind rs) (open_points rs) refl e kind

pub bare_record : (kind : ℕ) → IsTrue (is_listed kind) → IsRecord (bare kind)
bare_record kind h = record { kind = h; form = omega arith; even = refl; short = omega arith; bytes = λ i. omega arith }

pub number_record : (kind n : ℕ) → IsTrue (is_listed kind) → IsRecord (number kind n)
number_record kind n h = record { kind = h; form = omega arith; even = refl; short = omega arith; bytes = number_bytes n }

-- ---- a record more that or_from begins nor ends a cell or an element

abbrev pub is_inner : ℕ → Bool
is_inner kind = not (kind == HEADER) && (not (kind == BGNLIB) && (not (kind == LIBNAME) && (not (kind == UNITS) && (not (kind == BGNSTR) && (not (kind == STRNAME) && (not (kind == ENDSTR) && not (kind == ENDEL)))))))

both : (a b : Bool) → (not a && b) ≡ true → (a ≡ false) × (b ≡ true)
both true b h = absurd cc
both false b h = (refl, h)

pub record IsInner (kind : ℕ) : Type 0 where
  pub header : (kind == HEADER) ≡ false
  pub begin : (kind == BGNLIB) ≡ false
  pub name : (kind == LIBNAME) ≡ false
  pub units : (kind == UNITS) ≡ false
  pub cell_begin : (kind == BGNSTR) ≡ false
  pub cell_name : (kind == STRNAME) ≡ false
  pub cell_end : (kind == ENDSTR) ≡ false
  pub element_end : (kind == ENDEL) ≡ false

inner : (kind : ℕ) → is_inner kind ≡ true → IsInner kind
inner kind h =
    let a = both (kind == HEADER) _ h in
    let b = both (kind == BGNLIB) _ a.1 in
    let c = both (kind == LIBNAME) _ b.1 in
    let d = both (kind == UNITS) _ c.1 in
    let e = both (kind == BGNSTR) _ d.1 in
    let f = both (kind == STRNAME) _ e.1 in
    let g = both (kind == ENDSTR) _ f.1 in
    record { header = a.0; begin = b.0; name = c.0; units = d.0; cell_begin = e.0; cell_name = f.0; cell_end = g.0; element_end = not-true (kind == ENDEL) g.1 }

pub head_more : (h : Heading) (cells : List Cell) (rs : Records) (r : Rec) → is_inner r.kind ≡ true → Head h cells rs → IsRecord r → fault_of rs r ≡ None → Head h cells (rs ▸ r)
head_more h cells rs r inside s is passes =
    let i = inner r.kind inside in
    record {
      passes = (s.passes, is, passes);
      version = ap (λ (b : Bool). cond b r.body (head_part HEADER rs)) i.header ∙ s.version;
      dates = ap (λ (b : Bool). cond b r.body (head_part BGNLIB rs)) i.begin ∙ s.dates;
      name = ap (λ (b : Bool). cond b r.body (head_part LIBNAME rs)) i.name ∙ s.name;
      units = ap (λ (b : Bool). cond b r.body (head_part UNITS rs)) i.units ∙ s.units;
      cells_are = ap (λ (b : Bool). cond b (cells_of rs ++ open_cells rs) (cells_of rs)) i.cell_end ∙ s.cells_are;
    }

passed_by : {X : Type 0} (a b : Bool) (x y z : X) → a ≡ false → b ≡ false → cond a x (cond b y z) ≡ z
passed_by a b x y z e f = rw (e, f) refl

pub body_more : (cell : Drawn) (shapes : List Shape) (refs : List Ref) (rs : Records) (r : Rec) → is_inner r.kind ≡ true → Body cell shapes refs rs → Body cell shapes refs (rs ▸ r)
body_more cell shapes refs rs r inside s =
    let i = inner r.kind inside in
    let bound : is_cell_bound r.kind ≡ false = or_from (r.kind == BGNSTR) (r.kind == ENDSTR) i.cell_begin i.cell_end in
    record {
      dates = passed_by (r.kind == BGNSTR) (is_cell_bound r.kind) r.body [] (cell_part BGNSTR rs) i.cell_begin bound ∙ s.dates;
      name = passed_by (r.kind == STRNAME) (is_cell_bound r.kind) r.body [] (cell_part STRNAME rs) i.cell_name bound ∙ s.name;
      shapes_are = passed_by (is_cell_bound r.kind) (r.kind == ENDEL) [] (shapes_of rs ++ open_shapes rs) (shapes_of rs) bound i.element_end ∙ s.shapes_are;
      texts = passed_by (is_cell_bound r.kind) (r.kind == ENDEL) [] (texts_of rs ++ open_texts rs) (texts_of rs) bound i.element_end ∙ s.texts;
      refs_are = passed_by (is_cell_bound r.kind) (r.kind == ENDEL) [] (refs_of rs ++ open_refs rs) (refs_of rs) bound i.element_end ∙ s.refs_are;
    }

-- the end of an element
pub head_end : (h : Heading) (cells : List Cell) (rs : Records) → Head h cells rs → fault_of rs (bare ENDEL) ≡ None → Head h cells (rs ▸ bare ENDEL)
head_end h cells rs s passes = record { passes = (s.passes, bare_record ENDEL refl, passes); version = s.version; dates = s.dates; name = s.name; units = s.units; cells_are = s.cells_are }

pub body_end : (cell : Drawn) (shapes : List Shape) (refs : List Ref) (rs : Records) (more_shapes : List Shape) (more_refs : List Ref) → Body cell shapes refs rs
    → open_shapes rs ≡ more_shapes → open_texts rs ≡ [] → open_refs rs ≡ more_refs → Body cell (shapes ++ more_shapes) (refs ++ more_refs) (rs ▸ bare ENDEL)
body_end cell shapes refs rs more_shapes more_refs s e f g = record {
  dates = s.dates;
  name = s.name;
  shapes_are = ap (λ (xs : List Shape). xs ++ open_shapes rs) s.shapes_are ∙ ap (λ (xs : List Shape). shapes ++ xs) e;
  texts = ap (λ (xs : List _). texts_of rs ++ xs) f ∙ append-nil (texts_of rs) ∙ s.texts;
  refs_are = ap (λ (xs : List Ref). xs ++ open_refs rs) s.refs_are ∙ ap (λ (xs : List Ref). refs ++ xs) g;
}

pub followed-append : (rs : Records) (xs ys : List Rec) → followed_by_all rs (xs ++ ys) ≡ followed_by_all (followed_by_all rs xs) ys
followed-append rs [] ys = refl
followed-append rs (x ∷ xs) ys = followed-append (rs ▸ x) xs ys
