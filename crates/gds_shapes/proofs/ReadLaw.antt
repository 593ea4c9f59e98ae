-- What a library that was read has.
use Rattle.std.proofs.Common.{◌≡◌, ℕ, zero, suc, ◌+◌, ◌<◌, ◌≤◌, Bool, true, false, cond, List, [], ◌∷◌, ◌++◌, length, replicate, Some, None, refl, sym, ap, subst, ◌∙◌, append_assoc, arith, eq-eqb}
use Rattle.std.specs.Prelude.{◌==◌, ◌||◌, take, drop}
use Rattle.std.specs.List.{All, list_any}
use Rattle.std.proofs.lemmas.Bool.{eqb-true, or_right, true≢false}
use Rattle.std.proofs.lemmas.List.Folds.{list_any-append}
use Rattle.std.proofs.lemmas.List.{length-replicate}
use Rattle.std.proofs.lemmas.List.Elements.{All-nil, All-cons, All-append, All-weaker}
use Rattle.gds_records.specs.Records.{Rec, IsBytes, Records, NoRecords, ◌▸◌}
use Rattle.gds_grammar.specs.Pattern.{Pattern, Then, Many, Allows}
use Rattle.gds_grammar.specs.Grammar as g
use Rattle.gds_grammar.specs.Order.{kinds_of, can_go_on, IsEnded}
use Rattle.gds_grammar.proofs.GrammarLaw.{grammar_law}
use Rattle.gds_grammar.proofs.LastRecord.{stops}
use Rattle.gds_records.specs.Kinds.{HEADER, BGNLIB, LIBNAME, UNITS, BGNSTR, STRNAME, ENDSTR}
use Rattle.gds_elements.specs.Data.{exactly, is_empty, trimmed, put_before, has_unit, real_in}
use Rattle.fixed_num.specs.Real.{is_unit}
use Rattle.gds_elements.specs.Meaning.{Shape, Text, Ref, Cell, Library, opened, open_points, columns_of, rows_of, found, head_part, is_cell_bound, cell_part, shapes_of, texts_of, refs_of, cells_of, cell_by, open_cells, library_of}
use Rattle.gds_elements.specs.Faults.{content_fault, fault_of, Passes}
use Rattle.gds_elements.proofs.Passing.{passed}
use Rattle.gds_shapes.specs.Data.{IsShort, IsData, IsText}
use Rattle.gds_shapes.specs.Stream.{heading_of}
use Rattle.gds_shapes.specs.Accepted.{IsHeading, IsRead, ReadHeadingLaw, ReadLaw}

-- ---- data

zeros : (n : ℕ) → IsBytes (replicate n 0)
zeros zero i = omega arith
zeros (suc n) zero = omega arith
zeros (suc n) (suc i) = zeros n i

exactly_data : (n : ℕ) (bytes : List ℕ) → IsBytes bytes → IsData n (exactly n bytes)
exactly_data n bytes h = by_test (length bytes == n) refl
  where
    by_test : (b : Bool) → (length bytes == n) ≡ b → IsData n (cond b bytes (replicate n 0))
    by_test true e = record { whole = eqb-true _ _ e; bytes = h }
    by_test false e = record { whole = length-replicate n 0; bytes = zeros n }

put_bytes : (b : ℕ) (bytes : List ℕ) → b < 256 → IsBytes bytes → IsBytes (put_before b bytes)
put_bytes zero [] h g i = omega arith
put_bytes (suc b) [] h g zero = h
put_bytes (suc b) [] h g (suc i) = omega arith
put_bytes zero (c ∷ bytes) h g zero = h
put_bytes zero (c ∷ bytes) h g (suc i) = g i
put_bytes (suc b) (c ∷ bytes) h g zero = h
put_bytes (suc b) (c ∷ bytes) h g (suc i) = g i

put_again : (b : ℕ) (bytes : List ℕ) → trimmed bytes ≡ bytes → trimmed (put_before b bytes) ≡ put_before b bytes
put_again zero [] e = refl
put_again (suc b) [] e = refl
put_again zero (c ∷ bytes) e = ap (λ (cs : List ℕ). put_before zero cs) e
put_again (suc b) (c ∷ bytes) e = ap (λ (cs : List ℕ). put_before (suc b) cs) e

put_short : (b n : ℕ) (bytes : List ℕ) → length bytes ≤ n → length (put_before b bytes) ≤ n + 1
put_short zero n [] h = omega arith
put_short (suc b) n [] h = omega arith
put_short zero n (c ∷ bytes) h = omega (arith, h)
put_short (suc b) n (c ∷ bytes) h = omega (arith, h)

trimmed_short : (bytes : List ℕ) → length (trimmed bytes) ≤ length bytes
trimmed_short [] = omega arith
trimmed_short (b ∷ bytes) = let h = put_short b (length bytes) (trimmed bytes) (trimmed_short bytes) in omega (arith, h)

trimmed_bytes : (bytes : List ℕ) → IsBytes bytes → IsBytes (trimmed bytes)
trimmed_bytes [] h = h
trimmed_bytes (b ∷ bytes) h = put_bytes b (trimmed bytes) (h zero) (trimmed_bytes bytes (λ i. h (suc i)))

trimmed_again : (bytes : List ℕ) → trimmed (trimmed bytes) ≡ trimmed bytes
trimmed_again [] = refl
trimmed_again (b ∷ bytes) = put_again b (trimmed bytes) (trimmed_again bytes)

pub trimmed_text : (bytes : List ℕ) → IsBytes bytes → IsShort bytes → IsText (trimmed bytes)
trimmed_text bytes h s = let t = trimmed_short bytes in record { bytes = trimmed_bytes bytes h; short = omega (arith, t, s); trimmed = trimmed_again bytes }

pick : (a b : Bool) (xs ys : List ℕ) → IsBytes xs → IsBytes ys → IsBytes (cond a xs (cond b [] ys))
pick true b xs ys h g = h
pick false true xs ys h g = λ i. omega arith
pick false false xs ys h g = g

pub found_bytes : (wanted bound : ℕ → Bool) (rs : Records) → Passes rs → IsBytes (found wanted bound rs)
found_bytes wanted bound NoRecords p = λ i. omega arith
found_bytes wanted bound (before ▸ r) p = pick (wanted r.kind) (bound r.kind) r.body (found wanted bound before) p.1.bytes (found_bytes wanted bound before p.0)

pick_short : (a b : Bool) (xs ys : List ℕ) → IsShort xs → IsShort ys → IsShort (cond a xs (cond b [] ys))
pick_short true b xs ys h g = h
pick_short false true xs ys h g = omega arith
pick_short false false xs ys h g = g

pub found_short : (wanted bound : ℕ → Bool) (rs : Records) → Passes rs → IsShort (found wanted bound rs)
found_short wanted bound NoRecords p = omega arith
found_short wanted bound (before ▸ r) p =
    let short = p.1.short in
    let even = p.1.even in
    pick_short (wanted r.kind) (bound r.kind) r.body (found wanted bound before) (omega (arith, short, even)) (found_short wanted bound before p.0)

head_bytes : (kind : ℕ) (rs : Records) → Passes rs → IsBytes (head_part kind rs)
head_bytes kind rs p = found_bytes (λ k. k == kind) (λ k. false) rs p

cell_bytes : (kind : ℕ) (rs : Records) → Passes rs → IsBytes (cell_part kind rs)
cell_bytes kind rs p = found_bytes (λ k. k == kind) is_cell_bound rs p

library_name : (rs : Records) → Passes rs → IsText (trimmed (head_part LIBNAME rs))
library_name rs p = trimmed_text (head_part LIBNAME rs) (head_bytes LIBNAME rs p) (found_short (λ k. k == LIBNAME) (λ k. false) rs p)

cell_name : (rs : Records) → Passes rs → IsText (trimmed (cell_part STRNAME rs))
cell_name rs p = trimmed_text (cell_part STRNAME rs) (cell_bytes STRNAME rs p) (found_short (λ k. k == STRNAME) is_cell_bound rs p)

-- ---- the unit: a library has UNITS, which pass

abbrev has_units : List ℕ → Bool
has_units ks = list_any (λ k. k == 0x03) ks

behind : (a b : Pattern) (ks : List ℕ) → Allows (Then a b) ks → ((ys : List ℕ) → Allows b ys → has_units ys ≡ true) → has_units ks ≡ true
behind a b ks h g = ap (λ (zs : List ℕ). has_units zs) h.2 ∙ list_any-append (λ (k : ℕ). k == 0x03) h.0 h.1 ∙ or_right _ _ (g h.1 h.4)

at_front : (b : Pattern) (ks : List ℕ) → (xs : List ℕ) × (ys : List ℕ) × (ks ≡ xs ++ ys) × (xs ≡ 0x03 ∷ []) × Allows b ys → has_units ks ≡ true
at_front b ks h = ap (λ (zs : List ℕ). has_units zs) h.2 ∙ ap (λ (zs : List ℕ). has_units (zs ++ h.1)) h.3

abbrev from_units : Pattern
from_units = Then g.UNITS (Then (Many g.structure) g.ENDLIB)

abbrev from_name : Pattern
from_name = Then g.LIBNAME (Then (Many g.option) from_units)

abbrev from_start : Pattern
from_start = Then g.BGNLIB (Then (Many g.option) from_name)

library_units : (ks : List ℕ) → Allows g.library ks → has_units ks ≡ true
library_units ks h =
    behind g.HEADER from_start ks h (λ xs a. behind g.BGNLIB (Then (Many g.option) from_name) xs a (λ ys b. behind (Many g.option) from_name ys b
    (λ zs c. behind g.LIBNAME (Then (Many g.option) from_units) zs c (λ us d. behind (Many g.option) from_units us d (λ vs e. at_front (Then (Many g.structure) g.ENDLIB) vs e)))))

ended_units : (rs : Records) → Passes rs → IsEnded rs → has_units (kinds_of rs) ≡ true
ended_units NoRecords p e = absurd cc
ended_units (before ▸ r) p e =
    let on : can_go_on before r.kind ≡ true = (passed before r p.2).in_order in
    let u = (grammar_law before r.kind).0 on in
    by_rest u.0 u.1
  where
    by_rest : (rest : List ℕ) → Allows g.library (kinds_of before ++ r.kind ∷ rest) → has_units (kinds_of (before ▸ r)) ≡ true
    by_rest [] h = library_units (kinds_of (before ▸ r)) h
    by_rest (k ∷ ks) h =
        let whole : kinds_of before ++ r.kind ∷ k ∷ ks ≡ kinds_of (before ▸ r) ++ k ∷ ks = sym (append_assoc (kinds_of before) (r.kind ∷ []) (k ∷ ks)) in
        let on : can_go_on (before ▸ r) k ≡ true = (grammar_law (before ▸ r) k).1 (ks, subst (λ (zs : List ℕ). Allows g.library zs) whole h) in
        absurd (true≢false (sym on ∙ stops (before ▸ r) k e))

pub unit_tested : (u : Bool) (n : ℕ) → cond u None (Some n) ≡ None → u ≡ true
unit_tested true n e = refl
unit_tested false n e = absurd cc

or_left : (a b : Bool) → b ≡ false → (a || b) ≡ true → a ≡ true
or_left true b e h = refl
or_left false b e h = absurd (true≢false (sym h ∙ e))

unit_more : (before : Records) (r : Rec) → fault_of before r ≡ None → (has_units (kinds_of before) ≡ true → has_unit ((head_part UNITS before)) ≡ true)
    → has_units (kinds_of (before ▸ r)) ≡ true → has_unit ((head_part UNITS (before ▸ r))) ≡ true
unit_more before r p so_far h = by_test (r.kind == 0x03) refl
  where
    by_test : (b : Bool) → (r.kind == 0x03) ≡ b → has_unit ((cond b r.body (head_part UNITS before))) ≡ true
    by_test true e =
        let content = (passed before r p).sound in
        let kind : r.kind ≡ 0x03 = eqb-true _ _ e in
        unit_tested (has_unit (r.body)) 13 (subst (λ (k : ℕ). content_fault (opened before) (open_points before) (columns_of before) (rows_of before) k r.body ≡ None) kind content)
    by_test false e =
        let parts = sym (list_any-append (λ (k : ℕ). k == 0x03) (kinds_of before) (r.kind ∷ [])) ∙ h in
        so_far (or_left (has_units (kinds_of before)) _ (ap (λ (b : Bool). b || false) e) parts)

unit_read : (rs : Records) → Passes rs → has_units (kinds_of rs) ≡ true → has_unit ((head_part UNITS rs)) ≡ true
unit_read NoRecords p h = absurd cc
unit_read (before ▸ r) p h = unit_more before r p.2 (unit_read before p.0) h

exactly_again : (n : ℕ) (bytes : List ℕ) → length bytes ≡ n → exactly n bytes ≡ bytes
exactly_again n bytes h = ap (λ (b : Bool). cond b bytes (replicate n 0)) (eq-eqb _ _ h)

-- ---- cells

pub record IsCell (cell : Cell) : Type 0 where
  pub dates : IsData 24 cell.dates
  pub name : IsText cell.name
  pub named : is_empty cell.name ≡ false

cell_read : (dates name : List ℕ) (shapes : List Shape) (texts : List Text) (refs : List Ref) → IsData 24 dates → IsText name → All IsCell (cell_by dates name shapes texts refs)
cell_read dates name shapes texts refs d n = by_test (is_empty name) refl
  where
    by_test : (b : Bool) → is_empty name ≡ b → (let one : Cell = record { dates = dates; name = name; shapes = shapes; texts = texts; refs = refs } in All IsCell (cond b [] (one ∷ [])))
    by_test true e = All-nil IsCell
    by_test false e = All-cons IsCell _ [] record { dates = d; name = n; named = e } (All-nil IsCell)

either : (b : Bool) (xs ys : List Cell) → All IsCell xs → All IsCell ys → All IsCell (cond b xs ys)
either true xs ys h g = h
either false xs ys h g = g

cells_read : (rs : Records) → Passes rs → All IsCell (cells_of rs)
cells_read NoRecords p = All-nil IsCell
cells_read (before ▸ r) p =
    let all = cells_read before p.0 in
    let one = cell_read _ _ (shapes_of before) (texts_of before) (refs_of before) (exactly_data 24 (cell_part BGNSTR before) (cell_bytes BGNSTR before p.0)) (cell_name before p.0) in
    either (r.kind == ENDSTR) (cells_of before ++ open_cells before) (cells_of before) (All-append IsCell (cells_of before) (open_cells before) all one) all

heading_read : (rs : Records) → Passes rs → IsEnded rs → IsHeading (heading_of (library_of rs))
heading_read rs p e =
    let units = exactly_data 16 (head_part UNITS rs) (head_bytes UNITS rs p) in
    let unit : has_unit ((exactly 16 (head_part UNITS rs))) ≡ true =
    ap (λ (bytes : List ℕ). is_unit (real_in (take 8 (drop 8 bytes)))) (exactly_again 16 (exactly 16 (head_part UNITS rs)) units.whole) ∙ unit_read rs p (ended_units rs p e) in
    record {
      version = exactly_data 2 (head_part HEADER rs) (head_bytes HEADER rs p);
      dates = exactly_data 24 (head_part BGNLIB rs) (head_bytes BGNLIB rs p);
      name = library_name rs p;
      units = units;
      unit = unit;
    }

whole_read : (rs : Records) → Passes rs → IsEnded rs → All (λ cell. IsRead (library_of rs) cell) (cells_of rs)
whole_read rs p e =
    let heading = heading_read rs p e in
    All-weaker IsCell (λ (cell : Cell). IsRead (library_of rs) cell)
    (λ cell c. record { heading = heading; cell_dates = c.dates; cell_name = record { text = c.name; named = c.named } }) (cells_of rs) (cells_read rs p)

pub heading_law : ReadHeadingLaw
heading_law bytes value h =
    let P : Library → Type 0 = λ v. IsHeading (heading_of v) in
    subst P h.4 (heading_read h.0 h.2.passes h.3)

pub law : ReadLaw
law bytes value h =
    let P : Library → Type 0 = λ v. All (λ cell. IsRead v cell) v.cells in
    subst P h.4 (whole_read h.0 h.2.passes h.3)
