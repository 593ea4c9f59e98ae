-- An array's columns and rows stand before its end.
use Rattle.std.proofs.Common.{◌≡◌, inl, inr, ℕ, ◌<◌, Bool, true, false, cond, List, [], ◌∷◌, ◌++◌, Some, None, refl, sym, ap, subst, ◌∙◌, arith}
use Rattle.std.specs.Prelude.{◌==◌, ◌&&◌, ◌||◌, not, nat_lt}
use Rattle.std.specs.List.{All, AllByRecursion as ByRecursion}
use Rattle.std.proofs.lemmas.Bool.{eqb-true, and_parts, or_parts}
use Rattle.std.proofs.lemmas.List.Elements.{All-from_recursion}
use Rattle.geo_base.specs.declared.motion.Motion.{Motion}
use Rattle.geo_base.specs.declared.shapes.Point.{Point}
use Rattle.gds_records.specs.Records.{Rec, Records, NoRecords, ◌▸◌}
use Rattle.gds_records.specs.Kinds.{SREF, AREF, COLROW, ENDEL, ENDSTR}
use Rattle.gds_grammar.specs.Pattern.{Pattern, Done, One, Then, Or, Many, Allows, EachOf, joined}
use Rattle.gds_grammar.specs.Grammar as g
use Rattle.gds_grammar.specs.Order.{kinds_of, can_go_on}
use Rattle.gds_grammar.proofs.GrammarLaw.{grammar_law}
use Rattle.gds_elements.specs.Bounds.{is_start, is_bound}
use Rattle.gds_elements.specs.Data.{is_empty, columns_in, rows_in, is_count}
use Rattle.gds_elements.specs.Meaning.{Ref, Cell, Library, opened, open_points, part, columns_of, rows_of, is_cell_bound, single, array, refs_by, open_refs, refs_of, open_cells, cells_of}
use Rattle.gds_elements.specs.Faults.{content_fault, fault_of, Passes}
use Rattle.gds_elements.proofs.Passing.{passed}
use Rattle.gds_elements.specs.Placeable.{HasPlacements, ArePlaceable, PlaceableLaw}

-- ---- texts of the grammar: behind an AREF no element ends before a COLROW

-- whether a COLROW is awaited behind one kind more
abbrev awaits : Bool → ℕ → Bool
awaits w k = cond (k == 0x0B) true (cond (k == 0x13) false w)

abbrev awaits_all : Bool → List ℕ → Bool
awaits_all w [] = w
awaits_all w (k ∷ ks) = awaits_all (awaits w k) ks

-- no element ends while it is awaited
abbrev is_kept : Bool → List ℕ → Bool
is_kept w [] = true
is_kept w (k ∷ ks) = cond (w && k == 0x11) false (is_kept (awaits w k) ks)

pub awaits_append : (w : Bool) (xs ys : List ℕ) → awaits_all w (xs ++ ys) ≡ awaits_all (awaits_all w xs) ys
awaits_append w [] ys = refl
awaits_append w (x ∷ xs) ys = awaits_append (awaits w x) xs ys

unless : (b m n : Bool) → (m ≡ true → n ≡ true) → cond b false m ≡ true → cond b false n ≡ true
unless true m n f e = absurd cc
unless false m n f e = f e

not_ended : (b m : Bool) → cond b false m ≡ true → m ≡ true
not_ended true m e = absurd cc
not_ended false m e = e

kept_append : (w : Bool) (xs ys : List ℕ) → is_kept w xs ≡ true → is_kept (awaits_all w xs) ys ≡ true → is_kept w (xs ++ ys) ≡ true
kept_append w [] ys f h = h
kept_append w (x ∷ xs) ys f h = unless (w && x == 0x11) _ _ (λ e. kept_append (awaits w x) xs ys e h) f

kept_behind : (w : Bool) (xs ys : List ℕ) → is_kept w (xs ++ ys) ≡ true → is_kept (awaits_all w xs) ys ≡ true
kept_behind w [] ys h = h
kept_behind w (x ∷ xs) ys h = kept_behind (awaits w x) xs ys (not_ended (w && x == 0x11) _ h)

-- each text of the pattern is kept, and leads from one to the other
pub record Leads (p : Pattern) (w v : Bool) : Type 0 where
  pub kept : (ks : List ℕ) → Allows p ks → is_kept w ks ≡ true
  pub ends : (ks : List ℕ) → Allows p ks → awaits_all w ks ≡ v

done : (w : Bool) → Leads Done w w
done w = record { kept = λ ks h. ap (is_kept w) h; ends = λ ks h. ap (awaits_all w) h }

one : (k : ℕ) (w v : Bool) → is_kept w (k ∷ []) ≡ true → awaits w k ≡ v → Leads (One k) w v
one k w v f e = record { kept = λ ks h. ap (is_kept w) h ∙ f; ends = λ ks h. ap (awaits_all w) h ∙ e }

behind : (a b : Pattern) (w v u : Bool) → Leads a w v → Leads b v u → Leads (Then a b) w u
behind a b w v u f h = record {
  kept = λ ks t. ap (is_kept w) t.2 ∙ kept_append w t.0 t.1 (f.kept t.0 t.3) (subst (λ (x : Bool). is_kept x t.1 ≡ true) (sym (f.ends t.0 t.3)) (h.kept t.1 t.4));
  ends = λ ks t. ap (awaits_all w) t.2 ∙ awaits_append w t.0 t.1 ∙ ap (λ (x : Bool). awaits_all x t.1) (f.ends t.0 t.3) ∙ h.ends t.1 t.4;
}

either : (a b : Pattern) (w v : Bool) → Leads a w v → Leads b w v → Leads (Or a b) w v
either a b w v f h = record { kept = λ ks t. kept ks t; ends = λ ks t. ends ks t }
  where
    kept : (ks : List ℕ) → Allows (Or a b) ks → is_kept w ks ≡ true
    kept ks (inl t) = f.kept ks t
    kept ks (inr t) = h.kept ks t

    ends : (ks : List ℕ) → Allows (Or a b) ks → awaits_all w ks ≡ v
    ends ks (inl t) = f.ends ks t
    ends ks (inr t) = h.ends ks t

parts_kept : (a : Pattern) (w : Bool) → Leads a w w → (parts : List (List ℕ)) → EachOf (λ xs. Allows a xs) parts → (is_kept w (joined parts) ≡ true) × (awaits_all w (joined parts) ≡ w)
parts_kept a w f [] e = (refl, refl)
parts_kept a w f (xs ∷ parts) e =
    let rest = parts_kept a w f parts e.1 in
    let end = f.ends xs e.0 in (
      kept_append w xs (joined parts) (f.kept xs e.0) (subst (λ (x : Bool). is_kept x (joined parts) ≡ true) (sym end) rest.0),
      awaits_append w xs (joined parts) ∙ ap (λ (x : Bool). awaits_all x (joined parts)) end ∙ rest.1,
    )

many : (a : Pattern) (w : Bool) → Leads a w w → Leads (Many a) w w
many a w f = record {
  kept = λ ks t. ap (is_kept w) t.1 ∙ (parts_kept a w f t.0 t.2).0;
  ends = λ ks t. ap (awaits_all w) t.1 ∙ (parts_kept a w f t.0 t.2).1;
}

-- nothing of the pattern changes what is awaited
abbrev is_still : Bool → Pattern → Bool
is_still w Done = true
is_still w (One k) = is_kept w (k ∷ []) && (cond w (awaits w k) (not (awaits w k)))
is_still w (Then a b) = is_still w a && is_still w b
is_still w (Or a b) = is_still w a && is_still w b
is_still w (Many a) = is_still w a

same : (w v : Bool) → cond w v (not v) ≡ true → v ≡ w
same true v e = e
same false true e = absurd cc
same false false e = refl

still : (w : Bool) (p : Pattern) → is_still w p ≡ true → Leads p w w
still w Done e = done w
still w (One k) e = let t = and_parts _ _ e in one k w w t.0 (same w (awaits w k) t.1)
still w (Then a b) e = let t = and_parts _ _ e in behind a b w w w (still w a t.0) (still w b t.1)
still w (Or a b) e = let t = and_parts _ _ e in either a b w w (still w a t.0) (still w b t.1)
still w (Many a) e = many a w (still w a e)

abbrev from_colrow : Pattern
from_colrow = Then g.COLROW g.XY

abbrev from_turn : Pattern
from_turn = Then g.turn from_colrow

abbrev from_sname : Pattern
from_sname = Then g.SNAME from_turn

abbrev from_plex : Pattern
from_plex = Then (g.maybe g.PLEX) from_sname

array_parts : Leads g.aref_parts true false
array_parts =
    behind (g.maybe g.ELFLAGS) from_plex true true false (still true (g.maybe g.ELFLAGS) refl)
    (behind (g.maybe g.PLEX) from_sname true true false (still true (g.maybe g.PLEX) refl)
    (behind g.SNAME from_turn true true false (still true g.SNAME refl)
    (behind g.turn from_colrow true true false (still true g.turn refl)
    (behind g.COLROW g.XY true false false (one 0x13 true false refl refl) (still false g.XY refl)))))

abbrev from_text : Pattern
from_text = Or (Then g.TEXT g.text_parts) (Or (Then g.NODE g.node_parts) (Then g.BOX g.box_parts))

abbrev from_aref : Pattern
from_aref = Or (Then g.AREF g.aref_parts) from_text

abbrev from_sref : Pattern
from_sref = Or (Then g.SREF g.sref_parts) from_aref

abbrev from_path : Pattern
from_path = Or (Then g.PATH g.path_parts) from_sref

bodies : Leads g.body false false
bodies =
    either (Then g.BOUNDARY g.boundary_parts) from_path false false (still false (Then g.BOUNDARY g.boundary_parts) refl)
    (either (Then g.PATH g.path_parts) from_sref false false (still false (Then g.PATH g.path_parts) refl)
    (either (Then g.SREF g.sref_parts) from_aref false false (still false (Then g.SREF g.sref_parts) refl)
    (either (Then g.AREF g.aref_parts) from_text false false (behind g.AREF g.aref_parts false true false (one 0x0B false true refl refl) array_parts) (still false from_text refl))))

abbrev properties : Pattern
properties = Then (Many (Then g.PROPATTR g.PROPVALUE)) g.ENDEL

elements : Leads g.element false false
elements = behind g.body properties false false false bodies (still false properties refl)

abbrev from_elements : Pattern
from_elements = Then (Many g.element) g.ENDSTR

structures : Leads g.structure false false
structures =
    behind g.BGNSTR (Then g.STRNAME from_elements) false false false (still false g.BGNSTR refl)
    (behind g.STRNAME from_elements false false false (still false g.STRNAME refl)
    (behind (Many g.element) g.ENDSTR false false false (many g.element false elements) (still false g.ENDSTR refl)))

abbrev from_structures : Pattern
from_structures = Then (Many g.structure) g.ENDLIB

abbrev from_units : Pattern
from_units = Then g.UNITS from_structures

abbrev from_options : Pattern
from_options = Then (Many g.option) from_units

abbrev from_name : Pattern
from_name = Then g.LIBNAME from_options

abbrev from_dates : Pattern
from_dates = Then g.BGNLIB (Then (Many g.option) from_name)

libraries : Leads g.library false false
libraries =
    behind g.HEADER from_dates false false false (still false g.HEADER refl)
    (behind g.BGNLIB (Then (Many g.option) from_name) false false false (still false g.BGNLIB refl)
    (behind (Many g.option) from_name false false false (still false (Many g.option) refl)
    (behind g.LIBNAME from_options false false false (still false g.LIBNAME refl)
    (behind (Many g.option) from_units false false false (still false (Many g.option) refl)
    (behind g.UNITS from_structures false false false (still false g.UNITS refl)
    (behind (Many g.structure) g.ENDLIB false false false (many g.structure false structures) (still false g.ENDLIB refl)))))))

-- ---- records

tests : (before : Records) (r : Rec) → fault_of before r ≡ None → (can_go_on before r.kind ≡ true) × (content_fault (opened before) (open_points before) (columns_of before) (rows_of before) r.kind r.body ≡ None)
tests before r h = let p = passed before r h in (p.in_order, p.sound)

not_awaited : (w : Bool) (rest : List ℕ) → is_kept w (0x11 ∷ rest) ≡ true → w ≡ false
not_awaited true rest e = absurd cc
not_awaited false rest e = refl

-- where an element may end, none is awaited
end_not_awaited : (before : Records) (r : Rec) → r.kind ≡ 0x11 → fault_of before r ≡ None → awaits_all false (kinds_of before) ≡ false
end_not_awaited before r e h =
    let on = (grammar_law before r.kind).0 (tests before r h).0 in
    let text = libraries.kept (kinds_of before ++ r.kind ∷ on.0) on.1 in
    let kept = kept_behind false (kinds_of before) (r.kind ∷ on.0) text in
    not_awaited (awaits_all false (kinds_of before)) on.0 (subst (λ (k : ℕ). is_kept (awaits_all false (kinds_of before)) (k ∷ on.0) ≡ true) e kept)

pub record AreCounts (columns rows : ℕ) : Type 0 where
  pub columns_some : 0 < columns
  pub rows_some : 0 < rows

counted : (n : ℕ) → is_count n ≡ true → 0 < n
counted n e = let f = (and_parts (nat_lt 0 n) (nat_lt n 32768) e).0 in grind (arith, f)

colrow_test : (a : Bool) (n : ℕ) → cond a None (Some n) ≡ None → a ≡ true
colrow_test true n e = refl
colrow_test false n e = absurd cc

colrow_counts : (start : ℕ) (so_far : List Point) (columns rows kind : ℕ) (body : List ℕ) → kind ≡ COLROW → content_fault start so_far columns rows kind body ≡ None → AreCounts (columns_in body) (rows_in body)
colrow_counts start so_far columns rows kind body e h =
    let t = and_parts _ _ (colrow_test (is_count (columns_in body) && is_count (rows_in body)) 12 (subst (λ (k : ℕ). content_fault start so_far columns rows k body ≡ None) e h)) in
    record { columns_some = counted (columns_in body) t.0; rows_some = counted (rows_in body) t.1 }

-- an open array that isn't awaited has its columns and rows
counts_by : (kind old : ℕ) (w colrow aref bound start end : Bool) (body rest : List ℕ)
    → (colrow ≡ true → AreCounts (columns_in body) (rows_in body))
    → (aref ≡ true → colrow ≡ false)
    → (start ≡ true → aref ≡ false → kind ≡ 0x0B → ⊥)
    → (bound ≡ false → (start ≡ false) × (end ≡ false))
    → (bound ≡ true → start ≡ false → end ≡ true)
    → (w ≡ false → old ≡ 0x0B → AreCounts (columns_in rest) (rows_in rest))
    → cond aref true (cond colrow false w) ≡ false → cond start kind (cond end 0 old) ≡ 0x0B
    → AreCounts (columns_in (cond colrow body (cond bound [] rest))) (rows_in (cond colrow body (cond bound [] rest)))
counts_by kind old w true aref bound start end body rest f a b c d h e o = f refl
counts_by kind old w false true bound start end body rest f a b c d h e o = absurd cc
counts_by kind old w false false true true end body rest f a b c d h e o = absurd (b refl refl o)
counts_by kind old w false false true false end body rest f a b c d h e o =
    let n : cond end 0 old ≡ 0 = ap (λ (x : Bool). cond x 0 old) (d refl refl) in
    let bad : 0x0B ≡ 0 = sym o ∙ n in absurd cc
counts_by kind old w false false false start end body rest f a b c d h e o =
    let n = c refl in
    let is_old : cond start kind (cond end 0 old) ≡ old = ap (λ (x : Bool). cond x kind (cond end 0 old)) n.0 ∙ ap (λ (x : Bool). cond x 0 old) n.1 in
    h e (sym is_old ∙ o)

aref_is : (k : ℕ) → (k == 0x0B) ≡ true → (k == 0x13) ≡ false
aref_is k e = ap (λ (n : ℕ). n == 0x13) (eqb-true _ _ e)

not_aref : (k : ℕ) → (k == 0x0B) ≡ false → k ≡ 0x0B → ⊥
not_aref k e h = let bad : true ≡ false = sym (ap (λ (n : ℕ). n == 0x0B) h) ∙ e in cc

second : (a b : Bool) → (a || b) ≡ true → a ≡ false → b ≡ true
second true b e f = absurd cc
second false b e f = e

open_counts : (rs : Records) → Passes rs → awaits_all false (kinds_of rs) ≡ false → opened rs ≡ 0x0B → AreCounts (columns_of rs) (rows_of rs)
open_counts NoRecords p e o = absurd cc
open_counts (before ▸ r) p e o =
    counts_by r.kind (opened before) (awaits_all false (kinds_of before)) (r.kind == COLROW) (r.kind == 0x0B) (is_bound r.kind) (is_start r.kind) (r.kind == ENDEL) r.body (part COLROW before)
    (λ k. colrow_counts (opened before) (open_points before) (columns_of before) (rows_of before) r.kind r.body (eqb-true _ _ k) (tests before r p.2).1)
    (aref_is r.kind) (λ s k. not_aref r.kind k) (or_parts (is_start r.kind) (r.kind == ENDEL)) (second (is_start r.kind) (r.kind == ENDEL))
    (open_counts before p.0) (sym (awaits_append false (kinds_of before) (r.kind ∷ [])) ∙ e) o

-- ---- references

abbrev Place : List Ref → Type 0
Place refs = ByRecursion HasPlacements refs

element_places : (start : ℕ) (cell : List ℕ) (motion : Motion) (columns rows : ℕ) (column_side row_side : Point) → (start ≡ 0x0B → AreCounts columns rows)
    → Place (refs_by start cell motion columns rows column_side row_side)
element_places start cell motion columns rows column_side row_side h = by_test (start == SREF) (start == AREF) (is_empty cell) refl
  where
    by_test : (s a none : Bool) → (start == AREF) ≡ a
        → Place (cond s (cond none [] (single cell motion ∷ [])) (cond a (cond none [] (array cell motion columns rows column_side row_side ∷ [])) []))
    by_test true a true e = tt
    by_test true a false e = (record { columns = omega arith; rows = omega arith }, tt)
    by_test false true true e = tt
    by_test false true false e = let c = h (eqb-true _ _ e) in (record { columns = c.columns_some; rows = c.rows_some }, tt)
    by_test false false none e = tt

refs_joined : (xs ys : List Ref) → Place xs → Place ys → Place (xs ++ ys)
refs_joined [] ys f h = h
refs_joined (x ∷ xs) ys f h = (f.0, refs_joined xs ys f.1 h)

refs_more : (a b : Bool) (xs ys : List Ref) → Place xs → (b ≡ true → Place ys) → Place (cond a [] (cond b (xs ++ ys) xs))
refs_more true b xs ys f h = tt
refs_more false true xs ys f h = refs_joined xs ys f (h refl)
refs_more false false xs ys f h = f

refs_place : (rs : Records) → Passes rs → Place (refs_of rs)
refs_place NoRecords p = tt
refs_place (before ▸ r) p =
    refs_more (is_cell_bound r.kind) (r.kind == ENDEL) (refs_of before) (open_refs before) (refs_place before p.0)
    (λ e. element_places (opened before) _ _ (columns_of before) (rows_of before) _ _ (λ o. open_counts before p.0 (end_not_awaited before r (eqb-true _ _ e) p.2) o))

-- ---- cells

abbrev Each : List Cell → Type 0
Each cells = ByRecursion ArePlaceable cells

cells_joined : (xs ys : List Cell) → Each xs → Each ys → Each (xs ++ ys)
cells_joined [] ys f h = h
cells_joined (x ∷ xs) ys f h = (f.0, cells_joined xs ys f.1 h)

one_cell : (none : Bool) (cell : Cell) → ArePlaceable cell → Each (cond none [] (cell ∷ []))
one_cell true cell f = tt
one_cell false cell f = (f, tt)

cells_more : (b : Bool) (xs ys : List Cell) → Each xs → Each ys → Each (cond b (xs ++ ys) xs)
cells_more true xs ys f h = cells_joined xs ys f h
cells_more false xs ys f h = f

cells_place : (rs : Records) → Passes rs → Each (cells_of rs)
cells_place NoRecords p = tt
cells_place (before ▸ r) p =
    cells_more (r.kind == ENDSTR) (cells_of before) (open_cells before) (cells_place before p.0)
    (one_cell _ _ (All-from_recursion HasPlacements (refs_of before) (refs_place before p.0)))

pub placeable_law : PlaceableLaw
placeable_law library (bytes, (rs, rest, begins, ended, is)) =
    subst (λ (v : Library). All ArePlaceable v.cells) is (All-from_recursion ArePlaceable (cells_of rs) (cells_place rs begins.passes))
