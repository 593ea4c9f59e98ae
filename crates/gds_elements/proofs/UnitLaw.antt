-- An accepted library has a unit.
use Rattle.std.proofs.Common.{◌≡◌, ℕ, Bool, true, false, cond, List, [], ◌∷◌, ◌++◌, length, replicate, Some, None, refl, sym, ap, subst, ◌∙◌, append_assoc}
use Rattle.std.specs.Prelude.{◌==◌, ◌||◌, take, drop}
use Rattle.std.specs.List.{list_any}
use Rattle.std.proofs.lemmas.Bool.{eqb-true, or_right, true≢false}
use Rattle.std.proofs.lemmas.List.Folds.{list_any-append}
use Rattle.gds_records.specs.Records.{Rec, Records, NoRecords, ◌▸◌}
use Rattle.gds_records.specs.Kinds.{UNITS}
use Rattle.gds_grammar.specs.Pattern.{Pattern, Then, Many, Allows}
use Rattle.gds_grammar.specs.Grammar as g
use Rattle.gds_grammar.specs.Order.{kinds_of, can_go_on, IsEnded}
use Rattle.gds_grammar.proofs.GrammarLaw.{grammar_law}
use Rattle.gds_grammar.proofs.LastRecord.{stops}
use Rattle.gds_elements.specs.Data.{exactly, real_in, unit_in}
use Rattle.fixed_num.specs.Real.{is_unit}
use Rattle.gds_elements.specs.Meaning.{Library, opened, open_points, columns_of, rows_of, head_part}
use Rattle.gds_elements.specs.Faults.{content_fault, fault_of, Passes}
use Rattle.gds_elements.proofs.Passing.{passed}
use Rattle.gds_elements.specs.Units.{IsUnit, MeasuredLaw}
use Rattle.fixed_num.proofs.Turns.{unit_nearest}

-- ---- a library has UNITS, which pass

abbrev has_units : List ℕ → Bool
has_units ks = list_any (λ k. k == 0x03) ks

behind : (a b : Pattern) (ks : List ℕ) → Allows (Then a b) ks → ((ys : List ℕ) → Allows b ys → has_units ys ≡ true) → has_units ks ≡ true
behind a b ks h f = ap (λ (zs : List ℕ). has_units zs) h.2 ∙ list_any-append (λ (k : ℕ). k == 0x03) h.0 h.1 ∙ or_right _ _ (f h.1 h.4)

at_front : (b : Pattern) (ks : List ℕ) → (xs : List ℕ) × (ys : List ℕ) × (ks ≡ xs ++ ys) × (xs ≡ 0x03 ∷ []) × Allows b ys → has_units ks ≡ true
at_front b ks h = ap (λ (zs : List ℕ). has_units zs) h.2 ∙ ap (λ (zs : List ℕ). has_units (zs ++ h.1)) h.3

abbrev from_units : Pattern
from_units = Then g.UNITS (Then (Many g.structure) g.ENDLIB)

abbrev from_name : Pattern
from_name = Then g.LIBNAME (Then (Many g.option) from_units)

abbrev from_start : Pattern
from_start = Then g.BGNLIB (Then (Many g.option) from_name)

library_units : (ks : List ℕ) → Allows g.library ks → has_units ks ≡ true
library_units ks h =
    behind g.HEADER from_start ks h (λ xs a. behind g.BGNLIB (Then (Many g.option) from_name) xs a (λ ys b. behind (Many g.option) from_name ys b
    (λ zs c. behind g.LIBNAME (Then (Many g.option) from_units) zs c (λ us d. behind (Many g.option) from_units us d (λ vs e. at_front (Then (Many g.structure) g.ENDLIB) vs e)))))

ended_units : (rs : Records) → Passes rs → IsEnded rs → has_units (kinds_of rs) ≡ true
ended_units NoRecords p e = absurd cc
ended_units (before ▸ r) p e =
    let on : can_go_on before r.kind ≡ true = (passed before r p.2).in_order in
    let u = (grammar_law before r.kind).0 on in
    by_rest u.0 u.1
  where
    by_rest : (rest : List ℕ) → Allows g.library (kinds_of before ++ r.kind ∷ rest) → has_units (kinds_of (before ▸ r)) ≡ true
    by_rest [] h = library_units (kinds_of (before ▸ r)) h
    by_rest (k ∷ ks) h =
        let whole : kinds_of before ++ r.kind ∷ k ∷ ks ≡ kinds_of (before ▸ r) ++ k ∷ ks = sym (append_assoc (kinds_of before) (r.kind ∷ []) (k ∷ ks)) in
        let on : can_go_on (before ▸ r) k ≡ true = (grammar_law (before ▸ r) k).1 (ks, subst (λ (zs : List ℕ). Allows g.library zs) whole h) in
        absurd (true≢false (sym on ∙ stops (before ▸ r) k e))

unit_tested : (u : Bool) (n : ℕ) → cond u None (Some n) ≡ None → u ≡ true
unit_tested true n e = refl
unit_tested false n e = absurd cc

or_left : (a b : Bool) → b ≡ false → (a || b) ≡ true → a ≡ true
or_left true b e h = refl
or_left false b e h = absurd (true≢false (sym h ∙ e))

unit_more : (before : Records) (r : Rec) → fault_of before r ≡ None → (has_units (kinds_of before) ≡ true → is_unit (real_in (unit_in (head_part UNITS before))) ≡ true)
    → has_units (kinds_of (before ▸ r)) ≡ true → is_unit (real_in (unit_in (head_part UNITS (before ▸ r)))) ≡ true
unit_more before r p so_far h = by_test (r.kind == 0x03) refl
  where
    by_test : (b : Bool) → (r.kind == 0x03) ≡ b → is_unit (real_in (unit_in (cond b r.body (head_part UNITS before)))) ≡ true
    by_test true e =
        let content = (passed before r p).sound in
        let kind : r.kind ≡ 0x03 = eqb-true _ _ e in
        unit_tested (is_unit (real_in (unit_in r.body))) 13 (subst (λ (k : ℕ). content_fault (opened before) (open_points before) (columns_of before) (rows_of before) k r.body ≡ None) kind content)
    by_test false e =
        let parts = sym (list_any-append (λ (k : ℕ). k == 0x03) (kinds_of before) (r.kind ∷ [])) ∙ h in
        so_far (or_left (has_units (kinds_of before)) _ (ap (λ (b : Bool). b || false) e) parts)

unit_read : (rs : Records) → Passes rs → has_units (kinds_of rs) ≡ true → is_unit (real_in (unit_in (head_part UNITS rs))) ≡ true
unit_read NoRecords p h = absurd cc
unit_read (before ▸ r) p h = unit_more before r p.2 (unit_read before p.0) h

-- ---- the unit of the sixteen bytes

exactly_twice : (bytes : List ℕ) → exactly 16 (exactly 16 bytes) ≡ exactly 16 bytes
exactly_twice bytes = by_test (length bytes == 16) refl
  where
    by_test : (b : Bool) → (length bytes == 16) ≡ b → exactly 16 (cond b bytes (replicate 16 0)) ≡ cond b bytes (replicate 16 0)
    by_test true e = ap (λ (b : Bool). cond b bytes (replicate 16 0)) e
    by_test false e = refl

pub measured_law : MeasuredLaw
measured_law library (bytes, (rs, rest, begins, ended, is)) =
    let named = head_part UNITS rs in
    let unit : is_unit (real_in (unit_in named)) ≡ true = unit_read rs begins.passes (ended_units rs begins.passes ended) in
    let again : is_unit (real_in (unit_in (exactly 16 named))) ≡ true = ap (λ (ks : List ℕ). is_unit (real_in (take 8 (drop 8 ks)))) (exactly_twice named) ∙ unit in
    subst (λ (v : Library). (k : ℕ) × IsUnit (unit_in v.units) k) is (unit_nearest (real_in (unit_in (exactly 16 named))) again)
