-- One record more.
use Rattle.std.proofs.Common.{◌≡◌, ℕ, ◌+◌, ◌%◌, Bool, true, false, cond, List, [], ◌∷◌, ◌++◌, length, Option, Some, None, refl, sym, ap, ◌∙◌, arith}
use Rattle.std.specs.Prelude.{◌==◌, ◌&&◌, ◌||◌, not, nat_le, nat_lt, bit_and, unsigned_abs, is_some}
use Rattle.std.proofs.lemmas.List.{append-nil, length-append}
use Rattle.gds_records.specs.Records.{Rec, record_bytes, Records, ◌▸◌, bytes_of}
use Rattle.gds_grammar.specs.declared.place.Place.{Place}
use Rattle.gds_grammar.specs.Pattern.{Pattern, after, after_any}
use Rattle.gds_grammar.specs.Left.{left_of, lefts_of}
use Rattle.gds_grammar.specs.Order.{left_after, is_empty, can_go_on}
use Rattle.geo_base.specs.declared.shapes.Point.{Point}
use Rattle.gds_elements.specs.Data.{number, long, columns_in, rows_in, is_count, points_of, is_closed, is_straight, side, goes_into, real_in, unit_in}
use Rattle.fixed_num.specs.Real.{is_one, quarter_of, is_unit}
use Rattle.gds_elements.specs.Bounds.{is_line}
use Rattle.gds_elements.specs.Meaning.{opened, last_kind, open_points, columns_of, rows_of}
use Rattle.gds_elements.specs.Faults.{is_unfinished, is_plain, outline_fault, line_fault, points_fault, array_fault, or_else, part_fault, path_fault, turn_fault, content_fault, fault_of}

abbrev verdict : Bool → Bool → Bool → Option ℕ → Option ℕ
verdict a u b c = cond (not a) (Some 4) (cond u (Some 5) (cond (not b) (Some 5) c))

abbrev unfinished : Records → Rec → Bool
unfinished before r = is_unfinished (opened before) (last_kind before) (open_points before) r.kind

abbrev content : Records → Rec → Option ℕ
content before r = content_fault (opened before) (open_points before) (columns_of before) (rows_of before) r.kind r.body

verdict-4 : (a u b : Bool) (c : Option ℕ) → a ≡ false → verdict a u b c ≡ Some 4
verdict-4 a u b c e = rw e refl

verdict-unfinished : (a u b : Bool) (c : Option ℕ) → a ≡ true → u ≡ true → verdict a u b c ≡ Some 5
verdict-unfinished a u b c e f = rw (e, f) refl

verdict-5 : (a u b : Bool) (c : Option ℕ) → a ≡ true → u ≡ false → b ≡ false → verdict a u b c ≡ Some 5
verdict-5 a u b c e f g = rw (e, f, g) refl

verdict-else : (a u b : Bool) (c : Option ℕ) → a ≡ true → u ≡ false → b ≡ true → verdict a u b c ≡ c
verdict-else a u b c e f g = rw (e, f, g) refl

-- what a reader holds of the open element
pub record Held (before : Records) (start last : ℕ) (points : List Point) : Type 0 where
  pub start_is : start ≡ opened before
  pub last_is : last ≡ last_kind before
  pub points_are : points ≡ open_points before

unfinished_is : (before : Records) (r : Rec) (start last : ℕ) (points : List Point) (b : Bool) → Held before start last points → is_unfinished start last points r.kind ≡ b → unfinished before r ≡ b
unfinished_is before r start last points b h e =
    ap (λ (k : ℕ). is_unfinished k (last_kind before) (open_points before) r.kind) (sym h.start_is)
    ∙ ap (λ (k : ℕ). is_unfinished start k (open_points before) r.kind) (sym h.last_is)
    ∙ ap (λ (ps : List Point). is_unfinished start last ps r.kind) (sym h.points_are)
    ∙ e

goes : (before : Records) (place : Place) (kind : ℕ) (o : Option Place) → left_after before ≡ left_of place ∷ [] → lefts_of o ≡ after kind (left_of place)
    → after_any kind (left_after before) ≡ lefts_of o
goes before place kind o h e = ap (λ (ps : List Pattern). after_any kind ps) h ∙ append-nil (after kind (left_of place)) ∙ sym e

pub next_place : (before : Records) (place next : Place) (r : Rec) → left_after before ≡ left_of place ∷ [] → lefts_of (Some next) ≡ after r.kind (left_of place)
    → left_after (before ▸ r) ≡ left_of next ∷ []
next_place before place next r h e = goes before place r.kind (Some next) h e

pub in_order : (before : Records) (place next : Place) (kind : ℕ) → left_after before ≡ left_of place ∷ [] → lefts_of (Some next) ≡ after kind (left_of place)
    → can_go_on before kind ≡ true
in_order before place next kind h e = ap (λ (ps : List Pattern). not (is_empty ps)) (goes before place kind (Some next) h e)

pub wrong_order : (before : Records) (place : Place) (r : Rec) → left_after before ≡ left_of place ∷ [] → lefts_of None ≡ after r.kind (left_of place) → fault_of before r ≡ Some 4
wrong_order before place r h e =
    let stuck : can_go_on before r.kind ≡ false = ap (λ (ps : List Pattern). not (is_empty ps)) (goes before place r.kind None h e) in
    verdict-4 (can_go_on before r.kind) (unfinished before r) (is_plain r.kind r.form r.body) (content before r) stuck

pub not_finished : (before : Records) (r : Rec) (start last : ℕ) (points : List Point) → can_go_on before r.kind ≡ true → Held before start last points → is_unfinished start last points r.kind ≡ true
    → fault_of before r ≡ Some 5
not_finished before r start last points e h f =
    verdict-unfinished (can_go_on before r.kind) (unfinished before r) (is_plain r.kind r.form r.body) (content before r) e (unfinished_is before r start last points true h f)

pub not_plain : (before : Records) (r : Rec) (start last : ℕ) (points : List Point) → can_go_on before r.kind ≡ true → Held before start last points → is_unfinished start last points r.kind ≡ false
    → is_plain r.kind r.form r.body ≡ false → fault_of before r ≡ Some 5
not_plain before r start last points e h f g =
    verdict-5 (can_go_on before r.kind) (unfinished before r) (is_plain r.kind r.form r.body) (content before r) e (unfinished_is before r start last points false h f) g

pub by_content : (before : Records) (r : Rec) (start last : ℕ) (points : List Point) (columns rows : ℕ) (found : Option ℕ) → can_go_on before r.kind ≡ true → Held before start last points → is_unfinished start last points r.kind ≡ false
    → is_plain r.kind r.form r.body ≡ true → columns ≡ columns_of before → rows ≡ rows_of before → found ≡ content_fault start points columns rows r.kind r.body → fault_of before r ≡ found
by_content before r start last points columns rows found e s f g col row h =
    verdict-else (can_go_on before r.kind) (unfinished before r) (is_plain r.kind r.form r.body) (content before r) e (unfinished_is before r start last points false s f) g
    ∙ ap (λ (k : ℕ). content_fault k (open_points before) (columns_of before) (rows_of before) r.kind r.body) (sym s.start_is)
    ∙ ap (λ (ps : List Point). content_fault start ps (columns_of before) (rows_of before) r.kind r.body) (sym s.points_are)
    ∙ ap (λ (k : ℕ). content_fault start points k (rows_of before) r.kind r.body) (sym col)
    ∙ ap (λ (k : ℕ). content_fault start points columns k r.kind r.body) (sym row)
    ∙ sym h

pub bytes_more : (before : Records) (r : Rec) → length (bytes_of (before ▸ r)) ≡ length (bytes_of before) + (length r.body + 4)
bytes_more before r = omega (arith, length-append (bytes_of before) (record_bytes r))

-- nothing passes where the grammar can't go on
pub never_behind_end : (before : Records) (r : Rec) → can_go_on before r.kind ≡ false → fault_of before r ≡ None → ⊥
never_behind_end before r e passed = stuck (can_go_on before r.kind) (unfinished before r) (is_plain r.kind r.form r.body) (content before r) e passed
  where
    stuck : (a u b : Bool) (c : Option ℕ) → a ≡ false → verdict a u b c ≡ None → ⊥
    stuck true u b c e h = cc
    stuck false u b c e h = cc

abbrev pub NotOne : Option ℕ → Type 0
NotOne None = Unit {0}
NotOne (Some n) = n ≡ 1 → ⊥

not_one : (n : ℕ) (o : Option ℕ) → o ≡ Some n → NotOne o → n ≡ 1 → ⊥
not_one n None e h one = absurd cc
not_one n (Some m) e h one = h (let same : m ≡ n = cc in same ∙ one)

either : (b : Bool) (x y : Option ℕ) → NotOne x → NotOne y → NotOne (cond b x y)
either true x y h g = h
either false x y h g = g

or_else-not_one : (x y : Option ℕ) → NotOne x → NotOne y → NotOne (or_else x y)
or_else-not_one None y h g = g
or_else-not_one (Some n) y h g = h

-- no fault of a record is 1
pub fault_not_one : (before : Records) (r : Rec) (n : ℕ) → fault_of before r ≡ Some n → n ≡ 1 → ⊥
fault_not_one before r n e = not_one n (fault_of before r) e (fault before r)
  where
    outline : (fits : Bool) (ps : List Point) → NotOne (outline_fault fits ps)
    outline fits ps = either (not fits) _ _ (λ e. cc) (either (is_straight ps) _ _ tt (λ e. cc))

    counted : (b : Bool) → NotOne (cond b None (Some 5))
    counted b = either b _ _ tt (λ e. cc)

    line : (w : Bool) (so_far ps : List Point) → NotOne (line_fault w so_far ps)
    line w so_far ps = either (not (w && nat_le 1 (length ps))) _ _ (λ e. cc) (either (nat_lt 1000000 (length so_far + length ps)) _ _ (λ e. cc) (either (is_straight (so_far ++ ps)) _ _ tt (λ e. cc)))

    points : (start : ℕ) (w : Bool) (so_far ps : List Point) → NotOne (points_fault start w so_far ps)
    points start w so_far ps =
        either (is_line start) _ _ (line w so_far ps)
        (either (start == 0x2D) _ _ (outline (w && length ps == 5 && is_closed ps) ps)
        (either (start == 0x0A || start == 0x0C) _ _ (counted (w && length ps == 1))
        (either (start == 0x0B) _ _ (counted (w && length ps == 3)) (counted (w && nat_le 1 (length ps))))))

    array : (start columns rows : ℕ) (body : List ℕ) → NotOne (array_fault start columns rows body)
    array start columns rows body = either (start == 0x0B && not (goes_into columns (side body 8) && goes_into rows (side body 16))) _ _ (λ e. cc) tt

    path : (kind : ℕ) (body : List ℕ) → NotOne (path_fault kind body)
    path kind body =
        either (kind == 0x21) _ _ (either (number body == 1) _ _ (λ e. cc) (either (number body == 0 || number body == 2 || number body == 4) _ _ tt (λ e. cc)))
        (either (kind == 0x0F) _ _ (either ((unsigned_abs (long body) % 2) == 0) _ _ tt (λ e. cc)) tt)

    turn : (kind : ℕ) (body : List ℕ) → NotOne (turn_fault kind body)
    turn kind body =
        either (kind == 0x1A) _ _ (either (bit_and (number body) 6 == 0) _ _ tt (λ e. cc))
        (either (kind == 0x1B) _ _ (either (is_one (real_in body)) _ _ tt (λ e. cc))
        (either (kind == 0x1C) _ _ (either (is_some (quarter_of (real_in body))) _ _ tt (λ e. cc)) tt))

    parts : (start kind : ℕ) (body : List ℕ) → NotOne (part_fault start kind body)
    parts start kind body = either (start == 0x09) _ _ (path kind body) (either (start == 0x0A || start == 0x0B) _ _ (turn kind body) tt)

    inner : (start : ℕ) (so_far : List Point) (columns rows kind : ℕ) (body : List ℕ) → NotOne (content_fault start so_far columns rows kind body)
    inner start so_far columns rows kind body =
        either (kind == 0x03) _ _ (either (is_unit (real_in (unit_in body))) _ _ tt (λ e. cc))
        (either (kind == 0x13) _ _ (either (is_count (columns_in body) && is_count (rows_in body)) _ _ tt (λ e. cc))
        (either (kind == 0x10) _ _ (or_else-not_one _ _ (points start ((length body % 8) == 0) so_far (points_of body)) (array start columns rows body))
        (parts start kind body)))

    fault : (before : Records) (r : Rec) → NotOne (fault_of before r)
    fault before r =
        either (not (can_go_on before r.kind)) _ _ (λ e. cc)
        (either (unfinished before r) _ _ (λ e. cc)
        (either (not (is_plain r.kind r.form r.body)) _ _ (λ e. cc) (inner (opened before) (open_points before) (columns_of before) (rows_of before) r.kind r.body)))
