-- The open reference's turn, as it is read behind its STRANS and ANGLE.
use Rattle.std.proofs.Common.{◌≡◌, ℕ, ◌<◌, Bool, true, false, cond, List, [], ◌∷◌, Option, None, refl, ap, ◌∙◌, arith}
use Rattle.std.specs.Prelude.{◌==◌, ◌||◌, not, nat_le}
use Rattle.geo_base.specs.declared.motion.Turn.{Turn}
use Rattle.geo_base.specs.declared.motion.Turn.TheVariants.{R0, R90, R180, R270, M0, M90, M180, M270}
use Rattle.gds_records.specs.Records.{IsRecord, Records, ◌▸◌, followed_by_all}
use Rattle.gds_records.specs.Kinds.{PATH, SREF, AREF, STRANS, ANGLE}
use Rattle.gds_grammar.specs.Pattern.{Pattern, after_any}
use Rattle.gds_grammar.specs.Order.{left_after, is_empty}
use Rattle.gds_elements.specs.Data.{number}
use Rattle.gds_elements.specs.Meaning.{Shape, Ref, Cell, opened, last_kind, open_points, columns_of, rows_of, part, text_part, is_mirrored, quarters, turn_of}
use Rattle.gds_elements.specs.Faults.{is_unfinished, turn_fault, content_fault, fault_of}
use Rattle.geo_base.specs.declared.shapes.Point.{Point}
use Rattle.gds_shapes.specs.References.{strans, angle, turning}
use Rattle.gds_shapes.specs.Stream.{Heading, Drawn}
use Rattle.gds_shapes.proofs.Bodies.{nil, cons}
use Rattle.gds_shapes.proofs.Context.{Head, Body, passes_next, goes_on, head_more, body_more}

-- a reference is open, its cell was named, and it is turned so; a record of the kind `next` may follow
pub record Placed (h : Heading) (cells : List Cell) (cell : Drawn) (shapes : List Shape) (refs : List Ref) (start next : ℕ) (left : List Pattern) (name : List ℕ) (turn : Turn) (rs : Records) : Type 0 where
  pub head : Head h cells rs
  pub body : Body cell shapes refs rs
  pub opened_is : opened rs ≡ start
  pub name_is : text_part rs ≡ name
  pub turn_is : turn_of (is_mirrored rs) (quarters (part ANGLE rs)) ≡ turn
  pub left_is : after_any next (left_after rs) ≡ left

-- and neither STRANS nor ANGLE stands there yet
pub record Named (h : Heading) (cells : List Cell) (cell : Drawn) (shapes : List Shape) (refs : List Ref) (start : ℕ) (before : List Pattern) (name : List ℕ) (rs : Records) : Type 0 where
  pub head : Head h cells rs
  pub body : Body cell shapes refs rs
  pub opened_is : opened rs ≡ start
  pub finished : (k : ℕ) → is_unfinished (opened rs) (last_kind rs) (open_points rs) k ≡ false
  pub name_is : text_part rs ≡ name
  pub no_strans : part STRANS rs ≡ []
  pub no_angle : part ANGLE rs ≡ []
  pub left_is : left_after rs ≡ before

-- the grammar lets both stand there, and the next kind behind each
pub record IsTurnPlace (before left : List Pattern) (next : ℕ) : Type 0 where
  pub strans : not (is_empty (after_any STRANS before)) ≡ true
  pub angle : not (is_empty (after_any ANGLE (after_any STRANS before))) ≡ true
  pub none : after_any next before ≡ left
  pub one : after_any next (after_any STRANS before) ≡ left
  pub both : after_any next (after_any ANGLE (after_any STRANS before)) ≡ left

pub any_none : (a b : Bool) → (let none : Option ℕ = None in cond a none (cond b none none)) ≡ None
any_none true b = refl
any_none false true = refl
any_none false false = refl

strans_passes : (start : ℕ) (so_far : List Point) (columns rows : ℕ) (bits : List ℕ) → turn_fault STRANS bits ≡ None → content_fault start so_far columns rows STRANS bits ≡ None
strans_passes start so_far columns rows bits h = ap (λ (o : Option ℕ). let none : Option ℕ = None in cond (start == PATH) none (cond (start == SREF || start == AREF) o none)) h ∙ any_none (start == PATH) (start == SREF || start == AREF)

strans_record : (a b : ℕ) → a < 256 → b < 256 → IsRecord (strans (a ∷ b ∷ []))
strans_record a b f g = record { kind = refl; form = omega arith; even = refl; short = omega arith; bytes = cons a (b ∷ []) f (cons b [] g nil) }

angle_passes : (start : ℕ) (so_far : List Point) (columns rows : ℕ) (degrees : List ℕ) → turn_fault ANGLE degrees ≡ None → content_fault start so_far columns rows ANGLE degrees ≡ None
angle_passes start so_far columns rows degrees h = ap (λ (o : Option ℕ). let none : Option ℕ = None in cond (start == PATH) none (cond (start == SREF || start == AREF) o none)) h ∙ any_none (start == PATH) (start == SREF || start == AREF)

angle_record : (a b c : ℕ) → a < 256 → b < 256 → c < 256 → IsRecord (angle (a ∷ b ∷ c ∷ 0 ∷ 0 ∷ 0 ∷ 0 ∷ 0 ∷ []))
angle_record a b c f g h =
    let z : 0 < 256 = omega arith in
    record {
      kind = refl;
      form = omega arith;
      even = refl;
      short = omega arith;
      bytes = cons a (b ∷ c ∷ 0 ∷ 0 ∷ 0 ∷ 0 ∷ 0 ∷ []) f (cons b (c ∷ 0 ∷ 0 ∷ 0 ∷ 0 ∷ 0 ∷ []) g (cons c (0 ∷ 0 ∷ 0 ∷ 0 ∷ 0 ∷ []) h (cons 0 (0 ∷ 0 ∷ 0 ∷ 0 ∷ []) z (cons 0 (0 ∷ 0 ∷ 0 ∷ []) z (cons 0 (0 ∷ 0 ∷ []) z (cons 0 (0 ∷ []) z (cons 0 [] z nil)))))));
    }

-- STRANS more
strans_more : (h : Heading) (cells : List Cell) (cell : Drawn) (shapes : List Shape) (refs : List Ref) (start next : ℕ) (before left : List Pattern) (name : List ℕ) (rs : Records) (a b : ℕ)
    → IsTurnPlace before left next → a < 256 → b < 256 → turn_fault STRANS (a ∷ b ∷ []) ≡ None
    → Named h cells cell shapes refs start before name rs
    → Head h cells (rs ▸ strans (a ∷ b ∷ [])) × Body cell shapes refs (rs ▸ strans (a ∷ b ∷ [])) × (left_after (rs ▸ strans (a ∷ b ∷ [])) ≡ after_any STRANS before)
strans_more h cells cell shapes refs start next before left name rs a b place f g passes s =
    let r = strans (a ∷ b ∷ []) in
    let pass : fault_of rs r ≡ None = passes_next rs r (s.finished STRANS) (goes_on rs STRANS before s.left_is place.strans) refl (strans_passes (opened rs) (open_points rs) (columns_of rs) (rows_of rs) (a ∷ b ∷ []) passes) in
    (head_more h cells rs r refl s.head (strans_record a b f g) pass, body_more cell shapes refs rs r refl s.body, ap (λ (ps : List Pattern). after_any STRANS ps) s.left_is)

only_strans : (h : Heading) (cells : List Cell) (cell : Drawn) (shapes : List Shape) (refs : List Ref) (start next : ℕ) (before left : List Pattern) (name : List ℕ) (rs : Records) (a b : ℕ) (turn : Turn)
    → IsTurnPlace before left next → a < 256 → b < 256 → turn_fault STRANS (a ∷ b ∷ []) ≡ None → turn_of (nat_le 32768 (number (a ∷ b ∷ []))) 0 ≡ turn
    → Named h cells cell shapes refs start before name rs
    → Placed h cells cell shapes refs start next left name turn (rs ▸ strans (a ∷ b ∷ []))
only_strans h cells cell shapes refs start next before left name rs a b turn place f g passes t s =
    let more = strans_more h cells cell shapes refs start next before left name rs a b place f g passes s in
    record {
      head = more.0;
      body = more.1;
      opened_is = s.opened_is;
      name_is = s.name_is;
      turn_is = ap (λ (bytes : List ℕ). turn_of (nat_le 32768 (number (a ∷ b ∷ []))) (quarters bytes)) s.no_angle ∙ t;
      left_is = ap (λ (ps : List Pattern). after_any next ps) more.2 ∙ place.one;
    }

with_angle : (h : Heading) (cells : List Cell) (cell : Drawn) (shapes : List Shape) (refs : List Ref) (start next : ℕ) (before left : List Pattern) (name : List ℕ) (rs : Records) (a b x y z : ℕ) (turn : Turn)
    → IsTurnPlace before left next → a < 256 → b < 256 → turn_fault STRANS (a ∷ b ∷ []) ≡ None
    → x < 256 → y < 256 → z < 256 → turn_fault ANGLE (x ∷ y ∷ z ∷ 0 ∷ 0 ∷ 0 ∷ 0 ∷ 0 ∷ []) ≡ None
    → turn_of (nat_le 32768 (number (a ∷ b ∷ []))) (quarters (x ∷ y ∷ z ∷ 0 ∷ 0 ∷ 0 ∷ 0 ∷ 0 ∷ [])) ≡ turn
    → Named h cells cell shapes refs start before name rs
    → Placed h cells cell shapes refs start next left name turn (rs ▸ strans (a ∷ b ∷ []) ▸ angle (x ∷ y ∷ z ∷ 0 ∷ 0 ∷ 0 ∷ 0 ∷ 0 ∷ []))
with_angle h cells cell shapes refs start next before left name rs a b x y z turn place f g passes i j k passes_angle t s =
    let one = rs ▸ strans (a ∷ b ∷ []) in
    let degrees = x ∷ y ∷ z ∷ 0 ∷ 0 ∷ 0 ∷ 0 ∷ 0 ∷ [] in
    let more = strans_more h cells cell shapes refs start next before left name rs a b place f g passes s in
    let pass : fault_of one (angle degrees) ≡ None = passes_next one (angle degrees) refl (goes_on one ANGLE (after_any STRANS before) more.2 place.angle) refl (angle_passes (opened one) (open_points one) (columns_of one) (rows_of one) degrees passes_angle) in
    record {
      head = head_more h cells one (angle degrees) refl more.0 (angle_record x y z i j k) pass;
      body = body_more cell shapes refs one (angle degrees) refl more.1;
      opened_is = s.opened_is;
      name_is = s.name_is;
      turn_is = t;
      left_is = ap (λ (ps : List Pattern). after_any next (after_any ANGLE ps)) more.2 ∙ place.both;
    }

pub turning_more : (h : Heading) (cells : List Cell) (cell : Drawn) (shapes : List Shape) (refs : List Ref) (start next : ℕ) (before left : List Pattern) (name : List ℕ) (rs : Records) (turn : Turn)
    → IsTurnPlace before left next → Named h cells cell shapes refs start before name rs
    → Placed h cells cell shapes refs start next left name turn (followed_by_all rs (turning turn))
turning_more h cells cell shapes refs start next before left name rs R0 place s =
    record {
      head = s.head;
      body = s.body;
      opened_is = s.opened_is;
      name_is = s.name_is;
      turn_is = ap (λ (bytes : List ℕ). turn_of (nat_le 32768 (number bytes)) (quarters (part ANGLE rs))) s.no_strans ∙ ap (λ (bytes : List ℕ). turn_of false (quarters bytes)) s.no_angle;
      left_is = ap (λ (ps : List Pattern). after_any next ps) s.left_is ∙ place.none;
    }
turning_more h cells cell shapes refs start next before left name rs M0 place s =
    only_strans h cells cell shapes refs start next before left name rs 0x80 0 M0 place (omega arith) (omega arith) refl refl s
turning_more h cells cell shapes refs start next before left name rs R90 place s =
    with_angle h cells cell shapes refs start next before left name rs 0 0 0x42 0x5A 0 R90 place (omega arith) (omega arith) refl (omega arith) (omega arith) (omega arith) refl refl s
turning_more h cells cell shapes refs start next before left name rs R180 place s =
    with_angle h cells cell shapes refs start next before left name rs 0 0 0x42 0xB4 0 R180 place (omega arith) (omega arith) refl (omega arith) (omega arith) (omega arith) refl refl s
turning_more h cells cell shapes refs start next before left name rs R270 place s =
    with_angle h cells cell shapes refs start next before left name rs 0 0 0x43 0x10 0xE0 R270 place (omega arith) (omega arith) refl (omega arith) (omega arith) (omega arith) refl refl s
turning_more h cells cell shapes refs start next before left name rs M90 place s =
    with_angle h cells cell shapes refs start next before left name rs 0x80 0 0x42 0x5A 0 M90 place (omega arith) (omega arith) refl (omega arith) (omega arith) (omega arith) refl refl s
turning_more h cells cell shapes refs start next before left name rs M180 place s =
    with_angle h cells cell shapes refs start next before left name rs 0x80 0 0x42 0xB4 0 M180 place (omega arith) (omega arith) refl (omega arith) (omega arith) (omega arith) refl refl s
turning_more h cells cell shapes refs start next before left name rs M270 place s =
    with_angle h cells cell shapes refs start next before left name rs 0x80 0 0x43 0x10 0xE0 M270 place (omega arith) (omega arith) refl (omega arith) (omega arith) (omega arith) refl refl s
