-- What a record that passes has, and what makes one pass.
use Rattle.std.proofs.Common.{◌≡◌, ℕ, Bool, true, false, cond, Option, Some, None, refl}
use Rattle.std.specs.Prelude.{not}
use Rattle.gds_records.specs.Records.{Rec, Records}
use Rattle.gds_grammar.specs.Order.{can_go_on}
use Rattle.gds_elements.specs.Meaning.{opened, last_kind, open_points, columns_of, rows_of}
use Rattle.gds_elements.specs.Faults.{is_unfinished, is_plain, content_fault, fault_of}

abbrev verdict : Bool → Bool → Bool → Option ℕ → Option ℕ
verdict a u b c = cond (not a) (Some 4) (cond u (Some 5) (cond (not b) (Some 5) c))

abbrev pub unfinished : Records → Rec → Bool
unfinished before r = is_unfinished (opened before) (last_kind before) (open_points before) r.kind

abbrev pub content : Records → Rec → Option ℕ
content before r = content_fault (opened before) (open_points before) (columns_of before) (rows_of before) r.kind r.body

pub record Passed (before : Records) (r : Rec) : Type 0 where
  pub in_order : can_go_on before r.kind ≡ true
  pub finished : unfinished before r ≡ false
  pub plain : is_plain r.kind r.form r.body ≡ true
  pub sound : content before r ≡ None

abbrev All4 : Bool → Bool → Bool → Option ℕ → Type 0
All4 a u b c = (a ≡ true) × (u ≡ false) × (b ≡ true) × (c ≡ None)

peeled : (a u b : Bool) (c : Option ℕ) → verdict a u b c ≡ None → All4 a u b c
peeled false u b c h = absurd cc
peeled true true b c h = absurd cc
peeled true false false c h = absurd cc
peeled true false true c h = (refl, refl, refl, h)

pub passed : (before : Records) (r : Rec) → fault_of before r ≡ None → Passed before r
passed before r h =
    let p = peeled (can_go_on before r.kind) (unfinished before r) (is_plain r.kind r.form r.body) (content before r) h in
    record { in_order = p.0; finished = p.1; plain = p.2; sound = p.3 }

covered : (a u b : Bool) (c : Option ℕ) → a ≡ true → u ≡ false → b ≡ true → c ≡ None → verdict a u b c ≡ None
covered a u b c e f g h = rw (e, f, g, h) refl

pub passes : (before : Records) (r : Rec) → can_go_on before r.kind ≡ true → unfinished before r ≡ false → is_plain r.kind r.form r.body ≡ true → content before r ≡ None → fault_of before r ≡ None
passes before r e f g h = covered (can_go_on before r.kind) (unfinished before r) (is_plain r.kind r.form r.body) (content before r) e f g h
