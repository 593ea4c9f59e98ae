-- What the open element's parts are behind one record more.
use Rattle.std.proofs.Common.{◌≡◌, ℕ, Bool, true, false, cond, [], ◌++◌, refl, sym, ap, ◌∙◌}
use Rattle.std.specs.Prelude.{◌==◌}
use Rattle.std.proofs.lemmas.Bool.{eqb-true, or_parts}
use Rattle.gds_records.specs.Records.{Rec, Records, ◌▸◌}
use Rattle.gds_records.specs.Kinds.{ENDEL}
use Rattle.gds_elements.specs.Bounds.{is_start, is_bound}
use Rattle.gds_elements.specs.Meaning.{opened, found, cells_of, open_cells}

-- a record of a wanted kind
pub found_new : (wanted bound : ℕ → Bool) (before : Records) (r : Rec) → wanted r.kind ≡ true → found wanted bound (before ▸ r) ≡ r.body
found_new wanted bound before r e = ap (λ (b : Bool). cond b r.body (cond (bound r.kind) [] (found wanted bound before))) e

-- a record of another kind
pub found_still : (wanted bound : ℕ → Bool) (before : Records) (r : Rec) → wanted r.kind ≡ false → bound r.kind ≡ false → found wanted bound (before ▸ r) ≡ found wanted bound before
found_still wanted bound before r e f =
    ap (λ (b : Bool). cond b r.body (cond (bound r.kind) [] (found wanted bound before))) e ∙ ap (λ (b : Bool). cond b [] (found wanted bound before)) f

pub opened_still : (before : Records) (r : Rec) → is_bound r.kind ≡ false → opened (before ▸ r) ≡ opened before
opened_still before r e =
    let n = or_parts (is_start r.kind) (r.kind == ENDEL) e in
    ap (λ (b : Bool). cond b r.kind (cond (r.kind == ENDEL) 0 (opened before))) n.0 ∙ ap (λ (b : Bool). cond b 0 (opened before)) n.1

-- no structure ends
pub cells_still : (before : Records) (r : Rec) → (r.kind ≡ 0x07 → ⊥) → cells_of before ≡ cells_of (before ▸ r)
cells_still before r other = by_test (r.kind == 0x07) refl
  where
    by_test : (b : Bool) → (r.kind == 0x07) ≡ b → cells_of before ≡ cells_of (before ▸ r)
    by_test true e = absurd (other (eqb-true r.kind 0x07 e))
    by_test false e = ap (λ (b : Bool). cond b (cells_of before ++ open_cells before) (cells_of before)) (sym e)
