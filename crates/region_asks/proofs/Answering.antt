-- What is asked of sets, told by Booleans of them.
use Rattle.std.proofs.Common.{◌≡◌, ◌↔◌, inl, inr, ℕ, ◌≤◌, Bool, true, false, not, List, Option, refl, sym, ◌∙◌, subst}
use Rattle.std.proofs.lemmas.Bool.{and_from, and_parts, cases_Bool, false≢true}
use Rattle.base_laws.proofs.Tests.{not_both}
use Rattle.geo_base.specs.Layers.{combined}
use Rattle.geo_base.specs.declared.layer.Op.TheVariants.{And, Not}
use Rattle.geo_base.specs.declared.shapes.Rect.{Rect}
use Rattle.geo_base.specs.declared.shapes.Square.{Square}
use Rattle.rect_sets.specs.Rects.{covers}
use Rattle.flat_layout.specs.Parts.{AllOn, Counts, IsCloseTo}
use Rattle.flat_laws.proofs.Count.{count_one}
use Rattle.gate_shapes.specs.Sets.{in_set}
use Rattle.gate_shapes.specs.Shapes.{Meet}
use Rattle.select_laws.specs.Selects.{IsBelow}

abbrev HasSquare : List Rect → Type 0
HasSquare set = (q : Square) × in_set set q

pub not_told : (b : Bool) (A : Type 0) → (b ≡ true) ↔ A → (not b ≡ true) ↔ (A → ⊥)
not_told true A told = ((λ e. absurd (false≢true e)), (λ no. absurd (no (told.0 refl))))
not_told false A told = ((λ e a. absurd (false≢true (told.1 a))), (λ no. refl))

pub meet_told : (one other both : List Rect) (b : Bool) → ((q : Square) → covers both q ≡ combined And (covers one q) (covers other q)) → (b ≡ true) ↔ HasSquare both → (b ≡ true) ↔ Meet one other
meet_told one other both b cut told = (
  (λ e. let h = told.0 e in let p = and_parts (covers one h.0) (covers other h.0) (sym (cut h.0) ∙ h.1) in (h.0, p.0, p.1)),
  (λ m. told.1 (m.0, cut m.0 ∙ and_from (covers one m.0) (covers other m.0) m.1 m.2)),
)

pub within_told : (one other outside : List Rect) (b : Bool) → ((q : Square) → covers outside q ≡ combined Not (covers one q) (covers other q)) → (b ≡ true) ↔ HasSquare outside → (not b ≡ true) ↔ AllOn (in_set one) (in_set other)
within_told one other outside b cut told =
    let no = not_told b (HasSquare outside) told in (
      (λ e q h. elim (cases_Bool (covers other q)) [
        | inl f ↦ f
        | inr f ↦ absurd (no.0 e (q, cut q ∙ and_from (covers one q) (not (covers other q)) h (opposite (covers other q) f)))
      ]),
      (λ all. no.1 (λ h.
          let p = and_parts (covers one h.0) (not (covers other h.0)) (sym (cut h.0) ∙ h.1) in
          not_both (covers other h.0) (all h.0 p.0) (unopposite (covers other h.0) p.1))),
    )
  where
    opposite : (b : Bool) → b ≡ false → not b ≡ true
    opposite true e = absurd (false≢true (sym e))
    opposite false e = refl

    unopposite : (b : Bool) → not b ≡ true → b ≡ false
    unopposite true e = absurd (false≢true e)
    unopposite false e = refl

pub area_told : (set : List Rect) (low n : ℕ) (high : Option ℕ) (b : Bool) → Counts (in_set set) n → (b ≡ true) ↔ ((low ≤ n) × IsBelow n high) → (b ≡ true) ↔ ((m : ℕ) × Counts (in_set set) m × (low ≤ m) × IsBelow m high)
area_told set low n high b counts told = (
  (λ e. let h = told.0 e in (n, counts, h.0, h.1)),
  (λ h.
      let same = count_one (in_set set) h.0 n h.1 counts in
      told.1 (subst (λ k. low ≤ k) same h.2, subst (λ k. IsBelow k high) same h.3)),
)

-- close squares are those of the set that has them
pub close_told : (part close other : List Rect) (b : Bool) → ((q : Square) → in_set close q ↔ IsCloseTo (in_set part) q) → (b ≡ true) ↔ Meet close other → (b ≡ true) ↔ ((q : Square) × IsCloseTo (in_set part) q × in_set other q)
close_told part close other b all told = (
  (λ e. let h = told.0 e in (h.0, (all h.0).0 h.1, h.2)),
  (λ h. told.1 (h.0, (all h.0).1 h.1, h.2)),
)

pub miss_told : (part other : List Rect) (b : Bool) → (b ≡ true) ↔ (Meet part other → ⊥) → (b ≡ true) ↔ ((q : Square) → in_set part q → in_set other q → ⊥)
miss_told part other b told = ((λ e q h g. told.0 e (q, h, g)), (λ no. told.1 (λ m. no m.0 m.1 m.2)))
