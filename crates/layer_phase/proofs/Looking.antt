-- What is looked at, one rectangle after another.
use Rattle.std.proofs.Common.{◌≡◌, ◌↔◌, inl, inr, ℕ, ◌<◌, ◌+◌, true, ◌||◌, List, ◌++◌, length, take, slice_index_or, sym, ◌∙◌, ap}
use Rattle.std.proofs.lemmas.Bool.{or_cases, or_left, or_right}
use Rattle.geo_base.specs.Rects.{has}
use Rattle.geo_base.specs.declared.shapes.Rect.{Rect}
use Rattle.geo_base.specs.declared.shapes.Square.{Square}
use Rattle.rect_sets.specs.Rects.{covers}
use Rattle.cell_context.proofs.Collecting.{covers_append, covers_more}

-- squares with a property, gathered so far
pub grow_by : (P : Square → Type 0) (old more new rects : List Rect) (k : ℕ) (z : Rect) → k < length rects → new ≡ old ++ more
    → ((q : Square) → (covers old q ≡ true) ↔ ((covers (take k rects) q ≡ true) × P q))
    → ((q : Square) → (covers more q ≡ true) ↔ ((has (slice_index_or rects k z) q ≡ true) × P q))
    → (q : Square) → (covers new q ≡ true) ↔ ((covers (take (k + 1) rects) q ≡ true) × P q)
grow_by P old more new rects k z lt e before here q =
    let joined : covers new q ≡ (covers old q || covers more q) = ap (λ l. covers l q) e ∙ covers_append old more q in
    let next = covers_more rects k z q lt in (
      (λ h. elim (or_cases (covers old q) (covers more q) (sym joined ∙ h)) [
        | inl g ↦ let b = (before q).0 g in (next ∙ or_left (covers (take k rects) q) (has (slice_index_or rects k z) q) b.0, b.1)
        | inr g ↦ let b = (here q).0 g in (next ∙ or_right (covers (take k rects) q) (has (slice_index_or rects k z) q) b.0, b.1)
      ]),
      (λ h. joined ∙ elim (or_cases (covers (take k rects) q) (has (slice_index_or rects k z) q) (sym next ∙ h.0)) [
        | inl g ↦ or_left (covers old q) (covers more q) ((before q).1 (g, h.1))
        | inr g ↦ or_right (covers old q) (covers more q) ((here q).1 (g, h.1))
      ]),
    )
