-- The corners of a rectangle pass the tests of a boundary's points.
use Rattle.std.proofs.Common.{◌≡◌, ℕ, Bool, true, cond, [], Option, Some, None, refl, ap, ℤ}
use Rattle.std.proofs.lemmas.Bool.{and_from, or_right, or_left}
use Rattle.std.specs.Ordering.{int_eq}
use Rattle.std.proofs.lemmas.Bool.Decides.{Decides-int_eq}
use Rattle.geo_base.specs.declared.shapes.Rect.{Rect}
use Rattle.gds_elements.specs.Data.{is_closed, is_straight}
use Rattle.gds_elements.specs.Faults.{are_complete, or_else, content_fault}
use Rattle.gds_shapes.specs.Stream.{corners, outline}
use Rattle.gds_shapes.proofs.Bodies.{rect_back}

same : (z : ℤ) → int_eq z z ≡ true
same z = (Decides-int_eq z z).1 refl

closed : (r : Rect) → is_closed (corners r) ≡ true
closed r = and_from _ _ (same r.x1) (same r.y1)

straight : (r : Rect) → is_straight (corners r) ≡ true
straight r = and_from _ _ (or_left _ _ (same r.x1)) (and_from _ _ (or_right _ _ (same r.y2)) (and_from _ _ (or_left _ _ (same r.x2)) (and_from _ _ (or_right _ _ (same r.y1)) refl)))

sound : (straight : Bool) → straight ≡ true → cond {A = Option ℕ} straight None (Some 6) ≡ None
sound straight e = rw e refl

-- they are closed, and enough
pub outline_whole : (r : Rect) → are_complete 0x08 (corners (rect_back r)) ≡ true
outline_whole r = closed (rect_back r)

pub outline_passes : (columns rows : ℕ) (r : Rect) → content_fault 0x08 [] columns rows 0x10 (outline r) ≡ None
outline_passes columns rows r = ap (λ (o : Option ℕ). or_else o None) (sound (is_straight (corners (rect_back r))) (straight (rect_back r)))
