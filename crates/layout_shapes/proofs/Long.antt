-- What a cell that isn't wide holds has room in a stream.
use Rattle.std.proofs.Common.{◌≡◌, ℕ, zero, suc, ℤ, Bool, true, false, ◌&&◌, not, List, [], ◌∷◌, Option, Some, None, slice_get, subst, arith}
use Rattle.std.proofs.lemmas.Bool.{and_parts, not-false, or_parts}
use Rattle.std.proofs.lemmas.Int.{ints}
use Rattle.std.specs.List.{All, AllByRecursion as ByRecursion, list_any}
use Rattle.std.proofs.lemmas.List.Elements.{All-from_recursion}
use Rattle.geo_base.specs.Near.{IsLong, IsLongRect}
use Rattle.geo_base.specs.declared.shapes.Rect.{Rect}
use Rattle.rule_text.specs.declared.rules.Output.{Output}
use Rattle.rule_text.specs.Rules.{Rules}
use Rattle.deep_tables.specs.declared.layers.CellLayers.{CellLayers}
use Rattle.layout_shapes.specs.Wide.{has_wide_line, is_long, is_long_rect, is_wide_line}
use Rattle.layout_shapes.specs.Written.{line_of}

long : (z : ℤ) → is_long z ≡ true → IsLong z
long z h = record { low = grind (arith, ints); high = grind (arith, ints) }

long_rect : (r : Rect) → is_long_rect r ≡ true → IsLongRect r
long_rect r h =
    let low = (and_parts (is_long r.x1 && is_long r.y1) (is_long r.x2 && is_long r.y2) h).0 in
    let high = (and_parts (is_long r.x1 && is_long r.y1) (is_long r.x2 && is_long r.y2) h).1 in
    record {
      x1 = long r.x1 ((and_parts (is_long r.x1) (is_long r.y1) low).0);
      y1 = long r.y1 ((and_parts (is_long r.x1) (is_long r.y1) low).1);
      x2 = long r.x2 ((and_parts (is_long r.x2) (is_long r.y2) high).0);
      y2 = long r.y2 ((and_parts (is_long r.x2) (is_long r.y2) high).1);
    }

long_rects : (rects : List Rect) → is_wide_line rects ≡ false → ByRecursion IsLongRect rects
long_rects [] h = tt
long_rects (r ∷ rects) h =
    (long_rect r (not-false (is_long_rect r) ((or_parts (not (is_long_rect r)) (is_wide_line rects) h).0)), long_rects rects ((or_parts (not (is_long_rect r)) (is_wide_line rects) h).1))

none_at : {X : Type 0} (f : X → Bool) (xs : List X) (k : ℕ) (x : X) → list_any f xs ≡ false → slice_get xs k ≡ Some x → f x ≡ false
none_at f [] k x h e = let g : None ≡ Some x = e in absurd (let z : ⊥ = cc in z)
none_at f (y ∷ xs) zero x h e = let g : y ≡ x = cc in subst (λ v. f v ≡ false) g ((or_parts (f y) (list_any f xs) h).0)
none_at f (y ∷ xs) (suc k) x h e = none_at f xs k x ((or_parts (f y) (list_any f xs) h).1) e

pub narrow_line : (table : List (Option CellLayers)) (r : Rules) (cell k : ℕ) (o : Output) → has_wide_line table r cell ≡ false → slice_get r.outputs k ≡ Some o → All IsLongRect (line_of table cell o).1
narrow_line table r cell k o h e =
    All-from_recursion IsLongRect (line_of table cell o).1 (long_rects (line_of table cell o).1 (none_at (λ (o : Output). is_wide_line (line_of table cell o).1) r.outputs k o h e))
